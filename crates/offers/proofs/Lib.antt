-- What the walks through the code cite.
pub mod OfferLaws
pub mod GivenLaws
pub mod Common
