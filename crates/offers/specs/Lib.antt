-- What the code that works out a reason list reads and offers.
pub mod Work
pub mod Kinds
pub mod Drafts
