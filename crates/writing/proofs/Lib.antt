pub mod Common
pub mod FieldsPut
pub mod WriteAnswers
pub mod WroteOnce
pub mod RoundTrips
