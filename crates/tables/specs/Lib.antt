-- How the rounds end.
pub mod Ends
