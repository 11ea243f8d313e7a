-- What Add's inner functions ask.
pub mod Lent
