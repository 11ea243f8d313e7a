-- What is read through a reader.
pub mod Planned
pub mod Plans
