-- The reader of a plan file, and what is read through it.
pub mod Reads
