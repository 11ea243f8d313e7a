-- A reason list as a slice of line structs.
pub mod Reads
