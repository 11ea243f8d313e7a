-- How many lines of a reason list one line rests on.
pub mod Rests
