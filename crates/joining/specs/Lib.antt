-- Lent: that a table is sound in one way only. Takes: what a step does to a lent table.
pub mod Lent
pub mod Takes
