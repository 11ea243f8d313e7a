-- The three demands hold: demand1, demand2, demand3. So do the laws of the pair: pair_laws.
pub mod FileCodes
pub mod Demand1
pub mod Demand2
pub mod OneFile
pub mod Demand3
pub mod Pair
pub mod Earliest
pub mod Wrong
