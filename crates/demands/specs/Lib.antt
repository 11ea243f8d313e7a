-- The three demands, and the laws of the pair Sound and Judge, each a type that is proved by one name.
pub mod Programs
pub mod Demand1
pub mod Demand2
pub mod Demand3
pub mod Pair
pub mod Earliest
pub mod Wrong
