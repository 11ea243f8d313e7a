-- Laws of tests: what decides a bound, and the whole sentence.
pub mod CellTests
pub mod ClosedWhole
pub mod Common
