-- The sweep run by the checker itself, and the paper's cases by it.
pub mod ComputedTests
pub mod SweepRun
pub mod AddRun
pub mod Cases
