-- Laws of the sweeps in the scratch: their start, their turns and their end.
pub mod AddSweeps
pub mod AddBegins
pub mod AddEnds
