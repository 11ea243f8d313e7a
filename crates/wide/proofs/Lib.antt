-- Laws that Add's sweep cites, and that its start is one of Add's plan.
pub mod AddStart
pub mod LinksThere
