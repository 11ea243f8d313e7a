-- Laws that the first strict table cites.
pub mod Edges
