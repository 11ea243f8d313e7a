-- The rule paper as definitions, a file for each part of it, in its order.
pub mod Plan
pub mod Edges
pub mod Walks
pub mod Cells
pub mod Tables
pub mod FixedLength
pub mod Times
pub mod Answers
pub mod Additions
pub mod Calls
pub mod Rows
pub mod Demands
