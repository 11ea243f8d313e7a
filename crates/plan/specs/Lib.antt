-- The plan file as definitions: its layout, the answer to it, and what the place of a refusal says.
pub mod Layout
pub mod Values
pub mod File
pub mod Faults
pub mod Ready
