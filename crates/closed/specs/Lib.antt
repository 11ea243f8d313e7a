-- The closed test's parts as definitions.
pub mod Parts
