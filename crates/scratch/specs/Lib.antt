-- What the functions over the scratch compute.
pub mod Swept
pub mod Copies
pub mod Begun
