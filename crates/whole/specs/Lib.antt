pub mod Signed
pub mod Sum
