pub mod Order
pub mod Larger
pub mod Bits
pub mod Place
pub mod Sum
