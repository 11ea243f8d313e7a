-- What the code over tables computes and asks, as functions of lists.
pub mod Table
pub mod Sweep
pub mod Spread
pub mod Fair
