pub mod CodeZero
