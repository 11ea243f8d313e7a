-- The chain of reasons: what a line is, which lines the list has, how each follows, and what is promised of them.
pub mod Lines
pub mod Reasons
pub mod Places
pub mod Follows
pub mod Laws
pub mod Call
