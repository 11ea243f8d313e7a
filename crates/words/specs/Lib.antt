-- Reach words: sets of points and the words that hold them; what the four calls answer and leave; what is promised of them together.
pub mod Sets
pub mod Calls
pub mod Handed
pub mod Laws
