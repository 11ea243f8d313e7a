-- What the proofs of several functions cite: laws of the six lists and of a list that is filled. Called is what a walk by hand uses that calls a covered
-- function; no function here is walked by hand.
mod LinesRead
mod Called
mod Filled
