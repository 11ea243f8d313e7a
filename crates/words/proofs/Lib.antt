-- What the functions' proofs cite, and the laws of the four calls together.
mod BitsOfWords
mod BitCounts
mod WordAnswers
mod WordsOnce
mod BuiltWords
mod UpdatedWords
mod WordsAfterAdd
mod ReachLaws
