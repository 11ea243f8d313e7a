-- The calls' statements beyond the rule paper's own (specs/Calls.antt of `rules`).
pub mod Lent
pub mod Faces
