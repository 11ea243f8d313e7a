-- What the small program says of a file.
pub mod Program
