-- Laws behind Add.
pub mod AddAnswers
pub mod AddFixed
