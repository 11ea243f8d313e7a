-- Laws behind the calls, and what their statements rule out.
pub mod CheckAnswers
pub mod JudgeAnswers
pub mod EarliestAnswers
pub mod RowAnswers
pub mod CheckFixed
