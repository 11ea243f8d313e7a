-- Document 01, "Plans to try", and document 02's new case: the plans and what is said of them.
pub mod Case
pub mod Paper
