pub mod LineRule
pub mod Answers
pub mod Rows
pub mod Promises
