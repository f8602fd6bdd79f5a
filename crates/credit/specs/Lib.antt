pub mod Credit
pub mod Answers
pub mod Promises
pub mod Numbers
pub mod Inner
