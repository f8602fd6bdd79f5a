pub mod Volume
pub mod Areas
pub mod Answers
pub mod Promises
pub mod Examples
pub mod Inner
