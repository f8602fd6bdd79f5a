pub mod Places
pub mod Summing
pub mod Answers
pub mod Permit
pub mod Promises
