pub mod Numbers
pub mod Codes
pub mod Promises
pub mod Inner
