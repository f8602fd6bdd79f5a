pub mod Checking
pub mod Lines
pub mod Promises
pub mod Inner
pub mod Numbers
