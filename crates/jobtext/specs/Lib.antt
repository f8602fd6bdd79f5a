pub mod Text
pub mod Records
pub mod Promises
pub mod Inner
pub mod Numbers
