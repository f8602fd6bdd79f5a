pub mod Readings
pub mod Promises
pub mod Inner
