pub mod Rates
pub mod Loads
pub mod Promises
