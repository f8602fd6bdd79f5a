pub mod Runoff
pub mod Promises
