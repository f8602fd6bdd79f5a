pub mod Limits
pub mod Depths
pub mod Columns
pub mod Cases
pub mod Promises
