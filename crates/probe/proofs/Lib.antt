pub mod Rounding
pub mod Parts
pub mod Values
pub mod Patterns
pub mod Promises
pub mod Examples
