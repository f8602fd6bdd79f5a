pub mod Outcomes
pub mod Lines
pub mod Inner
pub mod Promises
