pub mod Modes
pub mod Curve
pub mod Basis
pub mod Answers
pub mod Promises
pub mod Examples
pub mod Inner
