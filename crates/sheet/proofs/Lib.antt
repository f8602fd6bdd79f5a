pub mod Carrying
pub mod Lengths
pub mod Verdicts
pub mod Rules
pub mod Rows
pub mod Promises
