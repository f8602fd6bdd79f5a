pub mod Sheet
pub mod Rules
pub mod Promises
pub mod Examples
