pub mod Tables
pub mod Published
pub mod Promises
