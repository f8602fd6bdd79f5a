pub mod Words
pub mod Reading
pub mod Telling
pub mod Checks
pub mod Promises
