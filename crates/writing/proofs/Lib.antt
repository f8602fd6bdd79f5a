pub mod Writing
pub mod Copying
pub mod Digits
pub mod Rest
pub mod Adding
pub mod Ended
pub mod Words
