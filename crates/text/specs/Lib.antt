pub mod Part
pub mod Pieces
pub mod Words
pub mod Numbers
pub mod Promises
