pub mod Rewriting
pub mod OldRules
pub mod Promises
pub mod Numbers
