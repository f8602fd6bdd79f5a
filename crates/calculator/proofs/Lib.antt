pub mod Finding
pub mod Promises
pub mod InTexts
pub mod Fitting
pub mod Sample
