pub mod Sheets
pub mod Passing
pub mod Answering
pub mod FasterRates
pub mod Promises
