pub mod Text
pub mod First
pub mod Line
pub mod Table
pub mod Sum
pub mod Turn
pub mod ClosedUp
