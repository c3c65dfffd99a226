pub mod Raised
pub mod Rows
pub mod Ready
