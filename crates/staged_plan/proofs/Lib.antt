mod Prelude
pub mod Within
pub mod Calls
