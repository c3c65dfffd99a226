mod Prelude
pub mod Comparison
pub mod Promises
pub mod Refusals
pub mod Calls
