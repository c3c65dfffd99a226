mod Prelude
pub mod Weights
pub mod States
pub mod Storage
pub mod Listed
pub mod One
pub mod Calls
