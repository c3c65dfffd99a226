mod Prelude
pub mod Storage
pub mod Last
pub mod Listed
pub mod Holds
pub mod Calls
