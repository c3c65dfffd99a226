mod Prelude
pub mod Storage
pub mod Listed
pub mod Calls
