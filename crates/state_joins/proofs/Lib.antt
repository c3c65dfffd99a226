mod Prelude
pub mod Joining
