mod Prelude
pub mod Checks
pub mod Entries
pub mod Read
pub mod Kerf
pub mod Weights
pub mod Taken
pub mod Grain
