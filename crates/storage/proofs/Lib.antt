mod Prelude
pub mod Storage
pub mod Sides
pub mod Filled
