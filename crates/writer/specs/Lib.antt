pub mod Waiting
pub mod Write
