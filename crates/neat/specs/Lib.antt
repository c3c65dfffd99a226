pub mod Neat
pub mod Scan
