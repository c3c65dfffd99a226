pub mod Saw
pub mod Prices
pub mod Parts
