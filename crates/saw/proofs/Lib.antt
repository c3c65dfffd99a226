mod Prelude
pub mod Prices
pub mod Sawn
pub mod Six
pub mod Office
pub mod Calls
pub mod Parts
