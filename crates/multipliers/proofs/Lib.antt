mod Prelude
pub mod Lagrange
pub mod Prices
pub mod Calls
