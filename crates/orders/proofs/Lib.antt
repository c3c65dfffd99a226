mod Prelude
pub mod Racks
pub mod Orders
pub mod Needed
pub mod Sums
