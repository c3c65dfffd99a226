pub mod Racks
pub mod Orders
