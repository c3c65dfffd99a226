pub mod Nodes
pub mod Placed
