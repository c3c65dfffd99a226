mod Prelude
pub mod Nodes
pub mod Placed
