pub mod Block
pub mod Weights
pub mod Clauses
pub mod Grain
