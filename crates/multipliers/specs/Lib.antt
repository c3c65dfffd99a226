pub mod Multipliers
pub mod Clauses
