pub mod Step
pub mod Clauses
