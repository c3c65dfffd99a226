pub mod Bound
pub mod Clauses
