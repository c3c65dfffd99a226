pub mod Exact
pub mod Clauses
