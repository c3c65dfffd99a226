pub mod Two
pub mod Clauses
