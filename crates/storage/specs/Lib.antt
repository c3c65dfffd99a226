pub mod Storage
pub mod Clauses
