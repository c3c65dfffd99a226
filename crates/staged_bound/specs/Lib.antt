pub mod Staged
pub mod Clauses
