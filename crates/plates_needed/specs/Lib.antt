pub mod Plates
pub mod Clauses
