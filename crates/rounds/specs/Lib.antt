pub mod Rounds
pub mod Clauses
