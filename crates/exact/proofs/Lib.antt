mod Prelude
pub mod States
pub mod Remaining
pub mod Optimum
pub mod Counting
pub mod Pieces
pub mod Storage
pub mod Accepted
pub mod Call
