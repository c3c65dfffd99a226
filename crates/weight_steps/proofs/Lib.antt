mod Prelude
pub mod Sums
pub mod Roots
pub mod Rules
