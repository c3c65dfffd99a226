-- The laws from what the inner crates promise to the instances of crate `promises`.
mod Prelude
pub mod Figures
pub mod Paths
pub mod Plans
pub mod Held
pub mod Lent
pub mod Alike
pub mod Bounds
pub mod Written
pub mod Checks
pub mod Judged
pub mod Kept
pub mod Saws
pub mod Racks
pub mod Stops
pub mod Found
pub mod Models
pub mod Ordered
pub mod Back
