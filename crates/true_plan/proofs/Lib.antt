mod Prelude
pub mod Plans
