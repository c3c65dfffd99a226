mod Prelude
pub mod Steps
pub mod Trees
pub mod Scan
pub mod Plans
