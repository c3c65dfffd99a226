mod Prelude
pub mod Idle
pub mod Scan
