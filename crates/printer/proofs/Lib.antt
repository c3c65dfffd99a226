mod Prelude
pub mod Demands
pub mod Judging
