mod Prelude
pub mod Growing
