mod Prelude
pub mod Tables
pub mod Model
