mod Prelude
pub mod Read
