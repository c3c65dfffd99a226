mod Prelude
pub mod Steps
pub mod Making
pub mod Numbers
pub mod Filling
