mod Prelude
pub mod Raising
pub mod Pushing
pub mod Taken
pub mod Filling
