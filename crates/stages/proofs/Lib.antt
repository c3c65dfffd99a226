mod Prelude
pub mod Limit
pub mod Place
pub mod Steps
pub mod Walks
