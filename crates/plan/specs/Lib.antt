pub mod Plan
pub mod Walk
pub mod Trees
pub mod Calls
