pub mod TruePlan
pub mod Calls
