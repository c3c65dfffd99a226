mod Prelude
pub mod Calls
pub mod Plans
pub mod Misfit
pub mod Examples
