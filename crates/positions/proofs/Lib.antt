mod Prelude
pub mod Lists
pub mod Sums
pub mod Fitting
pub mod Positions
