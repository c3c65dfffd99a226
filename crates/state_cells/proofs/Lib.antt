mod Prelude
pub mod Placing
pub mod Listing
pub mod Making
pub mod Reaching
