mod Prelude
pub mod Words
pub mod Gains
pub mod Halves
pub mod Figures
pub mod Shares
pub mod Weighed
pub mod Across
pub mod Covered
pub mod Complete
pub mod Staged
