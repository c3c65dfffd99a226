mod Prelude
pub mod Uncut
pub mod Lengths
pub mod Widths
pub mod Filling
