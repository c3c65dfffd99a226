mod Prelude
pub mod Digits
pub mod Carries
pub mod Noted
pub mod Lifting
pub mod Growing
pub mod Topping
pub mod Ties
