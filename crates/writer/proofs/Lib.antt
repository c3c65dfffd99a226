mod Prelude
pub mod Preorder
pub mod Plan
pub mod Waiting
pub mod Listed
pub mod Write
pub mod Call
