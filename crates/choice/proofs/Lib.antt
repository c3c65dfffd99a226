mod Prelude
pub mod Search
pub mod Rows
pub mod Choice
pub mod Numbers
