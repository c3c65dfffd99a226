mod Prelude
pub mod Count
pub mod Ends
pub mod Run
pub mod Rules
pub mod Calls
