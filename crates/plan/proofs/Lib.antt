mod Prelude
pub mod Walk
pub mod Whole
pub mod Counts
pub mod Preorder
pub mod Trees
pub mod Parse
pub mod Ends
pub mod Plans
pub mod Among
pub mod Drawn
pub mod Operands
pub mod Calls
