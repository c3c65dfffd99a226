pub mod OldBlocks
