pub mod Pieces
pub mod Counts
pub mod Blocks
pub mod Cuts
