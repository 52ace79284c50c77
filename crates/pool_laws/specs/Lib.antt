pub mod Blocks
pub mod Trial
