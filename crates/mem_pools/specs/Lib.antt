pub mod Blocks
pub mod Tables
pub mod Taking
pub mod Parts
