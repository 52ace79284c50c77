pub mod Walk
pub mod Emptied
