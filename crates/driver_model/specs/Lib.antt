pub mod Ends
pub mod Cores
pub mod Drives
