pub mod Counts
pub mod Views
pub mod Turns
pub mod Ends
pub mod Progress
pub mod Cores
