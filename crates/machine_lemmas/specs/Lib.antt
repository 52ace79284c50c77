pub mod Weights
pub mod Strict
pub mod Taken
pub mod TickTimes
