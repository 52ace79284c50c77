-- Steps, and the runs that they make.
pub mod Turns
pub mod Step
pub mod Trace
pub mod Reached
pub mod SyncTrace
pub mod Machine
pub mod Generator
