-- What the machine keeps.
pub mod Objects
pub mod State
pub mod Waits
