pub mod Roads
pub mod Worlds
