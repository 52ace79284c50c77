pub mod Seen
pub mod Worlds
