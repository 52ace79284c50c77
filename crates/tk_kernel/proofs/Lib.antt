pub mod Sound
pub mod Paces
