pub mod Streams
pub mod Loops
