pub mod Streams
pub mod MemStreams
