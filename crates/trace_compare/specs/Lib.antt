pub mod Differences
pub mod Answers
pub mod Bytes
pub mod Comparisons
pub mod Walks
pub mod Sinks
