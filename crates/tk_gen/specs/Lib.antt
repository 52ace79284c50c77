pub mod Counts
pub mod Objects
pub mod Summaries
pub mod Serving
