pub mod Reading
pub mod Gives
pub mod Spelling
pub mod TracedReading
pub mod TracedSpelling
pub mod TracedAnswers
pub mod Rows
