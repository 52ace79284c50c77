pub mod Cuts
pub mod EntryLaws
pub mod LineFits
pub mod LineLaws
pub mod PartLaws
pub mod Readings
pub mod TraceLaws
pub mod TracedReadings
