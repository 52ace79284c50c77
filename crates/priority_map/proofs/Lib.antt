pub mod Flagged
