pub mod Tables
pub mod Pace
