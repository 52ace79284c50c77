pub mod Tables
pub mod Ticks
