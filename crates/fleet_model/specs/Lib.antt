pub mod Channels
pub mod Fleets
pub mod Records
