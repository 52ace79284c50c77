-- Hooks, and the calls that list objects and queues.
pub mod Tables
pub mod Lists
pub mod Calls
pub mod Readings
