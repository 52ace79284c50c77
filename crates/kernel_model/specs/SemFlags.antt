-- Semaphores and event flags.
pub mod Tables
pub mod Calls
pub mod Trial
pub mod Orders
