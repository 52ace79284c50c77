-- Mutexes, and the current priority of a task.
pub mod Tables
pub mod Priority
pub mod Calls
pub mod Orders
