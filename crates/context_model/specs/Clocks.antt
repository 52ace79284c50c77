-- System time, cyclic and alarm handlers.
pub mod Tables
pub mod Calls
pub mod Phases
