-- Interrupt handlers, what delays dispatching, and subsystems.
pub mod Tables
pub mod Calls
