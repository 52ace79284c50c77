pub mod Clocks
pub mod Contexts
pub mod Hooks
