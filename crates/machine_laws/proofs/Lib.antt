pub mod Turns
pub mod Owners
pub mod Nesting
pub mod Levels
