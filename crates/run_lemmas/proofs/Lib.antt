pub mod Needing
pub mod Naming
pub mod Onward
pub mod Turns
pub mod RunsOn
pub mod Ends
pub mod Told
