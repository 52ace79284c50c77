pub mod Channels
pub mod Passings
pub mod Follows
pub mod Closes
