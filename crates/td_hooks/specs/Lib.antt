pub mod Seen
pub mod Hooks
pub mod Kinds
pub mod Tasks
pub mod Places
pub mod Requests
