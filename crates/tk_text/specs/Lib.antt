pub mod Tokens
pub mod Scans
pub mod Sessions
