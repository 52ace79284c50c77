pub mod Ways
pub mod Between
