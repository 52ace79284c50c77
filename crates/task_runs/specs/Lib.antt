pub mod SemFlags
pub mod Tasks
