pub mod Words
pub mod Tasks
pub mod SemFlags
pub mod Bodies
pub mod LawWords
