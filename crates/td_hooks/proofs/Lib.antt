pub mod Written
pub mod Walks
pub mod Members
pub mod Requested
