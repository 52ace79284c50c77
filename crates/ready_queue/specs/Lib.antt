pub mod Queue
pub mod Facts
pub mod Sought
