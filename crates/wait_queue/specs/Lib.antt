pub mod Queues
pub mod Facts
pub mod Sought
