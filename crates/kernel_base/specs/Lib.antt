pub mod Ready
pub mod Queues
pub mod Waiting
pub mod Room
pub mod Views
pub mod Handlers
