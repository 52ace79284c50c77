-- What the kernel keeps of tasks, and the calls on them.
pub mod Base
pub mod Queues
pub mod Views
pub mod Marks
pub mod Calls
pub mod Waits
