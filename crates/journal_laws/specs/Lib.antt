pub mod Fed
pub mod Owed
pub mod Turns
pub mod Requests
