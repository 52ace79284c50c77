pub mod Sound
pub mod Requests
pub mod Words
