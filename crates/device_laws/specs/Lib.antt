pub mod Words
pub mod Moves
pub mod Requests
pub mod Claims
pub mod Asked
