pub mod Gives
pub mod LabelPlaces
pub mod Words
pub mod Resolving
pub mod Reading
pub mod Rows
