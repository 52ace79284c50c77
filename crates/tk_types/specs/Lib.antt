pub mod CallNames
pub mod Codes
pub mod Modes
pub mod Calls
pub mod Names
pub mod Zeros
pub mod NameCells
pub mod Reasons
