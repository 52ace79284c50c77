pub mod Passings
pub mod Told
pub mod SoFar
