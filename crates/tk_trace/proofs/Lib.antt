pub mod Again
pub mod Fields
pub mod Growth
pub mod Plain
pub mod Splits
pub mod Takes
pub mod Texts
