pub mod Lasts
pub mod Folds
pub mod Cuts
