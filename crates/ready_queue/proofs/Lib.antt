pub mod Few
pub mod Found
pub mod Keyed
pub mod Put
pub mod Taken
pub mod Kept
pub mod Next
pub mod Lasts
