pub mod Each
pub mod Put
pub mod Moved
pub mod Kept
pub mod Next
pub mod Lasts
pub mod Reordered
pub mod Others
