-- What the unit of a device does with a request: as a whole, cut off, and block by block.
pub mod Stores
pub mod Function
pub mod Blocks
