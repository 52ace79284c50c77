pub mod Registers
pub mod Zeros
