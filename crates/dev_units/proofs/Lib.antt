pub mod Progress
mod Drivers
