pub mod Ending
pub mod Finding
pub mod Firsts
pub mod Keeping
pub mod Looking
pub mod Starting
pub mod Tables
pub mod Waiting
