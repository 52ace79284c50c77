pub mod Doings
pub mod Embeds
