pub mod Servings
pub mod Mutexes
pub mod Mails
pub mod Pools
