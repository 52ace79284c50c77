pub mod DeviceMails
pub mod Mails
pub mod Pools
