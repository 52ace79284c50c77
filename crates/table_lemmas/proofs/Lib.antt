pub mod Slots
pub mod ShortSemFlags
pub mod ShortMutexes
pub mod ShortPools
pub mod ShortMails
pub mod ShortDevices
pub mod ReachedShort
