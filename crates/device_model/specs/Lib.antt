pub mod RoomyBytes
pub mod Units
pub mod Devices
