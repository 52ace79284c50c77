-- Devices, descriptors, requests and their endings.
pub mod Tables
pub mod Memory
pub mod Handing
pub mod Endings
pub mod Requests
pub mod Suspension
pub mod Servings
pub mod Calls
pub mod Orders
pub mod MoveProofs
