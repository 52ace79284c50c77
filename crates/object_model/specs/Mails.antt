-- Mailboxes and message buffers.
pub mod Tables
pub mod Bytes
pub mod Boxes
pub mod Buffers
pub mod Calls
pub mod Orders
