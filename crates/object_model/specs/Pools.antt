-- Fixed and variable memory pools.
pub mod Tables
pub mod Fixed
pub mod Variable
pub mod Calls
pub mod Orders
