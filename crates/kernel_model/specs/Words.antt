-- Words on tables, orders and events, and on the checks of a call.
pub mod Orders
pub mod Events
pub mod Checks
