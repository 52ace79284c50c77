-- What happens to a state, and what follows it.
pub mod Settle
pub mod Follow
pub mod Bodies
pub mod Calls
pub mod Ticks
pub mod Handlers
pub mod Arrivals
pub mod Rest
