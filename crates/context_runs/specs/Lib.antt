pub mod ClockCalls
pub mod Clocks
pub mod Dispatching
pub mod Handlers
pub mod Hooks
pub mod Lists
pub mod Services
