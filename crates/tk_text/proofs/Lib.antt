mod Sessions
pub mod Cuts
pub mod Decimals
pub mod Faults
pub mod ListLaws
pub mod ListTables
pub mod Lists
pub mod Options
pub mod Spans
pub mod Tokens
