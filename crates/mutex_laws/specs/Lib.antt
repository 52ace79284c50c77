pub mod Chains
pub mod Owners
pub mod Tables
pub mod Trial
