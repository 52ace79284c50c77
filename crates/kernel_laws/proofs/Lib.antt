pub mod Choice
pub mod FamilyPlaces
pub mod Latest
pub mod Precedence
pub mod Preemption
pub mod Refusals
