-- The bodies of a script: their frames, and what a statement does.
pub mod Statements
