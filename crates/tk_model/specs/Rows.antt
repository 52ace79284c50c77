-- Texts that were worked out by hand from the rules, each a theorem over the definitions by computation.
pub mod Texts
