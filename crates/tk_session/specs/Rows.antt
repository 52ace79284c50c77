-- Small journals and small traces, and what they are read as, each a theorem over the definitions by computation.
pub mod Journals
pub mod Traces
