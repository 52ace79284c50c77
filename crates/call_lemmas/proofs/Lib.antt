pub mod Checked
pub mod Picks
pub mod Serving
pub mod TimeOuts
pub mod Trial
