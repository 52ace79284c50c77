pub mod LineLaws
pub mod WalkLaws
pub mod DifferenceLaws
pub mod ToldLaws
