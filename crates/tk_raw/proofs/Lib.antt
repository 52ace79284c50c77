pub mod HeadLaws
pub mod TextLoops
pub mod Results
pub mod WordLaws
pub mod PieceLaws
pub mod StatementLaws
pub mod Differing
pub mod HeaderLaws
pub mod Built
pub mod StepTakes
pub mod StepsAgain
pub mod TextTakes
pub mod TextAgain
pub mod Readings
mod OpenBodies
