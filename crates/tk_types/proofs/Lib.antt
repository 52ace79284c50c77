pub mod CallNameLaws
pub mod ErrorLaws
pub mod NameCells
