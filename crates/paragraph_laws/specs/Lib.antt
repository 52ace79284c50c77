pub mod Paragraph
pub mod Kept
