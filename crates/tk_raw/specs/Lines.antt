-- The lines of a text, as the definitions of scripts have them.
unfoldable pub use Rattle.tk_model.specs.TextLines.{whole_lines, text_lines, begins_note, is_kept, kept_behind, numbers_behind, kept_from, numbers_from}
pub use Rattle.tk_model.specs.TextLines.{kept_lines, kept_numbers, IsCleanLine, IsClean}
