-- Lines as text.
use Rattle.std.specs.Prelude.{ℕ, List, flat_map}
use Rattle.tk_model.specs.ScriptText.{line_text}

-- the text of lines
abbrev pub lines_text : List (List (List ℕ)) → List ℕ
lines_text lines = flat_map line_text lines
