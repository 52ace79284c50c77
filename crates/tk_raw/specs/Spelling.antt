-- When a text is a script whose names aren't resolved yet.
use Rattle.std.specs.Prelude.{◌≡◌, ℕ, ◌≤◌, List, ◌∷◌, length}
use Rattle.tk_model.specs.ScriptText.{head_words}
use Rattle.tk_raw.specs.Lines.{kept_lines, kept_numbers, IsClean}
use Rattle.tk_raw.specs.RawText.{IsRaw, raw_lines}
use Rattle.tk_raw.specs.declared.raw.RawScript.{RawScript}

-- a text is short and clean, its lines that count are those of the script, and their numbers are kept
pub record SpellsRaw (text : List ℕ) (raw : RawScript) : Type 0 where
  pub short : length text ≤ 1048576
  pub clean : IsClean text
  pub lines : kept_lines text ≡ head_words ∷ raw_lines raw
  pub numbers : raw.lines ≡ kept_numbers text
  pub script : IsRaw raw
