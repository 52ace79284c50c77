-- What it is that a text spells a session.
use Rattle.std.specs.Prelude.{◌≡◌, ℕ, ◌≤◌, true, not, List, [], ◌∷◌, ◌++◌, length, map}
use Rattle.std.specs.List.{AllByRecursion, list_all}
use Rattle.tk_model.specs.Journal.{IsEntry, text_of_entry}
use Rattle.tk_model.specs.ScriptText.{Spells}
use Rattle.tk_model.specs.TextLines.{whole_lines}
use Rattle.tk_model.specs.Words.{lines_of}
use Rattle.tk_text.specs.Sessions.{divider_word, is_divider, session_limit}
use Rattle.tk_text.specs.declared.session.Divider.TheVariants as dividers
use Rattle.tk_session.specs.declared.session.Session.{Session}

-- lines, each with its line feed
unfoldable pub fed : List (List ℕ) → List ℕ
fed [] = []
fed (line ∷ lines) = line ++ 10 ∷ fed lines

-- lines cut at the first one that has this word alone
pub record IsCut (word : List ℕ) (lines before : List (List ℕ)) (divider : List ℕ) (behind : List (List ℕ)) : Type 0 where
  pub joins : lines ≡ before ++ divider ∷ behind
  pub first : list_all (λ line. not (is_divider word line)) before ≡ true
  pub is : is_divider word divider ≡ true

-- a text spells a session: the lines before the divider spell its script, and those behind it are the texts of its entries
pub record SpellsSession (text : List ℕ) (session : Session) : Type 0 where
  pub short : length text ≤ session_limit
  pub before : List (List ℕ)
  pub divider : List ℕ
  pub behind : List (List ℕ)
  pub cut : IsCut (divider_word dividers.Journal) (lines_of text) before divider behind
  pub script : Spells (fed before) session.script
  pub journal : whole_lines behind ≡ map text_of_entry session.journal
  pub entries : AllByRecursion IsEntry session.journal
