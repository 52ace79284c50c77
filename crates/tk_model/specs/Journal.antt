-- Entries of a journal: their texts, and those that the lines of a trace make.
use Rattle.std.specs.Prelude.{ℕ, ◌<◌, ◌^◌, List, [], ◌∷◌, Option, Some, None, codes, decimal}
use Rattle.std.specs.List.{filter_map}
use Rattle.tk_types.specs.declared.line.Line.{Line}
use Rattle.tk_types.specs.declared.line.Line.TheVariants as lines
use Rattle.tk_types.specs.declared.line.LineEnding.{LineEnding}
use Rattle.tk_types.specs.declared.line.LineEnding.TheVariants as endings
use Rattle.tk_types.specs.declared.line.Entry.{Entry}
use Rattle.tk_types.specs.declared.line.How.{How}
use Rattle.tk_types.specs.declared.line.How.TheVariants as hows
use Rattle.tk_model.specs.LineText.{joined}

abbrev pub how_words : How → List (List ℕ)
how_words hows.Done = codes "done" ∷ []
how_words (hows.Cut size) = codes "cut" ∷ decimal size ∷ []

-- the words of an entry
unfoldable pub words_of_entry : Entry → List (List ℕ)
words_of_entry entry = decimal entry.place ∷ decimal entry.device ∷ decimal entry.request ∷ how_words entry.how

-- the text of an entry, without a line feed
unfoldable pub text_of_entry : Entry → List ℕ
text_of_entry entry = joined (words_of_entry entry)

abbrev pub IsHow : How → Type 0
IsHow hows.Done = Unit {0}
IsHow (hows.Cut size) = size < 2 ^ 32

-- the values that are entries: each number fits its type
abbrev pub IsEntry : Entry → Type 0
IsEntry entry = (entry.place < 2 ^ 32) × (entry.device < 2 ^ 8) × (entry.request < 2 ^ 8) × IsHow entry.how

abbrev pub how_of : LineEnding → How
how_of (endings.Done error size) = hows.Done
how_of (endings.Cut size) = hows.Cut size

-- the entry that a line makes: a line of an ending has one
unfoldable pub entry_of : Line → Option Entry
entry_of (lines.Ending n device request ending) = Some (record { place = n; device = device; request = request; how = how_of ending })
entry_of _ = None

-- the journal of a trace: the entries of its lines
abbrev pub journal_of : List Line → List Entry
journal_of trace = filter_map entry_of trace
