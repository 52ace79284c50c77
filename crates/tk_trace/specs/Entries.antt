-- What words spell an entry of a journal.
use Rattle.std.specs.Prelude.{ℕ, if◌then◌else◌, List, [], ◌∷◌, Option, Some, None, codes}
use Rattle.std.specs.Str.{bytes_eq}
use Rattle.tk_types.specs.declared.line.Entry.{Entry}
use Rattle.tk_types.specs.declared.line.How.{How}
use Rattle.tk_types.specs.declared.line.How.TheVariants as hows
use Rattle.tk_trace.specs.Reading.{◌>>=◌, u8_at, u32_at}

unfoldable pub how_at : List (List ℕ) → Option How
how_at (word ∷ []) = if bytes_eq word (codes "done") then Some hows.Done else None
how_at (word ∷ size ∷ []) = if bytes_eq word (codes "cut") then (u32_at size >>= λ size. Some (hows.Cut size)) else None
how_at _ = None

-- the entry that words spell
unfoldable pub entry_at : List (List ℕ) → Option Entry
entry_at (place ∷ device ∷ request ∷ words) = do
  place ← u32_at place
  device ← u8_at device
  request ← u8_at request
  how ← how_at words
  Some (record { place = place; device = device; request = request; how = how })
entry_at _ = None
