-- What the cells of a name are.
use Rattle.std.proofs.Common.{◌≡◌, ℕ, ◌≤◌, true, List, length, drop, refl, arith, length-append, length-drop}
use Rattle.std.proofs.lemmas.List.{take_at, drop_at}
use Rattle.tk_types.specs.Names.{name_at_most}
use Rattle.tk_types.specs.Zeros.{zeros}
use Rattle.tk_types.specs.NameCells.{IsNameCells, cells_of}

pub cells_are : (word : List ℕ) → length word ≤ 16 → name_at_most 16 word ≡ true → IsNameCells (cells_of word)
cells_are word within named = record {
  room = omega (arith, length-append word (drop (length word) zeros), length-drop (length word) zeros);
  used = within;
  behind = drop_at word (drop (length word) zeros) _ refl;
  named = rw (take_at word (drop (length word) zeros) _ refl) named;
}
