-- How a name lies in memory: its bytes in front, and zeros behind them.
use Rattle.std.specs.Prelude.{◌≡◌, ℕ, ◌≤◌, true, List, ◌++◌, length, take, drop}
use Rattle.std.proofs.Common.{ap, ◌∙◌, sym, subst, take-append-drop, length-take-le}
use Rattle.tk_types.specs.Names.{name_at_most}
use Rattle.tk_types.specs.Zeros.{zeros}
use Rattle.tk_types.specs.declared.name.Name.TheInside.{Inside}

-- the bytes before the end of a name
abbrev pub name_bytes : Inside → List ℕ
name_bytes cells = take cells.used cells.bytes

-- the front spells a name, and zeros lie behind it
pub record IsNameCells (cells : Inside) : Type 0 where
  pub room : length cells.bytes ≡ 16
  pub used : cells.used ≤ 16
  pub behind : drop cells.used cells.bytes ≡ drop cells.used zeros
  pub named : name_at_most 16 (take cells.used cells.bytes) ≡ true

-- the cells that hold a name
abbrev pub cells_of : List ℕ → Inside
cells_of word = record { bytes = word ++ drop (length word) zeros; used = length word }

pub length_of_front : (cells : Inside) → IsNameCells cells → length (name_bytes cells) ≡ cells.used
length_of_front cells is = length-take-le cells.used cells.bytes (subst (λ (n : ℕ). cells.used ≤ n) (sym is.room) is.used)

pub padded_front : (cells : Inside) → IsNameCells cells → name_bytes cells ++ drop (length (name_bytes cells)) zeros ≡ cells.bytes
padded_front cells is =
    ap (λ (n : ℕ). name_bytes cells ++ drop n zeros) (length_of_front cells is)
    ∙ (ap (λ (rest : List ℕ). name_bytes cells ++ rest) (sym is.behind) ∙ take-append-drop cells.used cells.bytes)

-- the cells of a name come back from its bytes
pub cells_again : (cells : Inside) → IsNameCells cells → cells_of (name_bytes cells) ≡ cells
cells_again cells is i = record { bytes = padded_front cells is i; used = length_of_front cells is i }
