-- A slot of a table is read and written in place.
use Rattle.std.proofs.Common.{◌≡◌, ℕ, zero, suc, ◌<◌, false, List, [], ◌∷◌, Option, Some, None, refl, ap, sym, ◌∙◌, arith, length, get_or, set}
use Rattle.std.specs.Option.{is_some}
use Rattle.std.specs.Prelude.{slice_set}
use Rattle.std.proofs.lemmas.List.{set-get_or}
use Rattle.kernel_model.specs.Words.Orders.{entry}

-- what stands at a place inside a table
pub there_at : {A : Type 0} (slots : List (Option A)) (id : ℕ) (slot : Option A) → id < length slots → slot ≡ get_or slots id slot → entry slots id ≡ slot
there_at [] id slot inside is = absurd (omega (arith, inside))
there_at (x ∷ slots) zero slot inside is = sym is
there_at (x ∷ slots) (suc id) slot inside is = there_at slots id slot (omega (arith, inside)) is

default_at : {A : Type 0} (slots : List (Option A)) (id : ℕ) (slot : Option A) → slot ≡ get_or slots id slot → set slots id slot ≡ slots
default_at slots id slot is = ap (set slots id) is ∙ set-get_or slots id slot

-- a slot that is written as it stands
pub same_back : {A : Type 0} (slots : List (Option A)) (id : ℕ) (slot : Option A) → slot ≡ get_or slots id slot → slice_set slots id slot ≡ slots
same_back slots id slot is = default_at slots id slot is

pub not_some : {A : Type 0} (o : Option A) → is_some o ≡ false → o ≡ None
not_some None is = refl
not_some (Some x) is = absurd (cc is)
