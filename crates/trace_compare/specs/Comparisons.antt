-- A sink that compares, as contracts see it.
use Rattle.std.specs.Prelude.{◌≡◌, ◌⊎◌, ℕ, ◌+◌, ◌==◌, Bool, IsTrue, true, false, if◌then◌else◌, List, [], ◌∷◌, ◌++◌, length, Some, Result, Ok, Err}
use Rattle.trace_compare.specs.Differences.{Difference, difference_of}

-- the given text, whether a difference stops the sink, the bytes taken, how many writes failed, and whether memory ran out
pub record Comparison : Type 0 where
  pub given : List ℕ
  pub stops : Bool
  pub taken : List ℕ
  pub faults : ℕ
  pub short : Bool

-- a comparison before any write
abbrev pub fresh : List ℕ → Bool → Comparison
fresh given stops = record { given = given; stops = stops; taken = []; faults = 0; short = false }

-- a mark that a difference stops the sink
abbrev pub mark : Bool → ℕ
mark true = 1
mark false = 0

-- what the sink tells that it holds. First, which no write changes, whether a difference stops it and the given text with its
-- length before it; behind them the bytes taken
abbrev pub told : Comparison → List ℕ
told comparison = mark comparison.stops ∷ length comparison.given ∷ (comparison.given ++ comparison.taken)

-- the bytes taken differ from the given text, in one way whatever follows them
abbrev pub IsDecided : List ℕ → List ℕ → Type 0
IsDecided taken given = (found : Difference) × ((more : List ℕ) → difference_of (taken ++ more) given ≡ Some found)

-- no more is taken: memory ran out, or the bytes taken differ whatever follows and a difference stops the sink
abbrev pub IsOver : Comparison → Type 0
IsOver comparison =
    IsTrue comparison.short ⊎ (IsTrue comparison.stops × IsDecided comparison.taken comparison.given)

-- the count of faults after a write; it stays at the greatest u64
abbrev pub faults_behind : {A B : Type 0} → Result A B → ℕ → ℕ
faults_behind (Ok count) faults = faults
faults_behind (Err error) faults = if faults == 18446744073709551615 then faults else faults + 1

-- the one is the other after it took these bytes: of the same given text, and stopped by the same
pub record Took (old new : Comparison) (bytes : List ℕ) : Type 0 where
  pub given : new.given ≡ old.given
  pub stops : new.stops ≡ old.stops
  pub taken : new.taken ≡ old.taken ++ bytes
