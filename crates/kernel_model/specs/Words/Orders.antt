-- Words on tables and on orders. A table is a list of slots whose place is the ID, so that slot 0 stays free.
-- An order is a list of IDs, each at most once, the earliest first.
use Rattle.std.specs.Prelude.{ℕ, ◌+◌, not, ◌==◌, nat_lt, if◌then◌else◌, List, [], ◌∷◌, ◌++◌, Option, Some, None, filter, fold, slice_get}
use Rattle.std.specs.Option.{option_flatten}

-- what stands in a slot
abbrev pub entry : {A : Type 0} → List (Option A) → ℕ → Option A
entry table id = option_flatten (slice_get table id)

-- the least free ID from this one on, with the slots from there; 0 where none is free
unfoldable pub free_from : {A : Type 0} → ℕ → List (Option A) → ℕ
free_from id [] = 0
free_from id (None ∷ slots) = id
free_from id (Some _ ∷ slots) = free_from (id + 1) slots

-- the IDs that are taken, rising, where the slots begin with this ID
abbrev pub taken_from : {A : Type 0} → ℕ → List (Option A) → List ℕ
taken_from id [] = []
taken_from id (None ∷ slots) = taken_from (id + 1) slots
taken_from id (Some k ∷ slots) = id ∷ taken_from (id + 1) slots

-- an order without one ID
abbrev pub without : ℕ → List ℕ → List ℕ
without id ids = filter (λ other. not (other == id)) ids

-- an ID takes the last place: it is the latest from now on
abbrev pub to_back : ℕ → List ℕ → List ℕ
to_back id ids = without id ids ++ id ∷ []

-- an ID goes in front of the first one whose key is greater, so behind its equals
abbrev pub insert_behind : (ℕ → ℕ) → ℕ → List ℕ → List ℕ
insert_behind key id [] = id ∷ []
insert_behind key id (first ∷ ids) =
    if nat_lt (key id) (key first) then id ∷ first ∷ ids else first ∷ insert_behind key id ids

-- by rising key, and equals in the order in which they were
abbrev pub sort_by : (ℕ → ℕ) → List ℕ → List ℕ
sort_by key ids = fold (λ sorted id. insert_behind key id sorted) [] ids

-- the first of an order, or 0
abbrev pub head_or_zero : List ℕ → ℕ
head_or_zero [] = 0
head_or_zero (id ∷ ids) = id
