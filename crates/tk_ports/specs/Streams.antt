-- What a call does to the bytes that a stream tells of, and to its counts. `None` stands for a stream that doesn't tell.
use Rattle.std.specs.Prelude.{◌≡◌, ℕ, ◌+◌, ◌<◌, ◌≤◌, List, [], ◌++◌, length, Option, None, Some, IfSome, ◌⊎◌}

-- what a stream tells that doesn't tell
abbrev pub told_nothing : Option (List ℕ)
told_nothing = None

-- the sink took all these bytes: they stand behind what it held
abbrev pub Appends : Option (List ℕ) → Option (List ℕ) → List ℕ → Type 0
Appends old new bytes = IfSome old (λ held. new ≡ Some (held ++ bytes))

-- the sink took some front of these bytes
abbrev pub AppendsFront : Option (List ℕ) → Option (List ℕ) → List ℕ → Type 0
AppendsFront old new bytes = IfSome old (λ held. (front : List ℕ) × (rest : List ℕ) × (front ++ rest ≡ bytes) × (new ≡ Some (held ++ front)))

-- the source gave this front of what it had left, and has the rest left
abbrev pub TakesFront : Option (List ℕ) → Option (List ℕ) → List ℕ → Type 0
TakesFront old new front = IfSome old (λ bytes. (rest : List ℕ) × (bytes ≡ front ++ rest) × (new ≡ Some rest))

-- the source has nothing left
abbrev pub IsUsedUp : Option (List ℕ) → Type 0
IsUsedUp left = IfSome left (λ bytes. bytes ≡ [])

-- a count of faults rose: it is greater than before, or stands at the greatest u64
abbrev pub Rose : ℕ → ℕ → Type 0
Rose old new = (old < new) ⊎ (new ≡ 18446744073709551615)

-- one turn was counted; a count may stop telling, and then never tells again
abbrev pub Counts : Option ℕ → Option ℕ → Type 0
Counts None new = new ≡ None
Counts (Some turns) new = IfSome new (λ count. count ≡ turns + 1)

-- at most so many turns were counted
abbrev pub CountsWithin : Option ℕ → Option ℕ → ℕ → Type 0
CountsWithin None new most = new ≡ None
CountsWithin (Some turns) new most = IfSome new (λ count. count ≤ turns + most)

-- the source gave some front of at most so many bytes
abbrev pub TakesAtMost : Option (List ℕ) → Option (List ℕ) → ℕ → Type 0
TakesAtMost old new most = IfSome old (λ bytes. (front : List ℕ) × (rest : List ℕ) × (bytes ≡ front ++ rest) × (new ≡ Some rest) × (length front ≤ most))

-- the source gave some front of at most so many bytes, in at most one turn more than it gave bytes
abbrev pub TakesWithin : Option (List ℕ) → Option (List ℕ) → Option ℕ → Option ℕ → ℕ → Type 0
TakesWithin old new turns count most = IfSome old (λ bytes. (front : List ℕ) × (rest : List ℕ) × (bytes ≡ front ++ rest) × (new ≡ Some rest)
    × (length front ≤ most) × CountsWithin turns count (length front + 1))
