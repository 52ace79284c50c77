-- What a sink tells says which text it compares with and which bytes it took.
use Rattle.std.proofs.Common.{◌≡◌, ◌∙◌, sym, ap, refl, ℕ, Bool, true, false, List, ◌++◌, length, take, drop, Some, append_assoc}
use Rattle.std.proofs.lemmas.List.{take_at, drop_at}
use Rattle.tk_ports.specs.Streams.{Appends, AppendsFront}
use Rattle.trace_compare.specs.Comparisons.{Comparison, Took, fresh, mark, told}

marked : (one other : Bool) → mark one ≡ mark other → one ≡ other
marked true true e = refl
marked false false e = refl
marked true false e = absurd (cc)
marked false true e = absurd (cc)

-- where the lengths are the same so are the parts
parted : (one other front rest : List ℕ) → length one ≡ length other → one ++ front ≡ other ++ rest → (one ≡ other) × (front ≡ rest)
parted one other front rest size e = (
  sym (take_at one front (length other) size) ∙ ap (take (length other)) e ∙ take_at other rest (length other) refl,
  sym (drop_at one front (length other) size) ∙ ap (drop (length other)) e ∙ drop_at other rest (length other) refl,
)

pub told_took : (old new : Comparison) (bytes : List ℕ) → told new ≡ told old ++ bytes → Took old new bytes
told_took old new bytes e =
    let mark : mark new.stops ≡ mark old.stops = cc in
    let size : length new.given ≡ length old.given = cc in
    let tail : new.given ++ new.taken ≡ (old.given ++ old.taken) ++ bytes = cc in
    let parts = parted new.given old.given new.taken (old.taken ++ bytes) size (tail ∙ append_assoc old.given old.taken bytes) in
    record { given = parts.0; stops = marked new.stops old.stops mark; taken = parts.1 }

-- a fresh sink that took all bytes of a text
pub all_taken : (given bytes : List ℕ) (stops : Bool) (new : Comparison) → Appends (Some (told (fresh given stops))) (Some (told new)) bytes → (new.given ≡ given) × (new.taken ≡ bytes)
all_taken given bytes stops new e =
    let same : told new ≡ told (fresh given stops) ++ bytes = cc in
    let took = told_took (fresh given stops) new bytes same in
    (took.given, took.taken)

-- a fresh sink that took a front of a text
pub front_taken : (given bytes : List ℕ) (stops : Bool) (new : Comparison) → AppendsFront (Some (told (fresh given stops))) (Some (told new)) bytes
    → (new.given ≡ given) × ((rest : List ℕ) × (new.taken ++ rest ≡ bytes))
front_taken given bytes stops new (front, rest, joined, e) =
    let same : told new ≡ told (fresh given stops) ++ front = cc in
    let took = told_took (fresh given stops) new front same in
    (took.given, (rest, ap (λ (l : List ℕ). l ++ rest) took.taken ∙ joined))
