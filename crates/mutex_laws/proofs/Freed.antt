-- What freeing the mutex that a task locked last does.
use Rattle.std.proofs.Common.{◌≡◌, ℕ, ◌+◌, ◌≤◌, Bool, true, false, not, List, [], ◌∷◌, ◌++◌, append-nil, Option, Some, None, option_map, refl, cond, ◌∙◌, ap, subst, arith}
use Rattle.std.specs.Prelude.{filter}
use Rattle.std.specs.Bool.{◌==◌}
use Rattle.std.specs.List.{last_or}
use Rattle.std.proofs.lemmas.Bool.Decides.{nat_tests}
use Rattle.std.proofs.lemmas.List.Elements.{filter-append}
use Rattle.kernel_model.specs.LawWords.Once.{times, IsOnce}
use Rattle.kernel_model.specs.Words.Orders.{without}
use Rattle.kernel_model.specs.Tasks.Base.{Base}
use Rattle.kernel_lemmas.proofs.Filters.{filter_absent, filter_but}
use Rattle.kernel_lemmas.proofs.Once.{once_filter, times_append}
use Rattle.kernel_lemmas.proofs.ReadyLists.{times_filter_is}
use Rattle.kernel_lemmas.proofs.Sorting.{not_here}
use Rattle.kernel_lemmas.proofs.Tables.{entry_other, entry_same, itself}
use Rattle.object_model.specs.declared.mutexes.Mutex.{Mutex}
use Rattle.object_model.specs.Mutexes.Tables.{Mutexes, free_last, freed, held, mutex_at, owner_in, owner_of}
use Rattle.mutex_laws.specs.Owners.{IsLastFreed}

-- ---- the last of a list

-- a list with its last one
pub record EndsWith (ids : List ℕ) (id : ℕ) : Type 0 where
  pub left : List ℕ
  pub ends : ids ≡ left ++ id ∷ []

last_is : (ids : List ℕ) (id first : ℕ) → last_or None (first ∷ ids) ≡ Some id → EndsWith (first ∷ ids) id
last_is [] id first is = let e : first ≡ id = cc is in record { left = []; ends = ap (λ n. n ∷ []) e }
last_is (next ∷ ids) id first is = let rest = last_is ids id next is in record { left = first ∷ rest.left; ends = ap (λ more. first ∷ more) rest.ends }

pub ends_by : (ids : List ℕ) (id : ℕ) → last_or None ids ≡ Some id → EndsWith ids id
ends_by [] id is = absurd (cc is)
ends_by (first ∷ ids) id is = last_is ids id first is

last_of_more : (ids : List ℕ) (first : ℕ) → last_or None (first ∷ ids) ≡ None → ⊥
last_of_more [] first is = cc is
last_of_more (next ∷ ids) first is = last_of_more ids next is

none_last : (ids : List ℕ) → last_or None ids ≡ None → ids ≡ []
none_last [] is = refl
none_last (first ∷ ids) is = absurd (last_of_more ids first is)

-- ---- what stands in a list once

absent_by : (id first : ℕ) (ids : List ℕ) (same : Bool) → cond same 1 0 + times id ids ≡ 0 → (times id ids ≡ 0 → without id ids ≡ ids) → cond (not same) (first ∷ without id ids) (without id ids) ≡ first ∷ ids
absent_by id first ids true none rest = absurd (omega (arith, none))
absent_by id first ids false none rest = ap (λ more. first ∷ more) (rest (omega (arith, none)))

absent_same : (id : ℕ) (ids : List ℕ) → times id ids ≡ 0 → without id ids ≡ ids
absent_same id [] none = refl
absent_same id (first ∷ ids) none = absent_by id first ids (first == id) none (absent_same id ids)

last_out : (id : ℕ) (left : List ℕ) → IsOnce (left ++ id ∷ []) → without id (left ++ id ∷ []) ≡ left
last_out id left once =
    let one : times id (left ++ id ∷ []) ≤ 1 = once id in
    let both : times id (left ++ id ∷ []) ≡ times id left + (cond (id == id) 1 0 + 0) = times_append id left (id ∷ []) in
    let here : cond (id == id) 1 0 + 0 ≡ 1 + 0 = ap (λ (test : Bool). cond test 1 0 + 0) (itself id) in
    filter-append (λ other. not (other == id)) left (id ∷ [])
    ∙ ap (λ last. without id left ++ last) (not_here (not (id == id)) id [] (ap not (itself id)))
    ∙ append-nil (without id left)
    ∙ absent_same id left (omega (arith, one, both, here))

passes_if : (passes : ℕ → Bool) (id n : ℕ) (test : Bool) → passes id ≡ test → 1 ≤ cond test n 0 → passes id ≡ true
passes_if passes id n true is stands = is
passes_if passes id n false is stands = absurd (omega (arith, stands))

-- what stands in the rest of a list has passed
stands_passes : (passes : ℕ → Bool) (id : ℕ) (ids : List ℕ) → 1 ≤ times id (filter passes ids) → passes id ≡ true
stands_passes passes id ids stands = passes_if passes id (times id ids) (passes id) refl (subst (λ (n : ℕ). 1 ≤ n) (times_filter_is passes id ids) stands)

pub last_stands : (id : ℕ) (left ids : List ℕ) → ids ≡ left ++ id ∷ [] → 1 ≤ times id ids
last_stands id left ids ends =
    let both : times id ids ≡ times id left + (cond (id == id) 1 0 + 0) = ap (times id) ends ∙ times_append id left (id ∷ []) in
    let here : cond (id == id) 1 0 + 0 ≡ 1 + 0 = ap (λ (test : Bool). cond test 1 0 + 0) (itself id) in
    omega (arith, both, here)

-- ---- owners

-- a task owns what it holds
pub holds_owns : (m : Mutexes) (t id : ℕ) → 1 ≤ times id (held m t) → owner_of m id ≡ t
holds_owns m t id stands = let passed : (owner_of m id == t) ≡ true = stands_passes (λ other. owner_of m other == t) id m.locks stands in grind (arith, nat_tests, passed)

freed_owner : (m : Mutexes) (id : ℕ) (slot : Option Mutex) → owner_in (option_map {T = Mutex} (λ k. record k { owner = 0 }) slot) ≡ 0
freed_owner m id None = refl
freed_owner m id (Some k) = refl

pub freed_free : (m : Mutexes) (id : ℕ) → owner_of (freed m id) id ≡ 0
freed_free m id = entry_same (λ o. owner_in o ≡ 0) m.table id (option_map {T = Mutex} (λ k. record k { owner = 0 }) (mutex_at m id)) (freed_owner m id (mutex_at m id)) refl

pub freed_rows : (m : Mutexes) (id other : ℕ) → (other ≡ id → ⊥) → mutex_at (freed m id) other ≡ mutex_at m other
freed_rows m id other apart = entry_other m.table id other (option_map {T = Mutex} (λ k. record k { owner = 0 }) (mutex_at m id)) apart

-- without the mutex each holds what it held
pub held_freed : (m : Mutexes) (id u : ℕ) → held (freed m id) u ≡ without id (held m u)
held_freed m id u = filter_but (λ other. owner_of m other == u) (λ other. owner_of (freed m id) other == u) id m.locks (λ other apart. ap (λ o. owner_in o == u) (freed_rows m id other apart))

-- another task doesn't hold it
held_others : (m : Mutexes) (id t u : ℕ) → owner_of m id ≡ t → (u ≡ t → ⊥) → held (freed m id) u ≡ held m u
held_others m id t u owns apart = held_freed m id u ∙ filter_absent (λ other. owner_of m other == u) id m.locks (grind (arith, nat_tests, owns, apart))

freed_last_of : (m : Mutexes) (t id : ℕ) (now : Mutexes) → IsOnce m.locks → EndsWith (held m t) id → freed m id ≡ now → IsLastFreed m t now
freed_last_of m t id now once last is = subst (IsLastFreed m t) is (record {
  id = id;
  left = last.left;
  held_before = last.ends;
  free = freed_free m id;
  held_now = held_freed m id t ∙ ap (without id) last.ends ∙ last_out id last.left (subst IsOnce last.ends (once_filter (λ other. owner_of m other == t) m.locks once));
  others = λ u one apart. held_others m id t u (holds_owns m t id (last_stands id last.left (held m t) last.ends)) apart;
  rows = freed_rows m id;
})

by_last : (m : Mutexes) (t : ℕ) (now : Mutexes) (last : Option ℕ) → IsOnce m.locks → last_or None (held m t) ≡ last → option_map (freed m) last ≡ Some now → IsLastFreed m t now
by_last m t now None once at is = absurd (cc is)
by_last m t now (Some id) once at is = freed_last_of m t id now once (ends_by (held m t) id at) (cc is)

pub last_freed : (b : Base) (m : Mutexes) (t : ℕ) (now : Mutexes) → IsOnce m.locks → free_last b m t ≡ Some now → IsLastFreed m t now
unfolding free_last
last_freed b m t now once is = by_last m t now (last_or None (held m t)) once refl is

by_none : (m : Mutexes) (t : ℕ) (last : Option ℕ) → last_or None (held m t) ≡ last → option_map (freed m) last ≡ None → held m t ≡ []
by_none m t None at is = none_last (held m t) at
by_none m t (Some id) at is = absurd (cc is)

-- where nothing is freed, nothing is held
pub none_freed : (b : Base) (m : Mutexes) (t : ℕ) → free_last b m t ≡ None → held m t ≡ []
unfolding free_last
none_freed b m t is = by_none m t (last_or None (held m t)) refl is
