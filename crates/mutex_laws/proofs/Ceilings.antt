-- Which priorities ceilings allow.
use Rattle.std.proofs.Common.{◌≡◌, ℕ, ◌+◌, ◌-◌, ◌≤◌, ◌<◌, inl, inr, Bool, true, false, ◌&&◌, List, [], ◌∷◌, Option, Some, None, refl, cond, ◌∙◌, ap, sym, subst, arith}
use Rattle.std.specs.Prelude.{nat_le, nat_lt}
use Rattle.std.specs.Bool.{◌==◌}
use Rattle.std.specs.List.{list_all}
use Rattle.std.proofs.lemmas.Bool.Decides.{nat_tests}
use Rattle.tk_types.specs.declared.task.Task.{Task}
use Rattle.tk_types.specs.declared.task.Phase.{Phase}
use Rattle.tk_types.specs.declared.task.Phase.TheVariants.{Dormant, Ready, Waiting}
use Rattle.kernel_model.specs.Tasks.Base.{Base, task_at, waiting_in, waits_for, waits_in}
use Rattle.object_model.specs.Mutexes.Tables.{Mutexes, awaited, awaited_in, awaited_in_phase, ceiling_allows, ceiling_of, held, is_under, mutex_object}
use Rattle.mutex_laws.specs.Owners.{HoldsOrAwaits, IsAboveCeiling}
use Rattle.mutex_laws.proofs.Taken.{IsOneOf, one_of, one_times}

-- ---- all of a list

both : (first later : Bool) → (first && later) ≡ true → (first ≡ true) × (later ≡ true)
both true later is = (refl, is)
both false later is = absurd (cc is)

all_pass : (passes : ℕ → Bool) (id : ℕ) (ids : List ℕ) → list_all passes ids ≡ true → IsOneOf id ids → passes id ≡ true
all_pass passes id [] is stands = absurd stands
all_pass passes id (first ∷ ids) is (inl same) = ap passes (sym same) ∙ (both (passes first) (list_all passes ids) is).0
all_pass passes id (first ∷ ids) is (inr stands) = all_pass passes id ids (both (passes first) (list_all passes ids) is).1 stands

-- one of a list that fails
record Fails (passes : ℕ → Bool) (ids : List ℕ) : Type 0 where
  id : ℕ
  stands : IsOneOf id ids
  fails : passes id ≡ false

fails_later : (passes : ℕ → Bool) (first : ℕ) (ids : List ℕ) → Fails passes ids → Fails passes (first ∷ ids)
fails_later passes first ids found = record { id = found.id; stands = inr found.stands; fails = found.fails }

fails_by : (passes : ℕ → Bool) (first : ℕ) (ids : List ℕ) (test : Bool) → passes first ≡ test → (test && list_all passes ids) ≡ false → (list_all passes ids ≡ false → Fails passes ids) → Fails passes (first ∷ ids)
fails_by passes first ids true at is rest = fails_later passes first ids (rest is)
fails_by passes first ids false at is rest = record { id = first; stands = inl refl; fails = at }

one_fails : (passes : ℕ → Bool) (ids : List ℕ) → list_all passes ids ≡ false → Fails passes ids
one_fails passes [] is = absurd (cc is)
one_fails passes (first ∷ ids) is = fails_by passes first ids (passes first) refl is (one_fails passes ids)

-- ---- ceilings

under_is : (o : Option ℕ) (ceiling priority : ℕ) → o ≡ Some ceiling → is_under o priority ≡ true → ceiling ≤ priority
under_is None ceiling priority at is = absurd (cc at)
under_is (Some c) ceiling priority at is = let e : c ≡ ceiling = cc at in subst (λ (n : ℕ). n ≤ priority) e (grind (arith, nat_tests, is))

concerned : (b : Base) (m : Mutexes) (t id : ℕ) → HoldsOrAwaits b m t id → IsOneOf id (awaited b t ∷ held m t)
concerned b m t id (inl holds) = inr (one_of id (held m t) holds)
concerned b m t id (inr awaits) = inl awaits

concerns_of : (b : Base) (m : Mutexes) (t id : ℕ) → IsOneOf id (awaited b t ∷ held m t) → HoldsOrAwaits b m t id
concerns_of b m t id (inl awaits) = inr awaits
concerns_of b m t id (inr holds) = inl (one_times id (held m t) holds)

-- what is allowed is above no ceiling that concerns the task
pub allowed_under : (b : Base) (m : Mutexes) (t priority id ceiling : ℕ) → ceiling_allows b m t priority ≡ true → HoldsOrAwaits b m t id → ceiling_of m id ≡ Some ceiling → ceiling ≤ priority
unfolding ceiling_allows
allowed_under b m t priority id ceiling is concerns has =
    under_is (ceiling_of m id) ceiling priority has (all_pass (λ other. is_under (ceiling_of m other) priority) id (awaited b t ∷ held m t) is (concerned b m t id concerns))

above_by : (b : Base) (m : Mutexes) (t priority id : ℕ) (o : Option ℕ) → ceiling_of m id ≡ o → is_under o priority ≡ false → HoldsOrAwaits b m t id → IsAboveCeiling b m t priority
above_by b m t priority id None at fails concerns = absurd (cc fails)
above_by b m t priority id (Some ceiling) at fails concerns = record { id = id; ceiling = ceiling; concerns = concerns; has = at; above = grind (arith, nat_tests, fails) }

above_of : (b : Base) (m : Mutexes) (t priority : ℕ) → Fails (λ other. is_under (ceiling_of m other) priority) (awaited b t ∷ held m t) → IsAboveCeiling b m t priority
above_of b m t priority found = above_by b m t priority found.id (ceiling_of m found.id) refl found.fails (concerns_of b m t found.id found.stands)

-- and what isn't is above one
pub refused_above : (b : Base) (m : Mutexes) (t priority : ℕ) → ceiling_allows b m t priority ≡ false → IsAboveCeiling b m t priority
unfolding ceiling_allows
refused_above b m t priority is = above_of b m t priority (one_fails (λ other. is_under (ceiling_of m other) priority) (awaited b t ∷ held m t) is)

-- ---- the mutex that a task waits for

in_range : (object id : ℕ) (low high : Bool) → nat_le 256 object ≡ low → nat_lt object 320 ≡ high → (object == 255 + id) ≡ true → 1 ≤ id → id ≤ 64 → cond (low && high) (object - 255) 0 ≡ id
in_range object id true true low high at one most = let e : object ≡ 255 + id = grind (arith, nat_tests, at) in omega (arith, e)
in_range object id true false low high at one most = let e : object ≡ 255 + id = grind (arith, nat_tests, at) in let above : 320 ≤ object = grind (arith, nat_tests, high) in absurd (omega (arith, e, above, most))
in_range object id false high low is at one most = let e : object ≡ 255 + id = grind (arith, nat_tests, at) in let below : object < 256 = grind (arith, nat_tests, low) in absurd (omega (arith, e, below, one))

phase_awaits : (phase : Phase) (id : ℕ) → waits_in (mutex_object id) phase ≡ true → 1 ≤ id → id ≤ 64 → awaited_in_phase phase ≡ id
phase_awaits Dormant id waits one most = absurd (cc waits)
phase_awaits Ready id waits one most = absurd (cc waits)
phase_awaits (Waiting object) id waits one most = in_range object id (nat_le 256 object) (nat_lt object 320) refl refl waits one most

row_awaits : (o : Option Task) (id : ℕ) → waiting_in (mutex_object id) o ≡ true → 1 ≤ id → id ≤ 64 → awaited_in o ≡ id
row_awaits None id waits one most = absurd (cc waits)
row_awaits (Some k) id waits one most = phase_awaits k.phase id waits one most

-- a task that waits for the object of a mutex awaits that mutex
pub waits_awaits : (b : Base) (t id : ℕ) → waits_for b (mutex_object id) t ≡ true → 1 ≤ id → id ≤ 64 → awaited b t ≡ id
waits_awaits b t id waits one most = row_awaits (task_at b t) id waits one most

object_of : (object id : ℕ) (low high : Bool) → nat_le 256 object ≡ low → nat_lt object 320 ≡ high → cond (low && high) (object - 255) 0 ≡ id → 1 ≤ id → (object == 255 + id) ≡ true
object_of object id true true low high is one = let above : 256 ≤ object = grind (arith, nat_tests, low) in let e : object ≡ 255 + id = omega (arith, is, above) in grind (arith, nat_tests, e)
object_of object id true false low high is one = absurd (omega (arith, is, one))
object_of object id false high low above is one = absurd (omega (arith, is, one))

phase_waits : (phase : Phase) (id : ℕ) → awaited_in_phase phase ≡ id → 1 ≤ id → waits_in (mutex_object id) phase ≡ true
phase_waits Dormant id is one = absurd (omega (arith, is, one))
phase_waits Ready id is one = absurd (omega (arith, is, one))
phase_waits (Waiting object) id is one = object_of object id (nat_le 256 object) (nat_lt object 320) refl refl is one

row_waits : (o : Option Task) (id : ℕ) → awaited_in o ≡ id → 1 ≤ id → waiting_in (mutex_object id) o ≡ true
row_waits None id is one = absurd (omega (arith, is, one))
row_waits (Some k) id is one = phase_waits k.phase id is one

-- and back
pub awaits_waits : (b : Base) (t id : ℕ) → awaited b t ≡ id → 1 ≤ id → waits_for b (mutex_object id) t ≡ true
awaits_waits b t id is one = row_waits (task_at b t) id is one
