-- Who comes next in a chain.
use Rattle.std.proofs.Common.{◌≡◌, ℕ, ◌-◌, ◌≤◌, ◌<◌, Bool, true, false, ◌&&◌, Option, Some, None, refl, cond, ◌∙◌, ap, sym, arith}
use Rattle.std.specs.Prelude.{nat_le, nat_lt}
use Rattle.std.specs.Bool.{◌==◌}
use Rattle.std.proofs.lemmas.Bool.Decides.{nat_tests}
use Rattle.tk_types.specs.declared.task.Task.{Task}
use Rattle.tk_types.specs.declared.task.Phase.{Phase}
use Rattle.tk_types.specs.declared.task.Phase.TheVariants.{Dormant, Ready, Waiting}
use Rattle.kernel_model.specs.Tasks.Base.{Base, task_at}
use Rattle.object_model.specs.declared.mutexes.Mutex.{Mutex}
use Rattle.object_model.specs.Mutexes.Tables.{Mutexes, awaited, awaited_in, awaited_in_phase, mutex_at}
use Rattle.object_model.specs.Mutexes.Priority.{heir_in, next_in_chain}
use Rattle.mutex_laws.specs.Chains.{WaitsForHeir}
use Rattle.mutex_laws.proofs.Ceilings.{awaits_waits, waits_awaits}

low_range : (object : ℕ) (low high : Bool) → nat_le 256 object ≡ low → nat_lt object 320 ≡ high → cond (low && high) (object - 255) 0 ≤ 64
low_range object true true low high = let below : object < 320 = grind (arith, nat_tests, high) in omega (arith, below)
low_range object true false low high = omega arith
low_range object false high low above = omega arith

phase_range : (phase : Phase) → awaited_in_phase phase ≤ 64
phase_range Dormant = omega arith
phase_range Ready = omega arith
phase_range (Waiting object) = low_range object (nat_le 256 object) (nat_lt object 320) refl refl

row_range : (o : Option Task) → awaited_in o ≤ 64
row_range None = omega arith
row_range (Some k) = phase_range k.phase

heir_by : (b : Base) (m : Mutexes) (u heir : ℕ) (k : Mutex) (inherits : Bool) → mutex_at m 0 ≡ None → (heir ≡ 0 → ⊥) → mutex_at m (awaited b u) ≡ Some k → k.inherits ≡ inherits → cond inherits k.owner 0 ≡ heir → WaitsForHeir b m u heir
heir_by b m u heir k false none some at is goes = absurd (some (sym goes))
heir_by b m u heir k true none some at is goes = by_zero (awaited b u == 0) refl
  where
    by_zero : (zero_id : Bool) → (awaited b u == 0) ≡ zero_id → WaitsForHeir b m u heir
    by_zero true same = let e : awaited b u ≡ 0 = grind (arith, nat_tests, same) in let there : mutex_at m 0 ≡ Some k = ap (mutex_at m) (sym e) ∙ at in absurd (cc (none, there))
    by_zero false apart =
        let one : 1 ≤ awaited b u = grind (arith, nat_tests, apart) in
        record { id = awaited b u; row = k; waits = awaits_waits b u (awaited b u) refl one; in_range = (one, row_range (task_at b u)); there = at; inherits = is; owns = goes }

heir_of : (b : Base) (m : Mutexes) (u heir : ℕ) (slot : Option Mutex) → mutex_at m 0 ≡ None → (heir ≡ 0 → ⊥) → mutex_at m (awaited b u) ≡ slot → heir_in slot ≡ heir → WaitsForHeir b m u heir
heir_of b m u heir None none some at is = absurd (some (sym is))
heir_of b m u heir (Some k) none some at is = heir_by b m u heir k k.inherits none some at refl is

-- a chain goes on with the owner of the inheritance mutex that the task waits for
pub next_is_heir : (b : Base) (m : Mutexes) (u heir : ℕ) → mutex_at m 0 ≡ None → (heir ≡ 0 → ⊥) → next_in_chain b m u ≡ heir → WaitsForHeir b m u heir
next_is_heir b m u heir none some is = heir_of b m u heir (mutex_at m (awaited b u)) none some refl is

inherited : (k : Mutex) (inherits : Bool) → k.inherits ≡ inherits → inherits ≡ true → cond inherits k.owner 0 ≡ k.owner
inherited k true at is = refl
inherited k false at is = absurd (cc is)

-- and with nobody else
pub heir_is_next : (b : Base) (m : Mutexes) (u heir : ℕ) → WaitsForHeir b m u heir → next_in_chain b m u ≡ heir
heir_is_next b m u heir is =
    ap (λ id. heir_in (mutex_at m id)) (waits_awaits b u is.id is.waits is.in_range.0 is.in_range.1)
    ∙ ap heir_in is.there
    ∙ inherited is.row is.row.inherits refl is.inherits
    ∙ is.owns
