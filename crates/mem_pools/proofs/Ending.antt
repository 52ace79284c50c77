-- Waits end one after another, and those that are left still queue in one order.
use Rattle.std.proofs.Common.{◌≡◌, ℕ, zero, suc, ◌+◌, ◌-◌, ◌<◌, ◌≤◌, Bool, true, false, List, [], ◌∷◌, Option, Some, None, refl, ap, sym, ◌∙◌, arith, subst}
use Rattle.std.specs.Bool.{◌==◌}
use Rattle.std.specs.Prelude.{slice_get}
use Rattle.std.proofs.lemmas.Bool.Decides.{nat_tests}
use Rattle.tk_types.specs.declared.task.Task.{Task}
use Rattle.tk_types.specs.declared.task.Phase.{Phase}
use Rattle.tk_types.specs.declared.task.Phase.TheVariants.{Dormant, Ready, Waiting}
use Rattle.tk_types.specs.declared.task.Order.{Order}
use Rattle.tk_types.specs.declared.answer.Answer.{Answer}
use Rattle.tk_types.specs.declared.error_code.Er.TheVariants as er
use Rattle.tk_types.specs.Codes.{code_of}
use Rattle.kernel_model.specs.Words.Checks.{plain}
use Rattle.kernel_model.specs.Tasks.Base.{Base, is_waiting, queue, release, task_at, waiting_in, waits_in, waits_for, waits_somewhere, is_waiting_phase}
use Rattle.kernel_model.specs.Tasks.Queues.{AreOfOrder, queue_in}
use Rattle.kernel_model.specs.SemFlags.Calls.{end_first, first_ended}
use Rattle.kernel_lemmas.proofs.Releases.{release_others, release_over}

waits_in_phase : (object : ℕ) (phase : Phase) → waits_in object phase ≡ true → is_waiting_phase phase ≡ true
waits_in_phase object Dormant there = absurd (cc there)
waits_in_phase object Ready there = absurd (cc there)
waits_in_phase object (Waiting other) there = refl

waits_there : (object : ℕ) (slot : Option Task) → waiting_in object slot ≡ true → waits_somewhere slot ≡ true
waits_there object None there = absurd (cc there)
waits_there object (Some k) there = waits_in_phase object k.phase there

alike_if : (order : Order) (b : Base) (t object u : ℕ) (result : Answer) (same : Bool) → (u == t) ≡ same → AreOfOrder order b object → waits_for (release b t result) object u ≡ true → queue_in (task_at (release b t result) u) ≡ order
alike_if order b t object u result true is alike there =
    let itself : u ≡ t = grind (arith, nat_tests, is) in
    let waits : is_waiting (release b t result) t ≡ true = subst (λ (v : ℕ). is_waiting (release b t result) v ≡ true) itself (waits_there object (task_at (release b t result) u) there) in
    absurd (cc (waits, release_over b t result))
alike_if order b t object u result false is alike there =
    let apart : u ≡ t → ⊥ = λ itself. grind (arith, nat_tests, is, itself) in
    let row = release_others b t u result apart in
    ap queue_in row ∙ alike.alike u (ap (waiting_in object) (sym row) ∙ there)

-- the end of one wait leaves the others in their order
pub release_alike : (order : Order) (b : Base) (t object : ℕ) (result : Answer) → AreOfOrder order b object → AreOfOrder order (release b t result) object
release_alike order b t object result alike = record { alike = λ u there. alike_if order b t object u result (u == t) refl alike there }

first_by : (waiters : List ℕ) (t : ℕ) (b : Base) → slice_get waiters 0 ≡ Some t → first_ended waiters b ≡ release b t (plain (code_of er.Dlt))
first_by [] t b is = absurd (cc is)
first_by (u ∷ rest) t b is = let same : u ≡ t = cc is in rw same refl

none_by : (waiters : List ℕ) (b : Base) → slice_get waiters 0 ≡ None → first_ended waiters b ≡ b
none_by [] b is = refl
none_by (u ∷ rest) b is = absurd (cc is)

ended_one : (left : ℕ) (order : Order) (object : ℕ) (b : Base) → end_first (suc left) order object b ≡ end_first left order object (first_ended (queue order b object) b)
unfolding end_first
ended_one left order object b = refl

-- one wait more ends
pub ended_more : (count done : ℕ) (order : Order) (object t : ℕ) (old now all : Base) → done < count → slice_get (queue order old object) 0 ≡ Some t → now ≡ release old t (plain (code_of er.Dlt)) →
    end_first (count - done) order object old ≡ all → end_first (count - (done + 1)) order object now ≡ all
ended_more count done order object t old now all below first moved left =
    let one : count - done ≡ suc (count - (done + 1)) = omega arith in
    ap (end_first (count - (done + 1)) order object) (moved ∙ sym (first_by (queue order old object) t old first))
    ∙ sym (ended_one (count - (done + 1)) order object old)
    ∙ ap (λ n. end_first n order object old) (sym one)
    ∙ left

pub ended_all : (count done : ℕ) (order : Order) (object : ℕ) (b all : Base) → count ≤ done → end_first (count - done) order object b ≡ all → b ≡ all
unfolding end_first
ended_all count done order object b all spent left = let none : count - done ≡ 0 = omega arith in ap (λ n. end_first n order object b) (sym none) ∙ left

early_at : (left : ℕ) (order : Order) (object : ℕ) (b : Base) → slice_get (queue order b object) 0 ≡ None → end_first left order object b ≡ b
unfolding end_first
early_at zero order object b none = refl
early_at (suc left) order object b none = ap (end_first left order object) (none_by (queue order b object) b none) ∙ early_at left order object b none

-- where none waits, nothing more ends
pub ended_early : (left : ℕ) (order : Order) (object : ℕ) (b all : Base) → slice_get (queue order b object) 0 ≡ None → end_first left order object b ≡ all → b ≡ all
ended_early left order object b all none rest = sym (early_at left order object b none) ∙ rest
