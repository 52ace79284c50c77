-- A task that becomes ready takes the latest stamp.
use Rattle.std.proofs.Common.{◌≡◌, ℕ, ◌<◌, Bool, true, false, Option, Some, refl, cond, ◌∙◌, ap, sym, arith}
use Rattle.std.specs.Bool.{◌==◌}
use Rattle.std.proofs.lemmas.Bool.Decides.{nat_tests}
use Rattle.tk_types.specs.declared.answer.Answer.{Answer}
use Rattle.tk_types.specs.declared.task.Task.{Task}
use Rattle.tk_types.specs.declared.task.Phase.{Phase}
use Rattle.tk_types.specs.declared.task.Phase.TheVariants.{Ready}
use Rattle.kernel_model.specs.Words.Orders.{without, to_back}
use Rattle.kernel_model.specs.Tasks.Base.{Base, task_at, may_run, is_waiting_phase, suspensions_in, suspensions_of, becomes_ready, with_task, drop_wait, recorded, make_ready, release, resume, resumed}
use Rattle.kernel_model.specs.LawWords.Precedence.{StandsLast}
use Rattle.kernel_lemmas.proofs.Once.{times_without}
use Rattle.kernel_lemmas.proofs.Tables.{entry_there, entry_at}

-- a row is written that is ready, and its task goes to the back
stands_last : (b c : Base) (t : ℕ) (k : Task) (o : Option Task) → task_at b t ≡ Some k → task_at c t ≡ o → may_run o ≡ true → c.order ≡ to_back t b.order → StandsLast c t
stands_last b c t k o at now ready at_back = record {
  may_run = ap may_run now ∙ ready;
  before = without t b.order;
  stands = at_back;
  others = times_without t b.order;
}

free_of : (n : ℕ) → n ≡ 0 → (n == 0) ≡ true
free_of n none = grind (arith, nat_tests, none)

pub started_last : (b : Base) (t : ℕ) (k : Task) → task_at b t ≡ Some k → k.suspensions ≡ 0 → StandsLast (make_ready b t) t
started_last b t k at free = entry_at (λ c. StandsLast c t) (task_at b t) k b _ at
    (stands_last b _ t k (Some (record k { phase = Ready })) at (entry_there b.tasks t k _ at) (free_of k.suspensions free) refl)

released_if : (b : Base) (t : ℕ) (k : Task) (result : Answer) (waits free : Bool) → waits ≡ true → free ≡ true → (k.suspensions == 0) ≡ free → task_at b t ≡ Some k →
    StandsLast (cond waits (record (with_task (drop_wait b t) t (record k { phase = Ready })) { order = cond free (to_back t b.order) b.order; released = recorded t result b.released }) b) t
released_if b t k result false free waits is same at = absurd (cc waits)
released_if b t k result true false waits is same at = absurd (cc is)
released_if b t k result true true waits is same at = stands_last b _ t k (Some (record k { phase = Ready })) at (entry_there b.tasks t k _ at) same refl

pub released_last : (b : Base) (t : ℕ) (k : Task) (result : Answer) → task_at b t ≡ Some k → is_waiting_phase k.phase ≡ true → k.suspensions ≡ 0 → StandsLast (release b t result) t
released_last b t k result at waits free = entry_at (λ c. StandsLast c t) (task_at b t) k b _ at
    (released_if b t k result (is_waiting_phase k.phase) (k.suspensions == 0) waits (free_of k.suspensions free) refl at)

-- suspensions are taken off until so many are left
resumed_if : (b : Base) (t left : ℕ) (k : Task) (ready : Bool) → ready ≡ true → becomes_ready k.phase left ≡ ready → task_at b t ≡ Some k →
    StandsLast (record (with_task b t (record k { suspensions = left })) { order = cond ready (to_back t b.order) b.order }) t
resumed_if b t left k false is same at = absurd (cc is)
resumed_if b t left k true is same at = stands_last b _ t k (Some (record k { suspensions = left })) at (entry_there b.tasks t k _ at) same refl

ready_free : (phase : Phase) (n : ℕ) → phase ≡ Ready → n ≡ 0 → becomes_ready phase n ≡ true
ready_free phase n is none = ap (λ p. becomes_ready p n) is ∙ free_of n none

resume_if : (b : Base) (t left : ℕ) (k : Task) (free : Bool) → free ≡ false → k.phase ≡ Ready → task_at b t ≡ Some k → suspensions_of (cond free b (resumed b t left k)) t ≡ 0 → StandsLast (cond free b (resumed b t left k)) t
resume_if b t left k true suspended is at none = absurd (cc suspended)
resume_if b t left k false suspended is at none =
    resumed_if b t left k (becomes_ready k.phase left) (ready_free k.phase left is (ap suspensions_in (sym (entry_there b.tasks t k (Some (record k { suspensions = left })) at)) ∙ none)) refl at

suspended_test : (n : ℕ) → 0 < n → (n == 0) ≡ false
suspended_test n some = grind (arith, nat_tests, some)

pub resumed_last : (b : Base) (t : ℕ) (k : Task) (all : Bool) → task_at b t ≡ Some k → k.phase ≡ Ready → 0 < k.suspensions → suspensions_of (resume b t all) t ≡ 0 → StandsLast (resume b t all) t
resumed_last b t k all at is suspended = entry_at (λ c. suspensions_of c t ≡ 0 → StandsLast c t) (task_at b t) k b _ at
    (resume_if b t _ k (k.suspensions == 0) (suspended_test k.suspensions suspended) is at)
