-- What the end of a task's wait leaves as it was: the rows of all others, and the place of one that is ready.
use Rattle.std.proofs.Common.{◌≡◌, ℕ, suc, zero, ◌+◌, List, [], ◌∷◌, Bool, true, false, ◌&&◌, Option, Some, None, refl, cond, ◌∙◌, ap, sym, arith}
use Rattle.std.specs.Prelude.{count_by, slice_set}
use Rattle.std.specs.Bool.{◌==◌}
use Rattle.std.proofs.lemmas.Bool.Decides.{nat_tests}
use Rattle.std.proofs.lemmas.List.Sums.{sum_by-cons}
use Rattle.tk_types.specs.declared.answer.Answer.{Answer}
use Rattle.tk_types.specs.declared.task.Task.{Task}
use Rattle.tk_types.specs.declared.task.Phase.{Phase}
use Rattle.tk_types.specs.declared.task.Phase.TheVariants.{Dormant, Ready, Waiting}
use Rattle.kernel_model.specs.Tasks.Base.{Base, task_at, is_ready, may_run, current_in, is_ready_phase, is_waiting_phase, is_waiting, waits_somewhere, release}
use Rattle.kernel_model.specs.Words.Orders.{entry}
use Rattle.kernel_model.specs.LawWords.Precedence.{KeepsPlace}
use Rattle.kernel_model.specs.LawWords.Waiters.{waiting_count}
use Rattle.kernel_lemmas.proofs.Tables.{entry_cases, entry_split, entry_there, entry_other}
use Rattle.kernel_lemmas.proofs.Moves.{release_keeps}

other_if : (b c : Base) (u : ℕ) (waits : Bool) → task_at c u ≡ task_at b u → task_at (cond waits c b) u ≡ task_at b u
other_if b c u true same = same
other_if b c u false same = refl

-- the end of a task's wait leaves every other task's row
pub release_others : (b : Base) (t u : ℕ) (result : Answer) → (u ≡ t → ⊥) → task_at (release b t result) u ≡ task_at b u
release_others b t u result apart = entry_cases (λ c. task_at c u ≡ task_at b u) (task_at b t) b _ refl
    (λ k at. other_if b _ u (is_waiting_phase k.phase) (entry_other b.tasks t u _ apart))

-- a task that doesn't wait has no wait that could end
idle_if : (b c : Base) (waits : Bool) → waits ≡ false → cond waits c b ≡ b
idle_if b c true idle = absurd (cc idle)
idle_if b c false idle = refl

pub release_idle : (b : Base) (t : ℕ) (result : Answer) → is_waiting b t ≡ false → release b t result ≡ b
release_idle b t result idle = entry_cases (λ c. c ≡ b) (task_at b t) b _ refl (λ k at. idle_if b _ (is_waiting_phase k.phase) (ap waits_somewhere (sym at) ∙ idle))

phase_idle : (phase : Phase) (free : Bool) → (is_ready_phase phase && free) ≡ true → is_waiting_phase phase ≡ false
phase_idle Ready free ready = refl
phase_idle Dormant free ready = refl
phase_idle (Waiting object) free ready = absurd (cc ready)

-- a task that is ready doesn't wait
pub ready_idle : (o : Option Task) → may_run o ≡ true → waits_somewhere o ≡ false
ready_idle None ready = refl
ready_idle (Some k) ready = phase_idle k.phase (k.suspensions == 0) ready

same_row_if : (b : Base) (t u : ℕ) (result : Answer) (test : Bool) → (t == u) ≡ test → is_ready b t ≡ true → task_at (release b u result) t ≡ task_at b t
same_row_if b t u result true is ready =
    let e : t ≡ u = grind (arith, nat_tests, is) in
    ap (λ c. task_at c t) (release_idle b u result (ready_idle (task_at b u) (ap (λ v. is_ready b v) (sym e) ∙ ready)))
same_row_if b t u result false is ready = release_others b u t result (λ e. grind (arith, nat_tests, is, e))

-- the end of any wait leaves the row of a task that is ready
pub release_ready : (b : Base) (t u : ℕ) (result : Answer) → is_ready b t ≡ true → task_at (release b u result) t ≡ task_at b t
release_ready b t u result ready = same_row_if b t u result (t == u) refl ready

-- and its place
pub release_keeps_place : (b : Base) (t u : ℕ) (result : Answer) → KeepsPlace b t → is_ready b t ≡ true → KeepsPlace (release b u result) t
release_keeps_place b t u result is ready =
    let row = release_ready b t u result ready in
    release_keeps b t u result is ready (ap may_run row ∙ ready) (ap current_in row)

-- ---- the wait is over

over_if : (b c : Base) (t : ℕ) (k : Task) (waits : Bool) → is_waiting_phase k.phase ≡ waits → task_at b t ≡ Some k → is_waiting c t ≡ false → is_waiting (cond waits c b) t ≡ false
over_if b c t k true waits at over = over
over_if b c t k false waits at over = ap waits_somewhere at ∙ waits

-- a task whose wait has ended doesn't wait
pub release_over : (b : Base) (t : ℕ) (result : Answer) → is_waiting (release b t result) t ≡ false
release_over b t result = entry_split (λ c. is_waiting c t ≡ false) (task_at b t) b _ (λ none. ap waits_somewhere none)
    (λ k at. over_if b _ t k (is_waiting_phase k.phase) refl at (ap waits_somewhere (entry_there b.tasks t k (Some (record k { phase = Ready })) at)))

abbrev as_number : Bool → ℕ
as_number test = cond test 1 0

pub count_cons : (x : Option Task) (xs : List (Option Task)) → count_by waits_somewhere (x ∷ xs) ≡ as_number (waits_somewhere x) + count_by waits_somewhere xs
count_cons x xs = sum_by-cons (λ slot. as_number (waits_somewhere slot)) x xs

one_fewer : (xs : List (Option Task)) (t : ℕ) (o : Option Task) → waits_somewhere (entry xs t) ≡ true → waits_somewhere o ≡ false → count_by waits_somewhere xs ≡ count_by waits_somewhere (slice_set xs t o) + 1
one_fewer [] t o waits over = absurd (cc waits)
one_fewer (x ∷ xs) zero o waits over =
    count_cons x xs
    ∙ ap (λ test. as_number test + count_by waits_somewhere xs) waits
    ∙ let rest : count_by waits_somewhere (o ∷ xs) ≡ as_number false + count_by waits_somewhere xs = count_cons o xs ∙ ap (λ test. as_number test + count_by waits_somewhere xs) over in omega (arith, rest)
one_fewer (x ∷ xs) (suc t) o waits over =
    let fewer : count_by waits_somewhere xs ≡ count_by waits_somewhere (slice_set xs t o) + 1 = one_fewer xs t o waits over in
    let after : count_by waits_somewhere (x ∷ slice_set xs t o) ≡ as_number (waits_somewhere x) + count_by waits_somewhere (slice_set xs t o) = count_cons x (slice_set xs t o) in
    count_cons x xs ∙ omega (arith, after, fewer)

fewer_if : (b c : Base) (k : Task) (waits : Bool) → waits ≡ true → waiting_count b ≡ waiting_count c + 1 → waiting_count b ≡ waiting_count (cond waits c b) + 1
fewer_if b c k true waits fewer = fewer
fewer_if b c k false waits fewer = absurd (cc waits)

-- and one task fewer waits
pub release_ends_one : (b : Base) (t : ℕ) (result : Answer) → is_waiting b t ≡ true → waiting_count b ≡ waiting_count (release b t result) + 1
release_ends_one b t result waits = entry_split (λ c. waiting_count b ≡ waiting_count c + 1) (task_at b t) b _
    (λ none. let idle = ap waits_somewhere none in absurd (cc (idle, waits)))
    (λ k at. fewer_if b _ k (is_waiting_phase k.phase) (ap waits_somewhere (sym at) ∙ waits) (one_fewer b.tasks t (Some (record k { phase = Ready })) waits refl))
