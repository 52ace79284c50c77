-- A task that is ready stays the first of its equals through every move on another task's row.
use Rattle.std.proofs.Common.{◌≡◌, ℕ, ◌+◌, Bool, true, false, ◌&&◌, Option, Some, None, refl, cond, ◌∙◌, ap, sym, ℤ, pos, negsuc, arith}
use Rattle.std.specs.Bool.{◌==◌}
use Rattle.std.proofs.lemmas.Bool.Decides.{nat_tests}
use Rattle.tk_types.specs.declared.answer.Answer.{Answer}
use Rattle.tk_types.specs.declared.task.Flags.{Flags}
use Rattle.tk_types.specs.declared.task.Order.{Order}
use Rattle.tk_types.specs.declared.task.Order.TheVariants.{Fifo}
use Rattle.tk_types.specs.declared.task.Task.{Task}
use Rattle.tk_types.specs.declared.task.Phase.{Phase}
use Rattle.tk_types.specs.declared.task.Phase.TheVariants.{Dormant, Ready, Waiting}
use Rattle.kernel_model.specs.Words.Orders.{to_back}
use Rattle.kernel_model.specs.Tasks.Base.{Base, task_at, is_ready, may_run, current_in, is_ready_phase, is_waiting_phase, is_dormant, is_dormant_phase, dormant_in, becomes_ready, has_room, with_task, drop_wait, create, delete, take_bytes, make_ready, make_wait, make_dormant, release, recorded, suspend, resume, resumed, set_base, set_wakeups, set_flags}
use Rattle.kernel_model.specs.Tasks.Calls.{rebased}
use Rattle.kernel_model.specs.LawWords.Precedence.{KeepsPlace}
use Rattle.kernel_lemmas.proofs.Tables.{entry_cases}
use Rattle.kernel_lemmas.proofs.Places.{Keeps, keeps_order, keeps_back, passes_back, unready_back, unready_out}

-- ---- what a ready row isn't

ready_parts : (phase : Phase) (free : Bool) → (is_ready_phase phase && free) ≡ true → (phase ≡ Ready) × (free ≡ true)
ready_parts Ready free ready = (refl, ready)
ready_parts Dormant free ready = absurd (cc ready)
ready_parts (Waiting object) free ready = absurd (cc ready)

row_parts : (o : Option Task) (k : Task) → o ≡ Some k → may_run o ≡ true → (k.phase ≡ Ready) × ((k.suspensions == 0) ≡ true)
row_parts o k at ready = ready_parts k.phase (k.suspensions == 0) (ap may_run (sym at) ∙ ready)

-- where a row says something that a ready row doesn't, it is that of another task
apart_from : (b : Base) (t v : ℕ) (k : Task) → is_ready b t ≡ true → task_at b v ≡ Some k → ((k.phase ≡ Ready) × ((k.suspensions == 0) ≡ true) → ⊥) → v ≡ t → ⊥
apart_from b t v k ready at never same = never (row_parts (task_at b v) k at (ap (λ u. is_ready b u) same ∙ ready))

and_last : (a b : Bool) → b ≡ false → (a && b) ≡ true → ⊥
and_last true b is both = cc (is, both)
and_last false b is both = absurd (cc both)

-- ---- the moves

pub flags_keep : (b c : Base) (t : ℕ) (flags : Flags) → Keeps b t c → Keeps b t (set_flags c flags)
flags_keep b c t flags keeps ready priority = let is = keeps ready priority in record { before = is.before; behind = is.behind; stands = is.stands; ahead = is.ahead }

pub wakeups_keep : (b : Base) (t v n : ℕ) → KeepsPlace b t → Keeps b t (set_wakeups b v n)
wakeups_keep b t v n is = entry_cases (Keeps b t) (task_at b v) b (λ k. with_task b v (record k { wakeups = n })) (λ ready priority. is)
    (λ k at. keeps_order b (with_task b v (record k { wakeups = n })) t v (Some (record k { wakeups = n })) is (λ now. (ap may_run at ∙ now, ap current_in (sym at))) refl refl)

based_keep : (b : Base) (t v n : ℕ) → KeepsPlace b t → Keeps b t (set_base b v n)
based_keep b t v n is = entry_cases (Keeps b t) (task_at b v) b (λ k. with_task b v (record k { base = n })) (λ ready priority. is)
    (λ k at. keeps_order b (with_task b v (record k { base = n })) t v (Some (record k { base = n })) is (λ now. (ap may_run at ∙ now, ap current_in (sym at))) refl refl)

rebased_if : (b : Base) (t v n : ℕ) (test : Bool) → KeepsPlace b t → (v ≡ t → ⊥) → Keeps b t (cond test (record (set_base b v n) { order = to_back v b.order }) (set_base b v n))
rebased_if b t v n false is apart = based_keep b t v n is
rebased_if b t v n true is apart = entry_cases (λ c. Keeps b t (record c { order = to_back v b.order })) (task_at b v) b (λ k. with_task b v (record k { base = n }))
    (λ ready priority. passes_back b (record b { order = to_back v b.order }) t v is apart refl (λ u other. refl))
    (λ k at. keeps_back b (record (with_task b v (record k { base = n })) { order = to_back v b.order }) t v (Some (record k { base = n })) is (λ same ready. apart same) refl refl)

pub rebased_keep : (b : Base) (t v n : ℕ) → KeepsPlace b t → (v ≡ t → ⊥) → Keeps b t (rebased b v n)
rebased_keep b t v n is apart = rebased_if b t v n _ is apart

-- a task's wait ends
released_if : (b : Base) (t v : ℕ) (result : Answer) (k : Task) (free : Bool) → (k.suspensions == 0) ≡ free → KeepsPlace b t → (v ≡ t → ⊥) →
    Keeps b t (record (with_task (drop_wait b v) v (record k { phase = Ready })) { order = cond free (to_back v b.order) b.order; released = recorded v result b.released })
released_if b t v result k true free is apart = keeps_back b (record (with_task (drop_wait b v) v (record k { phase = Ready })) { order = to_back v b.order; released = recorded v result b.released }) t v (Some (record k { phase = Ready })) is (λ same ready. apart same) refl refl
released_if b t v result k false free is apart = keeps_order b (record (with_task (drop_wait b v) v (record k { phase = Ready })) { released = recorded v result b.released }) t v (Some (record k { phase = Ready })) is (λ now. absurd (cc (free, now))) refl refl

waits_apart : (phase : Phase) → is_waiting_phase phase ≡ true → phase ≡ Ready → ⊥
waits_apart Ready waits same = absurd (cc waits)
waits_apart Dormant waits same = absurd (cc same)
waits_apart (Waiting object) waits same = absurd (cc same)

release_if : (b : Base) (t v : ℕ) (result : Answer) (k : Task) (waits : Bool) → is_waiting_phase k.phase ≡ waits → KeepsPlace b t → is_ready b t ≡ true → task_at b v ≡ Some k →
    Keeps b t (cond waits (record (with_task (drop_wait b v) v (record k { phase = Ready })) { order = cond (k.suspensions == 0) (to_back v b.order) b.order; released = recorded v result b.released }) b)
release_if b t v result k false waits is ready at = λ now priority. is
release_if b t v result k true waits is ready at = released_if b t v result k (k.suspensions == 0) refl is (apart_from b t v k ready at (λ parts. waits_apart k.phase waits parts.0))

pub release_keeps : (b : Base) (t v : ℕ) (result : Answer) → KeepsPlace b t → is_ready b t ≡ true → Keeps b t (release b v result)
release_keeps b t v result is ready = entry_cases (Keeps b t) (task_at b v) b _ (λ now priority. is) (λ k at. release_if b t v result k (is_waiting_phase k.phase) refl is ready at)

-- a suspension more, and one less
more_than_none : (n : ℕ) → (n + 1 == 0) ≡ false
more_than_none n = grind (arith, nat_tests)

pub suspend_keeps : (b : Base) (t v : ℕ) → KeepsPlace b t → Keeps b t (suspend b v)
suspend_keeps b t v is = entry_cases (Keeps b t) (task_at b v) b _ (λ ready priority. is)
    (λ k at. keeps_order b _ t v (Some (record k { suspensions = k.suspensions + 1 })) is (λ now. absurd (and_last (is_ready_phase k.phase) (k.suspensions + 1 == 0) (more_than_none k.suspensions) now)) refl refl)

resumed_if : (b : Base) (t v left : ℕ) (k : Task) (free : Bool) → becomes_ready k.phase left ≡ free → KeepsPlace b t → (v ≡ t → ⊥) →
    Keeps b t (record (with_task b v (record k { suspensions = left })) { order = cond free (to_back v b.order) b.order })
resumed_if b t v left k true free is apart = keeps_back b (record (with_task b v (record k { suspensions = left })) { order = to_back v b.order }) t v (Some (record k { suspensions = left })) is (λ same ready. apart same) refl refl
resumed_if b t v left k false free is apart = keeps_order b (with_task b v (record k { suspensions = left })) t v (Some (record k { suspensions = left })) is (λ now. absurd (cc (free, now))) refl refl

resume_if : (b : Base) (t v left : ℕ) (k : Task) (free : Bool) → (k.suspensions == 0) ≡ free → KeepsPlace b t → is_ready b t ≡ true → task_at b v ≡ Some k → Keeps b t (cond free b (resumed b v left k))
resume_if b t v left k true free is ready at = λ now priority. is
resume_if b t v left k false free is ready at = resumed_if b t v left k (becomes_ready k.phase left) refl is (apart_from b t v k ready at (λ parts. cc (free, parts.1)))

pub resume_keeps : (b : Base) (t v : ℕ) (all : Bool) → KeepsPlace b t → is_ready b t ≡ true → Keeps b t (resume b v all)
resume_keeps b t v all is ready = entry_cases (Keeps b t) (task_at b v) b _ (λ now priority. is) (λ k at. resume_if b t v _ k (k.suspensions == 0) refl is ready at)

-- a task ends, waits, is made, is gone, begins
pub dormant_keeps : (b : Base) (t v : ℕ) → KeepsPlace b t → Keeps b t (make_dormant b v)
dormant_keeps b t v is = entry_cases (Keeps b t) (task_at b v) b _ (λ ready priority. is)
    (λ k at. keeps_order b _ t v (Some (record k { phase = Dormant; base = k.initial; current = k.initial; wakeups = 0; suspensions = 0 })) is (λ now. absurd (cc now)) refl refl)

pub wait_keeps : (b : Base) (t v object : ℕ) (order : Order) (timeout : ℤ) → KeepsPlace b t → Keeps b t (make_wait b v object order timeout)
wait_keeps b t v object order (pos n) is = entry_cases (Keeps b t) (task_at b v) b _ (λ ready priority. is)
    (λ k at. unready_back b _ t v (Some (record k { phase = Waiting object; queue = order })) is (λ now. cc now) refl refl)
wait_keeps b t v object order (negsuc n) is = entry_cases (Keeps b t) (task_at b v) b _ (λ ready priority. is)
    (λ k at. unready_back b _ t v (Some (record k { phase = Waiting object; queue = order })) is (λ now. cc now) refl refl)

created_if : (b : Base) (t v priority stack bytes : ℕ) (room : Bool) → KeepsPlace b t → Keeps b t (create (cond room (record b { bytes = bytes }) b) v priority stack)
created_if b t v priority stack bytes true is = unready_back b _ t v (Some (record { phase = Dormant; queue = Fifo; base = priority; initial = priority; current = priority; wakeups = 0; suspensions = 0; stack = stack })) is (λ now. cc now) refl refl
created_if b t v priority stack bytes false is = unready_back b _ t v (Some (record { phase = Dormant; queue = Fifo; base = priority; initial = priority; current = priority; wakeups = 0; suspensions = 0; stack = stack })) is (λ now. cc now) refl refl

pub create_keeps : (b : Base) (t v priority stack n : ℕ) → KeepsPlace b t → Keeps b t (create (take_bytes b n) v priority stack)
create_keeps b t v priority stack n is = created_if b t v priority stack (b.bytes + n) (has_room b n) is

pub delete_keeps : (b : Base) (t v : ℕ) → KeepsPlace b t → Keeps b t (delete b v)
delete_keeps b t v is = entry_cases (Keeps b t) (task_at b v) b _ (λ ready priority. is)
    (λ k at. unready_out b _ t v None is (λ now. cc now) refl refl)

dormant_apart : (phase : Phase) → is_dormant_phase phase ≡ true → phase ≡ Ready → ⊥
dormant_apart Ready dormant same = absurd (cc dormant)
dormant_apart Dormant dormant same = absurd (cc same)
dormant_apart (Waiting object) dormant same = absurd (cc same)

pub ready_keeps : (b : Base) (t v : ℕ) → KeepsPlace b t → is_ready b t ≡ true → is_dormant b v ≡ true → Keeps b t (make_ready b v)
ready_keeps b t v is ready dormant = entry_cases (Keeps b t) (task_at b v) b _ (λ now priority. is)
    (λ k at. keeps_back b _ t v (Some (record k { phase = Ready })) is (λ same now. apart_from b t v k ready at (λ parts. dormant_apart k.phase (ap dormant_in (sym at) ∙ dormant) parts.0) same) refl refl)
