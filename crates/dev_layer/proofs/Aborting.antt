-- Waits on a descriptor end one after another.
use Rattle.std.proofs.Common.{◌≡◌, ℕ, suc, ◌≤◌, ◌<◌, Bool, true, false, not, cond, List, [], ◌∷◌, Option, Some, None, refl, ap, sym, ◌∙◌, subst, arith, length}
use Rattle.std.specs.Bool.{◌==◌}
use Rattle.std.specs.List.{find, fold, position}
use Rattle.std.specs.Option.{option_map}
use Rattle.std.specs.Prelude.{drop, filter, if◌then◌else◌, nat_le, slice_get, unwrap_or, ◌||◌, ◌&&◌}
use Rattle.tk_types.specs.declared.task.Order.TheVariants.{Fifo}
use Rattle.kernel_base.specs.Views.{view_in}
use Rattle.mail_buffer.proofs.Ending.{release_alike}
use Rattle.std.proofs.lemmas.Bool.Decides.{nat_tests}
use Rattle.tk_types.specs.declared.answer.Answer.{Answer}
use Rattle.tk_types.specs.declared.task.Phase.{Phase}
use Rattle.tk_types.specs.declared.task.Phase.TheVariants.{Dormant, Ready, Waiting}
use Rattle.tk_types.specs.declared.task.Task.{Task}
use Rattle.kernel_model.specs.Words.Orders.{without}
use Rattle.kernel_model.specs.Tasks.Base.{Base, fifo_queue, is_waiting, is_waiting_phase, release, task_at, waiting_in, waits_for, waits_in, waits_somewhere}
use Rattle.kernel_lemmas.proofs.Filters.{filter_fails}
use Rattle.kernel_lemmas.proofs.Releases.{release_idle, release_others, release_over}
use Rattle.kernel_lemmas.proofs.Tables.{entry_cases}
use Rattle.device_model.specs.Devices.Calls.{aborted}
use Rattle.dev_layer.specs.Closing.{earlier, place_of, since_in, waits_at}
use Rattle.dev_layer.specs.Parts.{AreQueued}
use Rattle.dev_layer.proofs.Earlier.{earlier_in, first_of_either, found_passes, found_within, head_found}

since_if : (b : Base) (c : Base) (waiting : Bool) → c.since ≡ b.since → (cond waiting c b).since ≡ b.since
since_if b c true same = same
since_if b c false same = refl

-- the end of a wait leaves the order in which waits began
since_kept : (b : Base) (t : ℕ) (result : Answer) → (release b t result).since ≡ b.since
since_kept b t result = entry_cases (λ (c : Base). c.since ≡ b.since) (task_at b t) b _ refl (λ k there. since_if b _ (is_waiting_phase k.phase) refl)

idle_phase : (object : ℕ) (phase : Phase) → is_waiting_phase phase ≡ false → waits_in object phase ≡ false
idle_phase object Dormant idle = refl
idle_phase object Ready idle = refl
idle_phase object (Waiting other) idle = absurd (cc idle)

idle_slot : (object : ℕ) (slot : Option Task) → waits_somewhere slot ≡ false → waiting_in object slot ≡ false
idle_slot object None idle = refl
idle_slot object (Some k) idle = idle_phase object k.phase idle

pub idle_for : (b : Base) (object t : ℕ) → is_waiting b t ≡ false → waits_for b object t ≡ false
idle_for b object t idle = idle_slot object (task_at b t) idle

no_more : (ending acceptance : ℕ) (passes : ℕ → Bool) (b : Base) (t : ℕ) → is_waiting b t ≡ false → waits_at ending acceptance passes b t ≡ false
no_more ending acceptance passes b t idle = rw (idle_for b ending t idle, idle_for b acceptance t idle) refl

same_others : (ending acceptance : ℕ) (passes : ℕ → Bool) (b : Base) (t : ℕ) (result : Answer) (u : ℕ) → (u ≡ t → ⊥) → waits_at ending acceptance passes (release b t result) u ≡ waits_at ending acceptance passes b u
same_others ending acceptance passes b t result u apart =
    ap (λ (slot : Option Task). waiting_in ending slot || (waiting_in acceptance slot && passes u)) (release_others b t u result apart)

-- those that wait once one wait has ended
left_over : (ending acceptance : ℕ) (passes : ℕ → Bool) (b : Base) (t : ℕ) (result : Answer) →
    filter (waits_at ending acceptance passes (release b t result)) (release b t result).since ≡ without t (filter (waits_at ending acceptance passes b) b.since)
left_over ending acceptance passes b t result =
    ap (filter (waits_at ending acceptance passes (release b t result))) (since_kept b t result)
    ∙ filter_fails (waits_at ending acceptance passes b) (waits_at ending acceptance passes (release b t result)) t b.since (λ u apart. same_others ending acceptance passes b t result u apart)
    (no_more ending acceptance passes (release b t result) t (release_over b t result))

still_idle : (b : Base) (t x : ℕ) (result : Answer) (same : Bool) → (t == x) ≡ same → is_waiting b t ≡ false → is_waiting (release b x result) t ≡ false
still_idle b t x result true is idle = let itself : t ≡ x = grind (arith, nat_tests, is) in subst (λ (u : ℕ). is_waiting (release b x result) u ≡ false) (sym itself) (release_over b x result)
still_idle b t x result false is idle = ap waits_somewhere (release_others b x t result (λ same. grind (arith, nat_tests, is, same))) ∙ idle

skip_if : (t x : ℕ) (xs : List ℕ) (b : Base) (same : Bool) → (x == t) ≡ same → is_waiting b t ≡ false → fold aborted (aborted b x) (without t xs) ≡ fold aborted (aborted b x) xs →
    fold aborted b (cond (not same) (x ∷ without t xs) (without t xs)) ≡ fold aborted b (x ∷ xs)
skip_if t x xs b true is idle rest =
    let itself : x ≡ t = grind (arith, nat_tests, is) in
    let nothing : aborted b x ≡ b = release_idle b x _ (subst (λ (u : ℕ). is_waiting b u ≡ false) (sym itself) idle) in
    ap (λ (c : Base). fold aborted c (without t xs)) (sym nothing) ∙ rest
skip_if t x xs b false is idle rest = rest

-- a task that doesn't wait may be left out
skipped : (t : ℕ) (xs : List ℕ) (b : Base) → is_waiting b t ≡ false → fold aborted b (without t xs) ≡ fold aborted b xs
skipped t [] b idle = refl
skipped t (x ∷ xs) b idle = skip_if t x xs b (x == t) refl idle (skipped t xs (aborted b x) (still_idle b t x _ (t == x) refl idle))

head_if : (p : ℕ → Bool) (x t : ℕ) (xs : List ℕ) (b : Bool) → p x ≡ b → (find p xs ≡ Some t → filter p xs ≡ t ∷ drop 1 (filter p xs)) → cond b (Some x) (find p xs) ≡ Some t → filter p (x ∷ xs) ≡ t ∷ drop 1 (filter p (x ∷ xs))
head_if p x t xs true is rest found = let same : x ≡ t = cc found in rw is (ap (λ u. u ∷ filter p xs) same)
head_if p x t xs false is rest found = rw is (rest found)

head_of : (p : ℕ → Bool) (xs : List ℕ) (t : ℕ) → find p xs ≡ Some t → filter p xs ≡ t ∷ drop 1 (filter p xs)
head_of p [] t found = absurd (cc found)
head_of p (x ∷ xs) t found = head_if p x t xs (p x) refl (head_of p xs t) found

none_if : (p : ℕ → Bool) (x : ℕ) (xs : List ℕ) (b : Bool) → p x ≡ b → (find p xs ≡ None → filter p xs ≡ []) → cond b (Some x) (find p xs) ≡ None → filter p (x ∷ xs) ≡ []
none_if p x xs true is rest found = absurd (cc found)
none_if p x xs false is rest found = rw is (rest found)

none_of : (p : ℕ → Bool) (xs : List ℕ) → find p xs ≡ None → filter p xs ≡ []
none_of p [] found = refl
none_of p (x ∷ xs) found = none_if p x xs (p x) refl (none_of p xs) found

first_gone : (t : ℕ) (xs : List ℕ) → without t (t ∷ xs) ≡ without t xs
first_gone t xs = let itself : (t == t) ≡ true = grind (arith, nat_tests) in rw itself refl

-- one wait more ends
pub one_aborted : (ending acceptance : ℕ) (passes : ℕ → Bool) (now next all : Base) (t : ℕ) → find (waits_at ending acceptance passes now) now.since ≡ Some t → next ≡ aborted now t →
    fold aborted now (filter (waits_at ending acceptance passes now) now.since) ≡ all → fold aborted next (filter (waits_at ending acceptance passes next) next.since) ≡ all
one_aborted ending acceptance passes now next all t found is left =
    let rest : List ℕ = drop 1 (filter (waits_at ending acceptance passes now) now.since) in
    let first : filter (waits_at ending acceptance passes now) now.since ≡ t ∷ rest = head_of (waits_at ending acceptance passes now) now.since t found in
    ap (λ (b : Base). fold aborted b (filter (waits_at ending acceptance passes b) b.since)) is
    ∙ ap (fold aborted (aborted now t)) (left_over ending acceptance passes now t _ ∙ ap (without t) first ∙ first_gone t rest)
    ∙ skipped t rest (aborted now t) (release_over now t _)
    ∙ ap (fold aborted now) (sym first)
    ∙ left

-- where none waits, all have ended
pub all_aborted : (ending acceptance : ℕ) (passes : ℕ → Bool) (now all : Base) → find (waits_at ending acceptance passes now) now.since ≡ None → fold aborted now (filter (waits_at ending acceptance passes now) now.since) ≡ all → now ≡ all
all_aborted ending acceptance passes now all none left = ap (fold aborted now) (sym (none_of (waits_at ending acceptance passes now) now.since none)) ∙ left

fewer_if : (t x : ℕ) (xs : List ℕ) (same : Bool) → length (without t xs) ≤ length xs → length (cond (not same) (x ∷ without t xs) (without t xs)) ≤ length (x ∷ xs)
fewer_if t x xs true fewer = omega (arith, fewer)
fewer_if t x xs false fewer = omega (arith, fewer)

no_longer : (t : ℕ) (xs : List ℕ) → length (without t xs) ≤ length xs
no_longer t [] = omega arith
no_longer t (x ∷ xs) = fewer_if t x xs (x == t) (no_longer t xs)

-- and fewer wait
pub fewer_wait : (ending acceptance : ℕ) (passes : ℕ → Bool) (now next : Base) (t : ℕ) → find (waits_at ending acceptance passes now) now.since ≡ Some t → next ≡ aborted now t →
    length (filter (waits_at ending acceptance passes next) next.since) < length (filter (waits_at ending acceptance passes now) now.since)
fewer_wait ending acceptance passes now next t found is =
    let rest : List ℕ = drop 1 (filter (waits_at ending acceptance passes now) now.since) in
    let first : length (filter (waits_at ending acceptance passes now) now.since) ≡ suc (length rest) = ap length (head_of (waits_at ending acceptance passes now) now.since t found) in
    let after : length (filter (waits_at ending acceptance passes next) next.since) ≡ length (without t rest) =
    ap (λ (b : Base). length (filter (waits_at ending acceptance passes b) b.since)) is
    ∙ ap length (left_over ending acceptance passes now t _ ∙ ap (without t) (head_of (waits_at ending acceptance passes now) now.since t found) ∙ first_gone t rest) in
    let most : length (without t rest) ≤ length rest = no_longer t rest in
    omega (arith, first, after, most)

-- ---- what the end of a wait keeps

abbrev SameClock : Base → Base → Type 0
SameClock b c = (c.made ≡ b.made) × (c.time ≡ b.time)

clock_if : (b c : Base) (waiting : Bool) → SameClock b c → SameClock b (cond waiting c b)
clock_if b c true same = same
clock_if b c false same = (refl, refl)

clock_kept : (b : Base) (t : ℕ) (result : Answer) → SameClock b (release b t result)
clock_kept b t result = entry_cases (SameClock b) (task_at b t) b _ (refl, refl) (λ k there. clock_if b _ (is_waiting_phase k.phase) (refl, refl))

pub made_kept : (b : Base) (t : ℕ) (result : Answer) → (release b t result).made ≡ b.made
made_kept b t result = (clock_kept b t result).0

pub time_kept : (b : Base) (t : ℕ) (result : Answer) → (release b t result).time ≡ b.time
time_kept b t result = (clock_kept b t result).1

-- those that are left still queue in their order
pub still_queued : (b : Base) (t : ℕ) (result : Answer) → AreQueued b → AreQueued (release b t result)
still_queued b t result all = record { waiters = λ object low high. release_alike Fifo b t object result (all.waiters object low high) }

-- ---- who is the first

place_there : (b : Base) (object t : ℕ) (slot : Option Task) → task_at b t ≡ slot → waiting_in object slot ≡ true → place_of b t ≡ unwrap_or (position (λ other. other == t) b.since) 0
place_there b object t None there waits = absurd (cc waits)
place_there b object t (Some k) there waits = ap (λ (o : Option Task). since_in (option_map (view_in b t) o)) there

earlier_by : (b : Base) (ending acceptance : ℕ) (passes : ℕ → Bool) (one other : Option ℕ) → find (waits_for b ending) b.since ≡ one → find (λ t. waits_for b acceptance t && passes t) b.since ≡ other →
    earlier b one other ≡ earlier_in b.since one other
earlier_by b ending acceptance passes None other found found_too = refl
earlier_by b ending acceptance passes (Some one) None found found_too = refl
earlier_by b ending acceptance passes (Some one) (Some other) found found_too =
    let first : waits_for b ending one ≡ true = found_passes (waits_for b ending) b.since one found in
    let both : (waits_for b acceptance other && passes other) ≡ true = found_passes (λ t. waits_for b acceptance t && passes t) b.since other found_too in
    let second : waits_for b acceptance other ≡ true = first_of (waits_for b acceptance other) (passes other) both in
    ap (λ (n : ℕ). if nat_le n (place_of b other) then Some one else Some other) (place_there b ending one (task_at b one) refl first)
    ∙ ap (λ (n : ℕ). if nat_le (unwrap_or (position (λ u. u == one) b.since) 0) n then Some one else Some other) (place_there b acceptance other (task_at b other) refl second)
  where
    first_of : (x y : Bool) → (x && y) ≡ true → x ≡ true
    first_of true y is = refl
    first_of false y is = absurd (cc is)

-- the earlier of the first of both queues is the first of all
pub first_of_all : (b : Base) (ending acceptance : ℕ) (passes : ℕ → Bool) (one other : Option ℕ) → one ≡ slice_get (fifo_queue b ending) 0 → other ≡ find passes (fifo_queue b acceptance) →
    earlier b one other ≡ find (waits_at ending acceptance passes b) b.since
first_of_all b ending acceptance passes one other is is_too =
    let first : find (waits_for b ending) b.since ≡ one = sym (head_found (waits_for b ending) b.since) ∙ sym is in
    let second : find (λ t. waits_for b acceptance t && passes t) b.since ≡ other = sym (found_within (waits_for b acceptance) passes b.since) ∙ sym is_too in
    earlier_by b ending acceptance passes one other first second
    ∙ ap (λ o. earlier_in b.since o other) (sym first)
    ∙ ap (λ o. earlier_in b.since (find (waits_for b ending) b.since) o) (sym second)
    ∙ sym (first_of_either (waits_for b ending) (λ t. waits_for b acceptance t && passes t) b.since)
