-- Every move leaves each task at most once in the lists of the base, so that their room suffices.
use Rattle.std.proofs.Common.{◌≡◌, ℕ, suc, ◌+◌, ◌≤◌, ◌<◌, Bool, true, false, not, cond, List, [], ◌∷◌, ◌++◌, length, refl, arith, ap, sym, subst, ◌∙◌, map, drop}
use Rattle.std.specs.Bool.{◌==◌}
use Rattle.std.specs.Prelude.{filter, nat_lt, slice_set}
use Rattle.std.proofs.lemmas.Bool.Decides.{nat_tests}
use Rattle.tk_types.specs.declared.task.Task.{Task}
use Rattle.tk_types.specs.declared.task.Event.{Event}
use Rattle.tk_types.specs.declared.task.Event.TheVariants.{Wait, Cyclic, Alarm}
use Rattle.tk_types.specs.declared.task.DueEvent.{DueEvent}
use Rattle.tk_types.specs.declared.task.Release.{Release}
use Rattle.tk_types.specs.declared.answer.Answer.{Answer}
use Rattle.kernel_model.specs.LawWords.Once.{times, IsOnce, AreBelow}
use Rattle.kernel_model.specs.Words.Orders.{without}
use Rattle.kernel_model.specs.Words.Events.{insert_event, without_wait, without_key, is_wait_of, ends_wait_of, left_after, is_due}
use Rattle.kernel_lemmas.proofs.Once.{times_without, once_filter, once_drop, once_behind, room_below, below_filter}
use Rattle.std.specs.Prelude.{Option, ◌||◌, ◌&&◌, nat_le}
use Rattle.std.proofs.Math.ListN.{length-set}
use Rattle.time_queue.specs.Queue.{Queue}
use Rattle.kernel_base.specs.Handlers.{has_event, is_handler}
use Rattle.kernel_base.specs.Room.{IsOrder, AreReleases, HasRoom, tasks_of, numbers_of, number_of, most_events}

-- ---- orders of task IDs

pub order_without : (id : ℕ) (xs ys : List ℕ) (room left : ℕ) → IsOrder xs room → ys ≡ without id xs → left ≡ room → IsOrder ys left
order_without id xs ys room left is at same = record {
  once = subst IsOnce (sym at) (once_filter _ xs is.once);
  below = subst (AreBelow 256) (sym at) (below_filter 256 _ xs is.below);
  room = let had = is.room in omega arith;
}

pub order_room : (id : ℕ) (xs ys : List ℕ) (room left len : ℕ) → id < 256 → IsOrder xs room → ys ≡ without id xs → left ≡ room → len ≡ length ys → len < left
order_room id xs ys room left len low is at same long =
    let kept = order_without id xs ys room left is at same in
    let short : length ys < 256 = room_below 256 id ys low kept.below kept.once (ap (times id) at ∙ times_without id xs) in
    let had = kept.room in
    omega arith

below_append : (limit : ℕ) (xs ys : List ℕ) → AreBelow limit xs → AreBelow limit ys → AreBelow limit (xs ++ ys)
below_append limit [] ys before behind = behind
below_append limit (x ∷ xs) ys before behind = (before.0, below_append limit xs ys before.1 behind)

pub order_back : (id : ℕ) (xs ys zs : List ℕ) (room left now : ℕ) → id < 256 → IsOrder xs room → ys ≡ without id xs → left ≡ room → zs ≡ ys ++ id ∷ [] → now ≡ left → IsOrder zs now
order_back id xs ys zs room left now low is at same put still =
    let kept = order_without id xs ys room left is at same in
    record {
      once = subst IsOnce (sym put) (once_behind id ys (ap (times id) at ∙ times_without id xs) kept.once);
      below = subst (AreBelow 256) (sym put) (below_append 256 ys (id ∷ []) kept.below (low, tt));
      room = let had = kept.room in omega arith;
    }

-- ---- lists of which a number is read

map_filter_if : {A : Type 0} (f : A → ℕ) (p : A → Bool) (n : ℕ) (x : A) (b : Bool) (kept xs : List A) → times n (map f kept) ≤ times n (map f xs) → times n (map f (cond b (x ∷ kept) kept)) ≤ cond (f x == n) 1 0 + times n (map f xs)
map_filter_if f p n x true kept xs below = omega arith
map_filter_if f p n x false kept xs below = omega arith

times_map_filter : {A : Type 0} (f : A → ℕ) (p : A → Bool) (n : ℕ) (xs : List A) → times n (map f (filter p xs)) ≤ times n (map f xs)
times_map_filter f p n [] = omega arith
times_map_filter f p n (x ∷ xs) = map_filter_if f p n x (p x) (filter p xs) xs (times_map_filter f p n xs)

once_map_filter : {A : Type 0} (f : A → ℕ) (p : A → Bool) (xs : List A) → IsOnce (map f xs) → IsOnce (map f (filter p xs))
once_map_filter f p xs once = λ n. let fewer = times_map_filter f p n xs in let one = once n in omega arith

below_map_if : {A : Type 0} (f : A → ℕ) (limit : ℕ) (x : A) (b : Bool) (kept : List A) → f x < limit → AreBelow limit (map f kept) → AreBelow limit (map f (cond b (x ∷ kept) kept))
below_map_if f limit x true kept low rest = (low, rest)
below_map_if f limit x false kept low rest = rest

below_map_filter : {A : Type 0} (f : A → ℕ) (p : A → Bool) (limit : ℕ) (xs : List A) → AreBelow limit (map f xs) → AreBelow limit (map f (filter p xs))
below_map_filter f p limit [] below = tt
below_map_filter f p limit (x ∷ xs) below = below_map_if f limit x (p x) (filter p xs) below.0 (below_map_filter f p limit xs below.1)

none_at : {A : Type 0} (f : A → ℕ) (n : ℕ) (x : A) (b : Bool) (kept : List A) → (f x == n) ≡ b → (f x ≡ n → ⊥) → times n (map f kept) ≡ 0 → cond b 1 0 + times n (map f kept) ≡ 0
none_at f n x true kept is differs none = absurd (differs (grind (arith, nat_tests, is)))
none_at f n x false kept is differs none = omega arith

none_if : {A : Type 0} (f : A → ℕ) (p : A → Bool) (n : ℕ) (x : A) (b : Bool) (kept : List A) → p x ≡ b → (f x ≡ n → p x ≡ false) → times n (map f kept) ≡ 0 → times n (map f (cond b (x ∷ kept) kept)) ≡ 0
none_if f p n x true kept is leaves none = none_at f n x (f x == n) kept refl (λ same. cc (leaves same, is)) none
none_if f p n x false kept is leaves none = none

-- a number whose bearers all fail a test stands nowhere in what passes it
none_left : {A : Type 0} (f : A → ℕ) (p : A → Bool) (n : ℕ) (xs : List A) → ((x : A) → f x ≡ n → p x ≡ false) → times n (map f (filter p xs)) ≡ 0
none_left f p n [] leaves = refl
none_left f p n (x ∷ xs) leaves = none_if f p n x (p x) (filter p xs) refl (leaves x) (none_left f p n xs leaves)

length_map : {A : Type 0} (f : A → ℕ) (xs : List A) → length (map f xs) ≡ length xs
length_map f [] = refl
length_map f (x ∷ xs) = ap suc (length_map f xs)

map_append : {A : Type 0} (f : A → ℕ) (xs ys : List A) → map f (xs ++ ys) ≡ map f xs ++ map f ys
map_append f [] ys = refl
map_append f (x ∷ xs) ys = ap (λ rest. f x ∷ rest) (map_append f xs ys)

-- ---- the ends of waits

abbrev pub is_of_other : ℕ → Release → Bool
is_of_other task release = not (release.task == task)

other_fails : (task : ℕ) (release : Release) → release.task ≡ task → is_of_other task release ≡ false
other_fails task release same = grind (arith, nat_tests, same)

pub releases_without : (task : ℕ) (xs ys : List Release) (room left : ℕ) → AreReleases xs room → ys ≡ filter (is_of_other task) xs → left ≡ room → AreReleases ys left
releases_without task xs ys room left is at same = record {
  once = subst (λ (zs : List Release). IsOnce (tasks_of zs)) (sym at) (once_map_filter _ (is_of_other task) xs is.once);
  below = subst (λ (zs : List Release). AreBelow 256 (tasks_of zs)) (sym at) (below_map_filter _ (is_of_other task) 256 xs is.below);
  room = let had = is.room in omega arith;
}

none_of : (task : ℕ) (xs ys : List Release) → ys ≡ filter (is_of_other task) xs → times task (tasks_of ys) ≡ 0
none_of task xs ys at = ap (λ zs. times task (tasks_of zs)) at ∙ none_left (λ release. release.task) (is_of_other task) task xs (other_fails task)

pub releases_room : (task : ℕ) (xs ys : List Release) (room left len : ℕ) → task < 256 → AreReleases xs room → ys ≡ filter (is_of_other task) xs → left ≡ room → len ≡ length ys → len < left
releases_room task xs ys room left len low is at same counted =
    let kept = releases_without task xs ys room left is at same in
    let short : length (tasks_of ys) < 256 = room_below 256 task (tasks_of ys) low kept.below kept.once (none_of task xs ys at) in
    let had = kept.room in
    let long = length_map {A = Release} (λ release. release.task) ys in
    omega arith

pub releases_more : (task : ℕ) (answer : Answer) (xs ys zs : List Release) (room left now : ℕ) → task < 256 → AreReleases xs room → ys ≡ filter (is_of_other task) xs → left ≡ room → zs ≡ ys ++ record { task = task; answer = answer } ∷ [] → now ≡ left → AreReleases zs now
releases_more task answer xs ys zs room left now low is at same put still =
    let kept = releases_without task xs ys room left is at same in
    let tasks : tasks_of zs ≡ tasks_of ys ++ task ∷ [] = ap tasks_of put ∙ map_append (λ release. release.task) ys _ in
    record {
      once = subst IsOnce (sym tasks) (once_behind task (tasks_of ys) (none_of task xs ys at) kept.once);
      below = subst (AreBelow 256) (sym tasks) (below_append 256 (tasks_of ys) (task ∷ []) kept.below (low, tt));
      room = let had = kept.room in omega arith;
    }

drop_once : (xs : List Release) → IsOnce (tasks_of xs) → IsOnce (tasks_of (drop 1 xs))
drop_once [] once = once
drop_once (x ∷ xs) once = once_drop x.task (tasks_of xs) once

drop_below : (xs : List Release) → AreBelow 256 (tasks_of xs) → AreBelow 256 (tasks_of (drop 1 xs))
drop_below [] below = below
drop_below (x ∷ xs) below = below.1

pub releases_drop : (xs ys : List Release) (room left : ℕ) → AreReleases xs room → ys ≡ drop 1 xs → left ≡ room → AreReleases ys left
releases_drop xs ys room left is at same = record {
  once = subst (λ (zs : List Release). IsOnce (tasks_of zs)) (sym at) (drop_once xs is.once);
  below = subst (λ (zs : List Release). AreBelow 256 (tasks_of zs)) (sym at) (drop_below xs is.below);
  room = let had = is.room in omega arith;
}

-- ---- events

-- what holds of the events of a base
abbrev pub AreEvents : List DueEvent → Type 0
AreEvents events = IsOnce (numbers_of events) × AreBelow most_events (numbers_of events)

pub events_filter : (p : DueEvent → Bool) (xs : List DueEvent) → AreEvents xs → AreEvents (filter p xs)
events_filter p xs is = (once_map_filter (λ event. number_of event.what) p xs is.0, below_map_filter (λ event. number_of event.what) p most_events xs is.1)

drop_events : (xs : List DueEvent) → AreEvents xs → AreEvents (drop 1 xs)
drop_events [] is = is
drop_events (x ∷ xs) is = (once_drop (number_of x.what) (numbers_of xs) is.0, is.1.1)

left_if : (xs : List DueEvent) (b : Bool) → AreEvents xs → AreEvents (cond b (drop 1 xs) xs)
left_if xs true is = drop_events xs is
left_if xs false is = is

pub events_left : (now : ℕ) (xs : List DueEvent) → AreEvents xs → AreEvents (left_after now xs)
events_left now xs is = left_if xs (is_due now xs) is

ends_if : (task : ℕ) (what : Event) → task < 256 → number_of what ≡ task → is_wait_of task what ≡ true
ends_if task (Wait other) low same = grind (arith, nat_tests, same)
ends_if task (Cyclic id) low same = absurd (omega (arith, same))
ends_if task (Alarm id) low same = absurd (omega (arith, same))

pub no_wait : (task : ℕ) (xs : List DueEvent) → task < 256 → times task (numbers_of (without_wait task xs)) ≡ 0
no_wait task xs low = none_left (λ event. number_of event.what) (λ event. not (ends_wait_of task event)) task xs (λ event same. ap not (ends_if task event.what low same))

times_insert_if : (n : ℕ) (event first : DueEvent) (b : Bool) (more rest : List DueEvent) → times n (numbers_of more) ≡ times n (numbers_of (event ∷ rest)) → times n (numbers_of (cond b (event ∷ first ∷ rest) (first ∷ more))) ≡ times n (numbers_of (event ∷ first ∷ rest))
times_insert_if n event first true more rest is = refl
times_insert_if n event first false more rest is = omega arith

times_insert : (n : ℕ) (event : DueEvent) (xs : List DueEvent) → times n (numbers_of (insert_event event xs)) ≡ times n (numbers_of (event ∷ xs))
times_insert n event [] = refl
times_insert n event (first ∷ rest) = times_insert_if n event first (nat_lt event.time first.time) (insert_event event rest) rest (times_insert n event rest)

below_insert_if : (event first : DueEvent) (b : Bool) (more rest : List DueEvent) → number_of event.what < most_events → AreBelow most_events (numbers_of (first ∷ rest)) → AreBelow most_events (numbers_of more) → AreBelow most_events (numbers_of (cond b (event ∷ first ∷ rest) (first ∷ more)))
below_insert_if event first true more rest low below is = (low, below)
below_insert_if event first false more rest low below is = (below.0, is)

below_insert : (event : DueEvent) (xs : List DueEvent) → number_of event.what < most_events → AreBelow most_events (numbers_of xs) → AreBelow most_events (numbers_of (insert_event event xs))
below_insert event [] low below = (low, tt)
below_insert event (first ∷ rest) low below = below_insert_if event first (nat_lt event.time first.time) (insert_event event rest) rest low below (below_insert event rest low below.1)

fresh_if : (n id : ℕ) (xs : List ℕ) (b : Bool) → (id == n) ≡ b → times id xs ≡ 0 → times n xs ≤ 1 → cond b 1 0 + times n xs ≤ 1
fresh_if n id xs true is none one = let same : id ≡ n = grind (arith, nat_tests, is) in let zero_there : times n xs ≡ 0 = subst (λ (m : ℕ). times m xs ≡ 0) same none in omega arith
fresh_if n id xs false is none one = omega arith

fresh : (n : ℕ) (event : DueEvent) (xs : List DueEvent) → times (number_of event.what) (numbers_of xs) ≡ 0 → IsOnce (numbers_of xs) → times n (numbers_of (event ∷ xs)) ≤ 1
fresh n event xs none once = fresh_if n (number_of event.what) (numbers_of xs) (number_of event.what == n) refl none (once n)

pub events_insert : (event : DueEvent) (xs : List DueEvent) → number_of event.what < most_events → times (number_of event.what) (numbers_of xs) ≡ 0 → AreEvents xs → AreEvents (insert_event event xs)
events_insert event xs low none is = ((λ n. rw (times_insert n event xs) (fresh n event xs none is.0)), below_insert event xs low is.1)

-- one event more has room
pub events_room : (n : ℕ) (xs : List DueEvent) → n < most_events → times n (numbers_of xs) ≡ 0 → AreEvents xs → length xs < most_events
events_room n xs low none is =
    let short : length (numbers_of xs) < most_events = room_below most_events n (numbers_of xs) low is.1 is.0 none in
    let long = length_map {A = DueEvent} (λ event. number_of event.what) xs in
    omega arith

-- ---- the base

base_kept : (tasks changed : List (Option Task)) (events left : List DueEvent) (most : ℕ) → HasRoom tasks events most → length changed ≡ length tasks → AreEvents left → HasRoom changed left most
base_kept tasks changed events left most is same kept = record { slots = same ∙ is.slots; once = kept.0; below = kept.1; room = is.room }

-- a slot is written
pub slot_written : (task : ℕ) (slot : Option Task) (tasks : List (Option Task)) (events : List DueEvent) (most : ℕ) → HasRoom tasks events most → HasRoom (slice_set tasks task slot) events most
slot_written task slot tasks events most is = base_kept tasks (slice_set tasks task slot) events events most is (length-set tasks task slot) (is.once, is.below)

-- the end of a task's wait is dropped
pub wait_dropped : (task : ℕ) (tasks : List (Option Task)) (old now : Queue) → HasRoom tasks old.events old.most → now ≡ record old { events = without_wait task old.events } → HasRoom tasks now.events now.most
wait_dropped task tasks old now is at =
    subst (λ (q : Queue). HasRoom tasks q.events q.most) (sym at)
    (base_kept tasks tasks old.events (without_wait task old.events) old.most is refl (events_filter (λ event. not (ends_wait_of task event)) old.events (is.once, is.below)))

pub key_dropped : (key : ℕ) (tasks : List (Option Task)) (old now : Queue) → HasRoom tasks old.events old.most → now ≡ record old { events = without_key key old.events } → HasRoom tasks now.events now.most
key_dropped key tasks old now is at =
    subst (λ (q : Queue). HasRoom tasks q.events q.most) (sym at)
    (base_kept tasks tasks old.events (without_key key old.events) old.most is refl (events_filter (λ event. not (event.key == key)) old.events (is.once, is.below)))

pub due_taken : (time : ℕ) (tasks : List (Option Task)) (old now : Queue) → HasRoom tasks old.events old.most → now ≡ record old { events = left_after time old.events } → HasRoom tasks now.events now.most
due_taken time tasks old now is at =
    subst (λ (q : Queue). HasRoom tasks q.events q.most) (sym at)
    (base_kept tasks tasks old.events (left_after time old.events) old.most is refl (events_left time old.events (is.once, is.below)))

-- an event that isn't set has room, and may be set
pub event_room : (what : Event) (tasks : List (Option Task)) (old : Queue) → number_of what < most_events → times (number_of what) (numbers_of old.events) ≡ 0 → HasRoom tasks old.events old.most → length old.events < old.most
event_room what tasks old low none is = subst (λ (most : ℕ). length old.events < most) (sym is.room) (events_room (number_of what) old.events low none (is.once, is.below))

pub event_added : (due : ℕ) (what : Event) (tasks : List (Option Task)) (old now : Queue) → number_of what < most_events → times (number_of what) (numbers_of old.events) ≡ 0 → HasRoom tasks old.events old.most → now ≡ record old { events = insert_event (record { time = due; key = old.made; what = what }) old.events; made = old.made + 1 } → HasRoom tasks now.events now.most
event_added due what tasks old now low none is at =
    subst (λ (q : Queue). HasRoom tasks q.events q.most) (sym at)
    (base_kept tasks tasks old.events (insert_event (record { time = due; key = old.made; what = what }) old.events) old.most is refl (events_insert (record { time = due; key = old.made; what = what }) old.events low none (is.once, is.below)))

pub none_after_drop : (task : ℕ) (old now : Queue) → task < 256 → now ≡ record old { events = without_wait task old.events } → times task (numbers_of now.events) ≡ 0
none_after_drop task old now low at = subst (λ (q : Queue). times task (numbers_of q.events) ≡ 0) (sym at) (no_wait task old.events low)

pub below_most : (task : ℕ) → task < 256 → task < most_events
below_most task low = omega arith

none_if_unset : (n : ℕ) (event : DueEvent) (b c : Bool) (rest : List DueEvent) → (number_of event.what == n) ≡ b → (b || c) ≡ false → (c ≡ false → times n (numbers_of rest) ≡ 0) → cond b 1 0 + times n (numbers_of rest) ≡ 0
none_if_unset n event true c rest is unset none = absurd (cc unset)
none_if_unset n event false c rest is unset none = let nowhere = none unset in omega arith

-- an event that isn't set stands nowhere
pub unset_nowhere : (what : Event) (events : List DueEvent) → has_event what events ≡ false → times (number_of what) (numbers_of events) ≡ 0
unset_nowhere what [] unset = refl
unset_nowhere what (event ∷ rest) unset = none_if_unset (number_of what) event (number_of event.what == number_of what) (has_event what rest) rest refl unset (unset_nowhere what rest)

cyclic_below : (id : ℕ) (low high : Bool) → nat_le id 64 ≡ high → (low && high) ≡ true → 256 + id < most_events
cyclic_below id true true is both = grind (arith, nat_tests, is)
cyclic_below id true false is both = absurd (cc both)
cyclic_below id false high is both = absurd (cc both)

alarm_below : (id : ℕ) (low high : Bool) → nat_le id 64 ≡ high → (low && high) ≡ true → 512 + id < most_events
alarm_below id true true is both = grind (arith, nat_tests, is)
alarm_below id true false is both = absurd (cc both)
alarm_below id false high is both = absurd (cc both)

pub handler_below : (what : Event) → is_handler what ≡ true → number_of what < most_events
handler_below (Wait task) is = absurd (cc is)
handler_below (Cyclic id) is = cyclic_below id (nat_le 1 id) (nat_le id 64) refl is
handler_below (Alarm id) is = alarm_below id (nat_le 1 id) (nat_le id 64) refl is
