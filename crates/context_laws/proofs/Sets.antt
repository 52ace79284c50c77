-- For what time a handler is set, after an event was set or taken back.
use Rattle.std.proofs.Common.{◌≡◌, ℕ, Bool, true, false, not, List, [], ◌∷◌, Option, Some, None, refl, cond, ◌∙◌, ap, sym, arith}
use Rattle.std.specs.Prelude.{nat_lt}
use Rattle.std.specs.List.{find, filter}
use Rattle.std.specs.Option.{option_map}
use Rattle.std.proofs.lemmas.Bool.Decides.{nat_tests}
use Rattle.tk_types.specs.declared.task.Event.{Event}
use Rattle.tk_types.specs.declared.task.Event.TheVariants.{Wait, Cyclic, Alarm}
use Rattle.tk_types.specs.declared.task.DueEvent.{DueEvent}
use Rattle.kernel_model.specs.Words.Events.{insert_event, is_wait_of, ends_wait_of}
use Rattle.kernel_model.specs.Tasks.Base.{Base, add_event, drop_wait}
use Rattle.kernel_lemmas.proofs.Tables.{itself}
use Rattle.context_model.specs.Clocks.Tables.{is_event, starts, due_time, without_event, unset, set_for}

-- ---- finding an event in a list

none_if : (event : DueEvent) (test : Bool) (found : Option DueEvent) → cond test (Some event) found ≡ None → (test ≡ false) × (found ≡ None)
none_if event true found none = absurd (cc none)
none_if event false found none = (refl, none)

found_at : (event : DueEvent) (rest : Option DueEvent) (test : Bool) → test ≡ true → cond test (Some event) rest ≡ Some event
found_at event rest true is = refl
found_at event rest false is = absurd (cc is)

passed_at : (event : DueEvent) (rest : Option DueEvent) (test : Bool) → test ≡ false → cond test (Some event) rest ≡ rest
passed_at event rest true is = absurd (cc is)
passed_at event rest false is = refl

found_if : (p : DueEvent → Bool) (event first : DueEvent) (rest : List DueEvent) (test : Bool) → p event ≡ true → p first ≡ false → find p (insert_event event rest) ≡ Some event → find p (cond test (event ∷ first ∷ rest) (first ∷ insert_event event rest)) ≡ Some event
found_if p event first rest true is other found = found_at event (find p (first ∷ rest)) (p event) is
found_if p event first rest false is other found = passed_at first (find p (insert_event event rest)) (p first) other ∙ found

-- an event that is set among none of its kind is found
found_set : (p : DueEvent → Bool) (event : DueEvent) (events : List DueEvent) → p event ≡ true → find p events ≡ None → find p (insert_event event events) ≡ Some event
found_set p event [] is none = found_at event None (p event) is
found_set p event (first ∷ rest) is none =
    let parts = none_if first (p first) (find p rest) none in
    found_if p event first rest (nat_lt event.time first.time) is parts.0 (found_set p event rest is parts.1)

kept_if : (p : DueEvent → Bool) (event first : DueEvent) (rest : List DueEvent) (test : Bool) → p event ≡ false → find p (insert_event event rest) ≡ find p rest → find p (cond test (event ∷ first ∷ rest) (first ∷ insert_event event rest)) ≡ find p (first ∷ rest)
kept_if p event first rest true other same = passed_at event (find p (first ∷ rest)) (p event) other
kept_if p event first rest false other same = ap (λ found. cond (p first) (Some first) found) same

-- an event that is set changes nothing for another one
other_set : (p : DueEvent → Bool) (event : DueEvent) (events : List DueEvent) → p event ≡ false → find p (insert_event event events) ≡ find p events
other_set p event [] other = passed_at event None (p event) other
other_set p event (first ∷ rest) other = kept_if p event first rest (nat_lt event.time first.time) other (other_set p event rest other)

gone_if : (p : DueEvent → Bool) (first : DueEvent) (kept : List DueEvent) (test : Bool) → p first ≡ test → find p kept ≡ None → find p (cond (not test) (first ∷ kept) kept) ≡ None
gone_if p first kept true is none = none
gone_if p first kept false is none = passed_at first (find p kept) (p first) is ∙ none

-- what is taken back isn't found
found_gone : (p : DueEvent → Bool) (events : List DueEvent) → find p (filter (λ event. not (p event)) events) ≡ None
found_gone p [] = refl
found_gone p (first ∷ rest) = gone_if p first (filter (λ event. not (p event)) rest) (p first) refl (found_gone p rest)

left_if : (p : DueEvent → Bool) (first : DueEvent) (kept rest : List DueEvent) (test : Bool) → (test ≡ true → p first ≡ false) → find p kept ≡ find p rest → find p (cond (not test) (first ∷ kept) kept) ≡ find p (first ∷ rest)
left_if p first kept rest true apart same = same ∙ sym (passed_at first (find p rest) (p first) (apart refl))
left_if p first kept rest false apart same = ap (λ found. cond (p first) (Some first) found) same

-- what is taken back of another kind changes nothing
other_gone : (p q : DueEvent → Bool) (events : List DueEvent) → ((event : DueEvent) → q event ≡ true → p event ≡ false) → find p (filter (λ event. not (q event)) events) ≡ find p events
other_gone p q [] apart = refl
other_gone p q (first ∷ rest) apart = left_if p first (filter (λ event. not (q event)) rest) rest (q first) (apart first) (other_gone p q rest apart)

-- ---- handlers

-- a handler is itself
pub event_itself : (what : Event) → is_event what what ≡ true
event_itself (Wait t) = itself t
event_itself (Cyclic id) = itself id
event_itself (Alarm id) = itself id

-- one event isn't two
pub event_apart : (what other event : Event) → is_event what other ≡ false → is_event other event ≡ true → is_event what event ≡ false
event_apart (Wait t) (Wait u) (Wait v) apart is = grind (arith, nat_tests, apart, is)
event_apart (Cyclic t) (Cyclic u) (Cyclic v) apart is = grind (arith, nat_tests, apart, is)
event_apart (Alarm t) (Alarm u) (Alarm v) apart is = grind (arith, nat_tests, apart, is)
event_apart (Wait t) (Wait u) (Cyclic v) apart is = absurd (cc is)
event_apart (Wait t) (Wait u) (Alarm v) apart is = absurd (cc is)
event_apart (Cyclic t) (Cyclic u) (Wait v) apart is = absurd (cc is)
event_apart (Cyclic t) (Cyclic u) (Alarm v) apart is = absurd (cc is)
event_apart (Alarm t) (Alarm u) (Wait v) apart is = absurd (cc is)
event_apart (Alarm t) (Alarm u) (Cyclic v) apart is = absurd (cc is)
event_apart (Wait t) (Cyclic u) (Wait v) apart is = absurd (cc is)
event_apart (Wait t) (Cyclic u) (Cyclic v) apart is = refl
event_apart (Wait t) (Cyclic u) (Alarm v) apart is = absurd (cc is)
event_apart (Wait t) (Alarm u) (Wait v) apart is = absurd (cc is)
event_apart (Wait t) (Alarm u) (Cyclic v) apart is = absurd (cc is)
event_apart (Wait t) (Alarm u) (Alarm v) apart is = refl
event_apart (Cyclic t) (Wait u) (Wait v) apart is = refl
event_apart (Cyclic t) (Wait u) (Cyclic v) apart is = absurd (cc is)
event_apart (Cyclic t) (Wait u) (Alarm v) apart is = absurd (cc is)
event_apart (Cyclic t) (Alarm u) (Wait v) apart is = absurd (cc is)
event_apart (Cyclic t) (Alarm u) (Cyclic v) apart is = absurd (cc is)
event_apart (Cyclic t) (Alarm u) (Alarm v) apart is = refl
event_apart (Alarm t) (Wait u) (Wait v) apart is = refl
event_apart (Alarm t) (Wait u) (Cyclic v) apart is = absurd (cc is)
event_apart (Alarm t) (Wait u) (Alarm v) apart is = absurd (cc is)
event_apart (Alarm t) (Cyclic u) (Wait v) apart is = absurd (cc is)
event_apart (Alarm t) (Cyclic u) (Cyclic v) apart is = refl
event_apart (Alarm t) (Cyclic u) (Alarm v) apart is = absurd (cc is)

abbrev time_found : Option DueEvent → Option ℕ
time_found found = option_map (λ (event : DueEvent). event.time) found

-- a handler that is set for a time is set for that
pub due_set : (b : Base) (time : ℕ) (what : Event) → due_time what (set_for b time what).events ≡ Some time
due_set b time what = ap time_found (found_set (starts what) (record { time = time; key = b.made; what = what }) (without_event what b.events) (event_itself what) (found_gone (starts what) b.events))

-- and every other one as it was
pub due_other : (b : Base) (time : ℕ) (what other : Event) → is_event other what ≡ false → due_time other (set_for b time what).events ≡ due_time other b.events
due_other b time what other apart =
    ap time_found (other_set (starts other) (record { time = time; key = b.made; what = what }) (without_event what b.events) apart
    ∙ other_gone (starts other) (starts what) b.events (λ event is. event_apart other what event.what apart is))

-- one that is taken back isn't set
pub due_gone : (b : Base) (what : Event) → due_time what (unset b what).events ≡ None
due_gone b what = ap time_found (found_gone (starts what) b.events)

pub due_left : (b : Base) (what other : Event) → is_event other what ≡ false → due_time other (unset b what).events ≡ due_time other b.events
due_left b what other apart = ap time_found (other_gone (starts other) (starts what) b.events (λ event is. event_apart other what event.what apart is))

-- an event of another kind is set, or the end of a wait is taken back
pub event_kept : (what : Event) (b : Base) (time : ℕ) (other : Event) → is_event what other ≡ false → due_time what (add_event b time other).events ≡ due_time what b.events
event_kept what b time other apart = ap time_found (other_set (starts what) (record { time = time; key = b.made; what = other }) b.events apart)

pub event_dropped : (what : Event) (b : Base) (t : ℕ) → ((other : Event) → is_wait_of t other ≡ true → is_event what other ≡ false) → due_time what (drop_wait b t).events ≡ due_time what b.events
event_dropped what b t apart = ap time_found (other_gone (starts what) (ends_wait_of t) b.events (λ event is. apart event.what is))
