-- A wait's time-out is set for one millisecond more than its limit, and falls due then.
use Rattle.std.proofs.Common.{◌≡◌, ℕ, suc, zero, ◌+◌, ◌<◌, ◌≤◌, Bool, true, false, not, List, [], ◌∷◌, ◌++◌, Option, Some, None, refl, cond, ◌∙◌, ap, sym, subst, pos, arith}
use Rattle.std.specs.Prelude.{nat_lt, nat_le}
use Rattle.std.specs.List.{find, filter}
use Rattle.std.specs.Option.{option_map}
use Rattle.std.proofs.lemmas.Bool.Decides.{nat_tests}
use Rattle.std.proofs.lemmas.List.Elements.{All-head, All-tail, All-filter}
use Rattle.tk_types.specs.declared.task.Task.{Task}
use Rattle.tk_types.specs.declared.task.Order.{Order}
use Rattle.tk_types.specs.declared.task.Event.{Event}
use Rattle.tk_types.specs.declared.task.Event.TheVariants.{Wait}
use Rattle.tk_types.specs.declared.task.DueEvent.{DueEvent}
use Rattle.kernel_model.specs.Words.Events.{insert_event, without_wait, is_wait_of, ends_wait_of, limit_of, due_event}
use Rattle.kernel_model.specs.Tasks.Base.{Base, task_at, make_wait}
use Rattle.kernel_model.specs.LawWords.TimeOrder.{AreLater, AreDueBy, ComesAfter, after_time}
use Rattle.kernel_lemmas.proofs.Tables.{itself, entry_at}

-- ---- the limit of a wait

none_if : (event : DueEvent) (test : Bool) (found : Option DueEvent) → cond test (Some event) found ≡ None → (test ≡ false) × (found ≡ None)
none_if event true found none = absurd (cc none)
none_if event false found none = (refl, none)

found_at : (p : DueEvent → Bool) (event : DueEvent) (rest : Option DueEvent) (test : Bool) → test ≡ true → cond test (Some event) rest ≡ Some event
found_at p event rest true is = refl
found_at p event rest false is = absurd (cc is)

found_if : (p : DueEvent → Bool) (event first : DueEvent) (rest : List DueEvent) (test : Bool) → p event ≡ true → p first ≡ false → find p (insert_event event rest) ≡ Some event → find p (cond test (event ∷ first ∷ rest) (first ∷ insert_event event rest)) ≡ Some event
found_if p event first rest true is other found = found_at p event (find p (first ∷ rest)) (p event) is
found_if p event first rest false is other found = ap (λ test. cond test (Some first) (find p (insert_event event rest))) other ∙ found

-- an event that is set among none of its kind is found
found_set : (p : DueEvent → Bool) (event : DueEvent) (events : List DueEvent) → p event ≡ true → find p events ≡ None → find p (insert_event event events) ≡ Some event
found_set p event [] is none = found_at p event None (p event) is
found_set p event (first ∷ rest) is none =
    let parts = none_if first (p first) (find p rest) none in
    found_if p event first rest (nat_lt event.time first.time) is parts.0 (found_set p event rest is parts.1)

found_without_if : (p : DueEvent → Bool) (first : DueEvent) (kept : List DueEvent) (test : Bool) → p first ≡ test → find p kept ≡ None → find p (cond (not test) (first ∷ kept) kept) ≡ None
found_without_if p first kept true is none = none
found_without_if p first kept false is none = ap (λ test. cond test (Some first) (find p kept)) is ∙ none

found_without : (p : DueEvent → Bool) (events : List DueEvent) → find p (filter (λ event. not (p event)) events) ≡ None
found_without p [] = refl
found_without p (first ∷ rest) = found_without_if p first (filter (λ event. not (p event)) rest) (p first) refl (found_without p rest)

-- a wait's end is set for a millisecond more than its limit
pub limit_set : (b : Base) (t object : ℕ) (order : Order) (n : ℕ) (k : Task) → task_at b t ≡ Some k → limit_of t (make_wait b t object order (pos n)).events ≡ Some (b.time + n + 1)
limit_set b t object order n k at = entry_at (λ c. limit_of t c.events ≡ Some (b.time + n + 1)) (task_at b t) k b _ at
    (ap (λ found. option_map (λ event. event.time) found)
    (found_set (ends_wait_of t) (record { time = b.time + n + 1; key = b.made; what = Wait t }) (without_wait t b.events) (itself t) (found_without (ends_wait_of t) b.events)))

-- ---- what is due

-- while all events are later, none is due
pub none_is_due : (now : ℕ) (events : List DueEvent) → AreLater now events → due_event now events ≡ None
none_is_due now [] later = refl
none_is_due now (first ∷ rest) later =
    let after : now < first.time = All-head (λ (event : DueEvent). now < event.time) first rest later in
    let test : nat_le first.time now ≡ false = grind (arith, nat_tests, after) in
    rw test refl

-- once the time of the first has come, it is the one that is due
pub first_is_due : (now : ℕ) (first : DueEvent) (rest : List DueEvent) → first.time ≤ now → due_event now (first ∷ rest) ≡ Some first.what
first_is_due now first rest by =
    let test : nat_le first.time now ≡ true = grind (arith, nat_tests, by) in
    rw test refl

taken_if : (test : Bool) (what : Event) (t : ℕ) → cond test (Some what) None ≡ Some (Wait t) → (test ≡ true) × (what ≡ Wait t)
taken_if true what t taken = (refl, cc taken)
taken_if false what t taken = absurd (cc taken)

limit_first : (t : ℕ) (first : DueEvent) (rest : List DueEvent) → first.what ≡ Wait t → limit_of t (first ∷ rest) ≡ Some first.time
limit_first t first rest is = ap (λ here. option_map (λ (event : DueEvent). event.time) (cond here (Some first) (find (ends_wait_of t) rest))) (ap (is_wait_of t) is ∙ itself t)

-- a wait's end isn't taken before its time, and none is taken that isn't set
pub taken_in_time : (t now : ℕ) (events : List DueEvent) → ComesAfter now (limit_of t events) → due_event now events ≡ Some (Wait t) → ⊥
taken_in_time t now [] early taken = absurd (cc taken)
taken_in_time t now (first ∷ rest) early taken =
    let parts = taken_if (nat_le first.time now) first.what t taken in
    let later : now < first.time = subst (λ (limit : Option ℕ). ComesAfter now limit) (limit_first t first rest parts.1) early in
    let come : nat_le first.time now ≡ true = parts.0 in
    grind (arith, nat_tests, come, later)

-- ---- the order of what is set

pub set_first : (event : DueEvent) (events : List DueEvent) → AreLater event.time events → insert_event event events ≡ event ∷ events
set_first event [] later = refl
set_first event (first ∷ rest) later =
    let after : event.time < first.time = All-head (λ (other : DueEvent). event.time < other.time) first rest later in
    let test : nat_lt event.time first.time ≡ true = grind (arith, nat_tests, after) in
    rw test refl

-- an event is set behind all that fall due by its time, and in front of all that fall due later
pub set_behind : (event : DueEvent) (front behind : List DueEvent) → AreDueBy event.time front → AreLater event.time behind → insert_event event (front ++ behind) ≡ front ++ event ∷ behind
set_behind event [] behind by later = set_first event behind later
set_behind event (first ∷ front) behind by later =
    let before : first.time ≤ event.time = All-head (λ (other : DueEvent). other.time ≤ event.time) first front by in
    let test : nat_lt event.time first.time ≡ false = grind (arith, nat_tests, before) in
    let rest : insert_event event (front ++ behind) ≡ front ++ event ∷ behind = set_behind event front behind (All-tail (λ (other : DueEvent). other.time ≤ event.time) first front by) later in
    rw test (ap (λ events. first ∷ events) rest)

-- ---- ticks

time_after : (n : ℕ) (b : Base) → (after_time n b).time ≡ b.time + n
time_after zero b = omega arith
time_after (suc n) b = let before = time_after n b in omega arith

events_after : (n : ℕ) (b : Base) → (after_time n b).events ≡ b.events
events_after zero b = refl
events_after (suc n) b = events_after n b

wait_time : (b : Base) (t object : ℕ) (order : Order) (n : ℕ) (k : Task) → task_at b t ≡ Some k → (make_wait b t object order (pos n)).time ≡ b.time
wait_time b t object order n k at = entry_at (λ c. c.time ≡ b.time) (task_at b t) k b _ at refl

wait_events : (b : Base) (t object : ℕ) (order : Order) (n : ℕ) (k : Task) → task_at b t ≡ Some k → (make_wait b t object order (pos n)).events ≡ insert_event (record { time = b.time + n + 1; key = b.made; what = Wait t }) (without_wait t b.events)
wait_events b t object order n k at = entry_at (λ c. c.events ≡ insert_event (record { time = b.time + n + 1; key = b.made; what = Wait t }) (without_wait t b.events)) (task_at b t) k b _ at refl

-- a wait of n milliseconds isn't over while no more than n have passed
pub goes_on : (b : Base) (t object : ℕ) (order : Order) (n passed : ℕ) (k : Task) → task_at b t ≡ Some k → passed ≤ n →
    due_event (after_time passed (make_wait b t object order (pos n))).time (after_time passed (make_wait b t object order (pos n))).events ≡ Some (Wait t) → ⊥
goes_on b t object order n passed k at early taken =
    let c : Base = make_wait b t object order (pos n) in
    let limit : limit_of t (after_time passed c).events ≡ Some (b.time + n + 1) = ap (λ events. limit_of t events) (events_after passed c) ∙ limit_set b t object order n k at in
    let now : (after_time passed c).time ≡ b.time + passed = time_after passed c ∙ ap (λ time. time + passed) (wait_time b t object order n k at) in
    taken_in_time t (after_time passed c).time (after_time passed c).events (subst (λ (set : Option ℕ). ComesAfter (after_time passed c).time set) (sym limit) (omega arith)) taken

-- with one more it is what is due, where nothing else is
pub ends_then : (b : Base) (t object : ℕ) (order : Order) (n : ℕ) (k : Task) → task_at b t ≡ Some k → AreLater (b.time + n + 1) b.events →
    due_event (after_time (n + 1) (make_wait b t object order (pos n))).time (after_time (n + 1) (make_wait b t object order (pos n))).events ≡ Some (Wait t)
ends_then b t object order n k at later =
    let c : Base = make_wait b t object order (pos n) in
    let own : DueEvent = record { time = b.time + n + 1; key = b.made; what = Wait t } in
    let rest : List DueEvent = without_wait t b.events in
    let events : (after_time (n + 1) c).events ≡ own ∷ rest =
    events_after (n + 1) c ∙ wait_events b t object order n k at ∙ set_first own rest (All-filter (λ event. not (ends_wait_of t event)) (λ (event : DueEvent). b.time + n + 1 < event.time) b.events later) in
    let now : (after_time (n + 1) c).time ≡ b.time + (n + 1) = time_after (n + 1) c ∙ ap (λ time. time + (n + 1)) (wait_time b t object order n k at) in
    ap (λ list. due_event (after_time (n + 1) c).time list) events ∙ first_is_due (after_time (n + 1) c).time own rest (omega arith)
