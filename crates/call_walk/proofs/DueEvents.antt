-- What is set for a time: what survives that an event is made, that only those are left that pass a test, and that the first is
-- taken, survives every move. So the events stand in the order of their times.
use Rattle.std.proofs.Common.{◌≡◌, ℕ, suc, ◌+◌, ◌-◌, ◌≤◌, ◌<◌, Bool, true, false, not, cond, List, [], ◌∷◌, refl, arith, ℤ, pos, negsuc}
use Rattle.std.specs.Bool.{◌==◌}
use Rattle.std.specs.Prelude.{All, drop, filter, nat_lt}
use Rattle.std.proofs.lemmas.Bool.Decides.{nat_tests}
use Rattle.std.proofs.lemmas.List.Elements.{All-cons, All-head, All-tail, All-weaker}
use Rattle.std.proofs.lemmas.List.Kept.{AllPairs-cons, AllPairs-filter}
use Rattle.tk_types.specs.declared.answer.Answer.{Answer}
use Rattle.tk_types.specs.declared.task.DueEvent.{DueEvent}
use Rattle.tk_types.specs.declared.task.Event.TheVariants.{Wait}
use Rattle.tk_types.specs.declared.task.Order.{Order}
use Rattle.kernel_model.specs.LawWords.TimeOrder.{AreInTimeOrder}
use Rattle.kernel_model.specs.Words.Events.{ends_wait_of, insert_event, is_due}
use Rattle.kernel_model.specs.Tasks.Base.{Base, has_room, is_waiting_phase, limited, make_wait, move_wait, release, resume, resumed, take_bytes, task_at}
use Rattle.kernel_lemmas.proofs.Tables.{entry_cases}
use Rattle.call_walk.proofs.BaseMoves.{IsBaseProof, either_base}

-- what survives all three
pub record IsOfEvents (T : List DueEvent → Type 0) : Type 0 where
  pub made : (event : DueEvent) (events : List DueEvent) → T events → T (insert_event event events)
  pub left : (passes : DueEvent → Bool) (events : List DueEvent) → T events → T (filter passes events)
  pub rest : (events : List DueEvent) → T events → T (drop 1 events)

-- it holds of the events of a base
abbrev pub OfEvents : (List DueEvent → Type 0) → Base → Type 0
OfEvents T b = T b.events

-- the events without the end of one wait
dropped : (T : List DueEvent → Type 0) → IsOfEvents T → (t : ℕ) (events : List DueEvent) → T events → T (filter (λ event. not (ends_wait_of t event)) events)
dropped T is t events has = is.left (λ event. not (ends_wait_of t event)) events has

limited_events : (T : List DueEvent → Type 0) → IsOfEvents T → (timeout : ℤ) (t : ℕ) (b : Base) → OfEvents T b → OfEvents T (limited timeout t b)
limited_events T is (pos n) t b has = is.made (record { time = b.time + n + 1; key = b.made; what = Wait t }) b.events has
limited_events T is (negsuc n) t b has = has

wait_events : (T : List DueEvent → Type 0) → IsOfEvents T → (b : Base) (t object : ℕ) (order : Order) (timeout : ℤ) → OfEvents T b → OfEvents T (make_wait b t object order timeout)
wait_events T is b t object order timeout has = entry_cases (OfEvents T) (task_at b t) b _ has (λ k at. limited_events T is timeout t _ (dropped T is t b.events has))

move_events : (T : List DueEvent → Type 0) → IsOfEvents T → (b : Base) (t object : ℕ) (order : Order) → OfEvents T b → OfEvents T (move_wait b t object order)
move_events T is b t object order has = entry_cases (OfEvents T) (task_at b t) b _ has (λ k at. either_base (OfEvents T) (is_waiting_phase k.phase) _ b (dropped T is t b.events has) has)

release_events : (T : List DueEvent → Type 0) → IsOfEvents T → (b : Base) (t : ℕ) (answer : Answer) → OfEvents T b → OfEvents T (release b t answer)
release_events T is b t answer has = entry_cases (OfEvents T) (task_at b t) b _ has (λ k at. either_base (OfEvents T) (is_waiting_phase k.phase) _ b (dropped T is t b.events has) has)

resume_events : (T : List DueEvent → Type 0) (b : Base) (t : ℕ) (all : Bool) → OfEvents T b → OfEvents T (resume b t all)
resume_events T b t all has = entry_cases (OfEvents T) (task_at b t) b _ has
    (λ k at. either_base (OfEvents T) (k.suspensions == 0) b (resumed b t (cond all 0 (k.suspensions - 1)) k) has has)

taken_events : (T : List DueEvent → Type 0) (b : Base) (n : ℕ) → OfEvents T b → OfEvents T (take_bytes b n)
taken_events T b n has = either_base (OfEvents T) (has_room b n) _ b has has

due_if : (T : List DueEvent → Type 0) → IsOfEvents T → (events : List DueEvent) (test : Bool) → T events → T (cond test (drop 1 events) events)
due_if T is events true has = is.rest events has
due_if T is events false has = has

pub events_kept : (T : List DueEvent → Type 0) → IsOfEvents T → IsBaseProof (OfEvents T)
events_kept T is = record {
  created = λ b t priority stack has. has;
  deleted = λ b t has. entry_cases (OfEvents T) (task_at b t) b _ has (λ k at. has);
  readied = λ b t has. entry_cases (OfEvents T) (task_at b t) b _ has (λ k at. has);
  ended = λ b t has. entry_cases (OfEvents T) (task_at b t) b _ has (λ k at. dropped T is t b.events has);
  suspended = λ b t has. entry_cases (OfEvents T) (task_at b t) b _ has (λ k at. has);
  resumed = resume_events T;
  based = λ b t priority has. entry_cases (OfEvents T) (task_at b t) b _ has (λ k at. has);
  refreshed = λ b t priority has. entry_cases (OfEvents T) (task_at b t) b _ has (λ k at. has);
  woken = λ b t n has. entry_cases (OfEvents T) (task_at b t) b _ has (λ k at. has);
  waits = wait_events T is;
  moved = move_events T is;
  released = release_events T is;
  placed = λ b t has. has;
  taken = taken_events T;
  given = λ b n has. has;
  added = λ b time what has. is.made (record { time = time; key = b.made; what = what }) b.events has;
  passed = λ b passes has. is.left passes b.events has;
  advanced = λ b has. has;
  due = λ b has. due_if T is b.events (is_due b.time b.events) has;
  flagged = λ b flags has. has;
  turned = λ b cur has. has;
  emptied = λ b has. has;
}

-- ---- the order of times

abbrev IsBefore : DueEvent → DueEvent → Type 0
IsBefore earlier later = earlier.time ≤ later.time

rest_later : (first : DueEvent) (rest : List DueEvent) → AreInTimeOrder (first ∷ rest) → All (IsBefore first) rest
rest_later first rest order k d less = order 0 (suc k) d (omega arith) (omega (arith, less))

rest_in_order : (first : DueEvent) (rest : List DueEvent) → AreInTimeOrder (first ∷ rest) → AreInTimeOrder rest
rest_in_order first rest order i j d less inside = order (suc i) (suc j) d (omega (arith, less)) (omega (arith, inside))

all_if : (P : DueEvent → Type 0) (event first : DueEvent) (rest inserted : List DueEvent) (test : Bool) → P event → P first → All P rest → All P inserted → All P (cond test (event ∷ first ∷ rest) (first ∷ inserted))
all_if P event first rest inserted true here one all placed = All-cons P event (first ∷ rest) here (All-cons P first rest one all)
all_if P event first rest inserted false here one all placed = All-cons P first inserted one placed

all_inserted : (P : DueEvent → Type 0) (event : DueEvent) (events : List DueEvent) → P event → All P events → All P (insert_event event events)
all_inserted P event [] here all = All-cons P event [] here all
all_inserted P event (first ∷ rest) here all =
    all_if P event first rest (insert_event event rest) (nat_lt event.time first.time) here (All-head P first rest all) (All-tail P first rest all) (all_inserted P event rest here (All-tail P first rest all))

order_if : (event first : DueEvent) (rest inserted : List DueEvent) (test : Bool) → nat_lt event.time first.time ≡ test → AreInTimeOrder (first ∷ rest) → AreInTimeOrder inserted →
    (first.time ≤ event.time → All (IsBefore first) inserted) → AreInTimeOrder (cond test (event ∷ first ∷ rest) (first ∷ inserted))
order_if event first rest inserted true is order placed all =
    let less : event.time < first.time = grind (arith, nat_tests, is) in
    AllPairs-cons IsBefore event (first ∷ rest)
    (All-cons (IsBefore event) first rest (omega (arith, less)) (All-weaker (IsBefore first) (IsBefore event) (λ x h. omega (arith, h, less)) rest (rest_later first rest order))) order
order_if event first rest inserted false is order placed all = AllPairs-cons IsBefore first inserted (all (grind (arith, nat_tests, is))) placed

order_inserted : (event : DueEvent) (events : List DueEvent) → AreInTimeOrder events → AreInTimeOrder (insert_event event events)
order_inserted event [] order = AllPairs-cons IsBefore event [] (λ k d less. absurd (omega (arith, less))) order
order_inserted event (first ∷ rest) order =
    order_if event first rest (insert_event event rest) (nat_lt event.time first.time) refl order (order_inserted event rest (rest_in_order first rest order))
    (λ behind. all_inserted (IsBefore first) event rest behind (rest_later first rest order))

order_left : (events : List DueEvent) → AreInTimeOrder events → AreInTimeOrder (drop 1 events)
order_left [] order = order
order_left (first ∷ rest) order = rest_in_order first rest order

-- no event falls due after one that stands behind it
pub time_order_kept : IsBaseProof (λ b. AreInTimeOrder b.events)
time_order_kept = events_kept AreInTimeOrder (record {
  made = order_inserted;
  left = λ passes events order. AllPairs-filter IsBefore passes events order;
  rest = order_left;
})
