-- How many events were made, how many are set, and which time it is: a move that makes an event adds one to both counts, and no
-- other move adds to any.
use Rattle.std.proofs.Common.{ℕ, suc, ◌+◌, ◌-◌, ◌≤◌, Bool, true, false, not, cond, List, [], ◌∷◌, length, arith, ℤ, pos, negsuc}
use Rattle.std.specs.Bool.{◌==◌}
use Rattle.std.specs.Prelude.{filter, nat_lt}
use Rattle.tk_types.specs.declared.answer.Answer.{Answer}
use Rattle.tk_types.specs.declared.task.DueEvent.{DueEvent}
use Rattle.tk_types.specs.declared.task.Event.{Event}
use Rattle.tk_types.specs.declared.task.Event.TheVariants.{Wait}
use Rattle.tk_types.specs.declared.task.Order.{Order}
use Rattle.kernel_model.specs.Words.Events.{ends_wait_of, insert_event}
use Rattle.kernel_model.specs.Tasks.Base.{Base, add_event, has_room, is_waiting_phase, limited, make_wait, move_wait, release, resumed, task_at}
use Rattle.kernel_lemmas.proofs.Tables.{entry_cases}
use Rattle.count_lemmas.proofs.Making.{IsMaking, IsQuiet, either_base}

-- at most so many events were made, at most so many are set, and a word holds of the time
abbrev pub Few : ℕ → ℕ → (ℕ → Type 0) → Base → Type 0
Few made set T b = (b.made ≤ made) × (length b.events ≤ set) × T b.time

-- ---- lists

kept_if : (event : DueEvent) (kept rest : List DueEvent) (test : Bool) → length kept ≤ length rest → length (cond test (event ∷ kept) kept) ≤ suc (length rest)
kept_if event kept rest true less = omega (arith, less)
kept_if event kept rest false less = omega (arith, less)

-- no more events are left than there were
pub fewer_left : (passes : DueEvent → Bool) (events : List DueEvent) → length (filter passes events) ≤ length events
fewer_left passes [] = omega arith
fewer_left passes (event ∷ rest) = kept_if event (filter passes rest) rest (passes event) (fewer_left passes rest)

inserted_if : (event first : DueEvent) (rest inserted : List DueEvent) (test : Bool) → length inserted ≤ suc (length rest) → length (cond test (event ∷ first ∷ rest) (first ∷ inserted)) ≤ suc (suc (length rest))
inserted_if event first rest inserted true less = omega arith
inserted_if event first rest inserted false less = omega (arith, less)

-- an event that is set is one more
pub one_more : (event : DueEvent) (events : List DueEvent) → length (insert_event event events) ≤ suc (length events)
one_more event [] = omega arith
one_more event (first ∷ rest) = inserted_if event first rest (insert_event event rest) (nat_lt event.time first.time) (one_more event rest)

-- ---- the moves

-- fewer events may be left
pub passed_few : (n m : ℕ) (T : ℕ → Type 0) (b : Base) (passes : DueEvent → Bool) → Few n m T b → Few n m T (record b { events = filter passes b.events })
passed_few n m T b passes few = let less = fewer_left passes b.events in (few.0, omega (arith, less, few.1), few.2)

-- an event is made
pub added_few : (n m : ℕ) (T : ℕ → Type 0) (b : Base) (time : ℕ) (what : Event) → Few n m T b → Few (n + 1) (m + 1) T (add_event b time what)
added_few n m T b time what few =
    let longer = one_more (record { time = time; key = b.made; what = what }) b.events in
    (omega (arith, few.0), omega (arith, longer, few.1), few.2)

-- larger bounds are bounds too
pub larger_few : (n m more longer : ℕ) (T : ℕ → Type 0) (b : Base) → n ≤ more → m ≤ longer → Few n m T b → Few more longer T b
larger_few n m more longer T b one other few = (omega (arith, few.0, one), omega (arith, few.1, other), few.2)

more_few : (n m : ℕ) (T : ℕ → Type 0) (b : Base) → Few n m T b → Few (n + 1) (m + 1) T b
more_few n m T b few = larger_few n m (n + 1) (m + 1) T b (omega arith) (omega arith) few

limited_few : (n m : ℕ) (T : ℕ → Type 0) (timeout : ℤ) (t : ℕ) (b : Base) → Few n m T b → Few (n + 1) (m + 1) T (limited timeout t b)
limited_few n m T (pos limit) t b few = added_few n m T b (b.time + limit + 1) (Wait t) few
limited_few n m T (negsuc limit) t b few = more_few n m T b few

-- the events without the end of one wait
dropped_few : (n m : ℕ) (T : ℕ → Type 0) (b : Base) (t : ℕ) → Few n m T b → Few n m T (record b { events = filter (λ event. not (ends_wait_of t event)) b.events })
dropped_few n m T b t few = passed_few n m T b (λ event. not (ends_wait_of t event)) few

wait_few : (n m : ℕ) (T : ℕ → Type 0) (b : Base) (t object : ℕ) (order : Order) (timeout : ℤ) → Few n m T b → Few (n + 1) (m + 1) T (make_wait b t object order timeout)
wait_few n m T b t object order timeout few = entry_cases (Few (n + 1) (m + 1) T) (task_at b t) b _ (more_few n m T b few) (λ k at. limited_few n m T timeout t _ (dropped_few n m T b t few))

move_few : (n m : ℕ) (T : ℕ → Type 0) (b : Base) (t object : ℕ) (order : Order) → Few n m T b → Few n m T (move_wait b t object order)
move_few n m T b t object order few = entry_cases (Few n m T) (task_at b t) b _ few (λ k at. either_base (Few n m T) (is_waiting_phase k.phase) _ b (dropped_few n m T b t few) few)

release_few : (n m : ℕ) (T : ℕ → Type 0) (b : Base) (t : ℕ) (answer : Answer) → Few n m T b → Few n m T (release b t answer)
release_few n m T b t answer few = entry_cases (Few n m T) (task_at b t) b _ few (λ k at. either_base (Few n m T) (is_waiting_phase k.phase) _ b (dropped_few n m T b t few) few)

-- no other move makes an event
pub few_quiet : (n m : ℕ) (T : ℕ → Type 0) → IsQuiet (Few n m T)
few_quiet n m T = record {
  created = λ b t priority stack few. few;
  deleted = λ b t few. entry_cases (Few n m T) (task_at b t) b _ few (λ k at. few);
  readied = λ b t few. entry_cases (Few n m T) (task_at b t) b _ few (λ k at. few);
  ended = λ b t few. entry_cases (Few n m T) (task_at b t) b _ few (λ k at. dropped_few n m T b t few);
  suspended = λ b t few. entry_cases (Few n m T) (task_at b t) b _ few (λ k at. few);
  resumed = λ b t all few. entry_cases (Few n m T) (task_at b t) b _ few (λ k at. either_base (Few n m T) (k.suspensions == 0) b (resumed b t (cond all 0 (k.suspensions - 1)) k) few few);
  based = λ b t priority few. entry_cases (Few n m T) (task_at b t) b _ few (λ k at. few);
  refreshed = λ b t priority few. entry_cases (Few n m T) (task_at b t) b _ few (λ k at. few);
  woken = λ b t requests few. entry_cases (Few n m T) (task_at b t) b _ few (λ k at. few);
  released = release_few n m T;
  moved = move_few n m T;
  placed = λ b t few. few;
  taken = λ b bytes few. either_base (Few n m T) (has_room b bytes) _ b few few;
  given = λ b bytes few. few;
  passed = passed_few n m T;
  flagged = λ b flags few. few;
  turned = λ b cur few. few;
  emptied = λ b few. few;
}

-- and a wait with a limit, or a handler that is set, makes one
pub few_making : (n m : ℕ) (T : ℕ → Type 0) → IsMaking (Few n m T) (Few (n + 1) (m + 1) T)
few_making n m T = record { quiet = few_quiet n m T; more = more_few n m T; waits = wait_few n m T; added = added_few n m T }
