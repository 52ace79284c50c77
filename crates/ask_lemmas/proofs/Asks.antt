-- What each task that waits has asked for, whatever that is: what each move of the base keeps of it, and the end of all waits for an
-- object that is deleted.
use Rattle.std.proofs.Common.{◌≡◌, ℕ, suc, zero, ◌+◌, ◌-◌, ◌<◌, Bool, true, false, cond, List, [], ◌∷◌, Option, Some, None, length, refl, ◌∙◌, ap, sym, subst, arith, ℤ, pos, negsuc}
use Rattle.std.specs.Bool.{◌==◌}
use Rattle.std.specs.Prelude.{replicate, slice_set}
use Rattle.std.proofs.lemmas.Bool.Decides.{nat_tests}
use Rattle.tk_types.specs.declared.answer.Answer.{Answer}
use Rattle.tk_types.specs.declared.error_code.Er.TheVariants as er
use Rattle.tk_types.specs.declared.task.Order.{Order}
use Rattle.tk_types.specs.declared.task.Order.TheVariants.{Fifo}
use Rattle.tk_types.specs.declared.task.Phase.TheVariants.{Dormant, Ready, Waiting}
use Rattle.tk_types.specs.declared.task.Task.{Task}
use Rattle.tk_types.specs.Codes.{code_of}
use Rattle.kernel_model.specs.Words.Checks.{plain}
use Rattle.kernel_model.specs.Words.Orders.{entry, to_back, without}
use Rattle.kernel_model.specs.Tasks.Base.{Base, back_unless_suspended, base_start, create, delete, drop_wait, gone, has_room, is_waiting_phase, limited, make_dormant, make_ready, make_wait, move_wait, queue, recorded, release, resume, resumed, set_base, set_current, set_wakeups, suspend, take_bytes, task_at, waiting_in, waits_for, with_task}
use Rattle.kernel_model.specs.SemFlags.Calls.{end_first, end_waits, first_ended}
use Rattle.kernel_lemmas.proofs.Tables.{entry_cases, entry_each, entry_inside, entry_same, entry_split, none_there}

-- what a task has to have asked for, to wait for an object
abbrev pub Asks : Type 1
Asks = ℕ → ℕ → Type 0

-- whoever stands in a slot of the table of tasks has asked for what it waits for
abbrev pub RowAsks : Asks → ℕ → Option Task → Type 0
RowAsks asks t slot = (object : ℕ) → waiting_in object slot ≡ true → asks t object

-- and so has each task
abbrev pub AllAsk : Asks → Base → Type 0
AllAsk asks b = (t : ℕ) → RowAsks asks t (task_at b t)

none_asks : (asks : Asks) (t : ℕ) → RowAsks asks t None
none_asks asks t object waits = absurd (cc waits)

waiting_asks : (asks : Asks) (t object : ℕ) (by : Order) (k : Task) → asks t object → RowAsks asks t (Some (record k { phase = Waiting object; queue = by }))
waiting_asks asks t object by k there other waits =
    let test : (object == other) ≡ true = waits in
    let e : object ≡ other = grind (arith, nat_tests, test) in subst (λ (n : ℕ). asks t n) e there

-- what was asked for fits other asks, where it does for each task that waits
pub asks_then : (asks now : Asks) (b : Base) → ((t object : ℕ) → waits_for b object t ≡ true → asks t object → now t object) → AllAsk asks b → AllAsk now b
asks_then asks now b then all = λ t object waits. then t object waits (all t object waits)

-- ---- the moves

written : (asks : Asks) (b : Base) (v : ℕ) (slot : Option Task) → AllAsk asks b → RowAsks asks v slot → (t : ℕ) → RowAsks asks t (entry (slice_set b.tasks v slot) t)
written asks b v slot all fits = entry_each (RowAsks asks) b.tasks v slot (entry_same (RowAsks asks v) b.tasks v slot fits (none_asks asks v)) (λ u apart. all u)

row_asks : (asks : Asks) (b : Base) (v : ℕ) (k : Task) → AllAsk asks b → task_at b v ≡ Some k → RowAsks asks v (Some k)
row_asks asks b v k all at = subst (RowAsks asks v) at (all v)

-- a task is made
pub create_asks : (asks : Asks) (b : Base) (v priority stack : ℕ) → AllAsk asks b → AllAsk asks (create b v priority stack)
create_asks asks b v priority stack all =
    let slot : Option Task = Some
    (record { phase = Dormant; queue = Fifo; base = priority; initial = priority; current = priority; wakeups = 0; suspensions = 0; stack = stack }) in
    written asks b v slot all (λ object waits. absurd (cc waits))

-- a task becomes READY
pub ready_asks : (asks : Asks) (b : Base) (v : ℕ) → AllAsk asks b → AllAsk asks (make_ready b v)
ready_asks asks b v all = entry_cases (AllAsk asks) (task_at b v) b (λ k. record (with_task b v (record k { phase = Ready })) { order = to_back v b.order }) all
    (λ k at. written asks b v (Some (record k { phase = Ready })) all (λ object waits. absurd (cc waits)))

-- a task is gone
pub delete_asks : (asks : Asks) (b : Base) (v : ℕ) → AllAsk asks b → AllAsk asks (delete b v)
delete_asks asks b v all = entry_cases (AllAsk asks) (task_at b v) b (λ k. record b
    { tasks = slice_set b.tasks v None; order = without v b.order; since = without v b.since; bytes = b.bytes - k.stack }) all
    (λ k at. written asks b v None all (none_asks asks v))

-- a task ends
pub dormant_asks : (asks : Asks) (b : Base) (v : ℕ) → AllAsk asks b → AllAsk asks (make_dormant b v)
dormant_asks asks b v all = entry_cases (AllAsk asks) (task_at b v) b (λ k. record (with_task (drop_wait b v) v
    (record k { phase = Dormant; base = k.initial; current = k.initial; wakeups = 0; suspensions = 0 })) { cur = gone v b.cur }) all
    (λ k at. let slot : Option Task = Some (record k { phase = Dormant; base = k.initial; current = k.initial; wakeups = 0; suspensions = 0 }) in written asks b v slot all (λ object waits. absurd (cc waits)))

-- a task is suspended
pub suspend_asks : (asks : Asks) (b : Base) (v : ℕ) → AllAsk asks b → AllAsk asks (suspend b v)
suspend_asks asks b v all = entry_cases (AllAsk asks) (task_at b v) b (λ k. record (with_task b v (record k { suspensions = k.suspensions + 1 }))
    { cur = gone v b.cur }) all
    (λ k at. written asks b v (Some (record k { suspensions = k.suspensions + 1 })) all (row_asks asks b v k all at))

resumed_asks : (asks : Asks) (b : Base) (v : ℕ) (every free : Bool) (k : Task) → AllAsk asks b → task_at b v ≡ Some k →
    AllAsk asks (cond free b (resumed b v (cond every 0 (k.suspensions - 1)) k))
resumed_asks asks b v every true k all at = all
resumed_asks asks b v every false k all at = written asks b v (Some (record k { suspensions = cond every 0 (k.suspensions - 1) })) all (row_asks asks b v k all at)

-- a suspension is taken off
pub resume_asks : (asks : Asks) (b : Base) (v : ℕ) (every : Bool) → AllAsk asks b → AllAsk asks (resume b v every)
resume_asks asks b v every all = entry_cases (AllAsk asks) (task_at b v) b (λ k. cond (k.suspensions == 0) b (resumed b v (cond every 0 (k.suspensions - 1)) k)) all
    (λ k at. resumed_asks asks b v every (k.suspensions == 0) k all at)

-- a base priority changes
pub set_base_asks : (asks : Asks) (b : Base) (v priority : ℕ) → AllAsk asks b → AllAsk asks (set_base b v priority)
set_base_asks asks b v priority all = entry_cases (AllAsk asks) (task_at b v) b (λ k. with_task b v (record k { base = priority })) all
    (λ k at. written asks b v (Some (record k { base = priority })) all (row_asks asks b v k all at))

-- a current priority changes
pub set_current_asks : (asks : Asks) (b : Base) (v priority : ℕ) → AllAsk asks b → AllAsk asks (set_current b v priority)
set_current_asks asks b v priority all = entry_cases (AllAsk asks) (task_at b v) b (λ k. record (with_task b v (record k { current = priority }))
    { order = to_back v b.order }) all
    (λ k at. written asks b v (Some (record k { current = priority })) all (row_asks asks b v k all at))

-- requests to wake up are counted
pub set_wakeups_asks : (asks : Asks) (b : Base) (v n : ℕ) → AllAsk asks b → AllAsk asks (set_wakeups b v n)
set_wakeups_asks asks b v n all = entry_cases (AllAsk asks) (task_at b v) b (λ k. with_task b v (record k { wakeups = n })) all
    (λ k at. written asks b v (Some (record k { wakeups = n })) all (row_asks asks b v k all at))

released_asks : (asks : Asks) (b : Base) (v : ℕ) (answer : Answer) (k : Task) (waits : Bool) → AllAsk asks b →
    AllAsk asks (cond waits (record (with_task (drop_wait b v) v (record k { phase = Ready }))
    { order = back_unless_suspended v k.suspensions b.order; released = recorded v answer b.released }) b)
released_asks asks b v answer k true all = written asks b v (Some (record k { phase = Ready })) all (λ object waits. absurd (cc waits))
released_asks asks b v answer k false all = all

-- a wait ends
pub release_asks : (asks : Asks) (b : Base) (v : ℕ) (answer : Answer) → AllAsk asks b → AllAsk asks (release b v answer)
release_asks asks b v answer all =
    entry_cases (AllAsk asks) (task_at b v) b (λ k. cond (is_waiting_phase k.phase) (record (with_task (drop_wait b v) v (record k { phase = Ready }))
    { order = back_unless_suspended v k.suspensions b.order; released = recorded v answer b.released }) b) all
    (λ k at. released_asks asks b v answer k (is_waiting_phase k.phase) all)

limited_asks : (asks : Asks) (timeout : ℤ) (v : ℕ) (b : Base) → AllAsk asks b → AllAsk asks (limited timeout v b)
limited_asks asks (pos n) v b all = all
limited_asks asks (negsuc n) v b all = all

-- a wait for an object begins, for which the task asked
pub wait_asks : (asks : Asks) (b : Base) (v object : ℕ) (by : Order) (timeout : ℤ) → asks v object → AllAsk asks b →
    AllAsk asks (make_wait b v object by timeout)
wait_asks asks b v object by timeout there all =
    entry_cases (AllAsk asks) (task_at b v) b (λ k. limited timeout v (record (with_task (drop_wait b v) v (record k { phase = Waiting object; queue = by }))
    { order = to_back v b.order; since = to_back v b.since; cur = gone v b.cur })) all
    (λ k at. limited_asks asks timeout v (record (with_task (drop_wait b v) v (record k { phase = Waiting object; queue = by }))
    { order = to_back v b.order; since = to_back v b.since; cur = gone v b.cur })
    (written asks b v (Some (record k { phase = Waiting object; queue = by })) all (waiting_asks asks v object by k there)))

moved_asks : (asks : Asks) (b : Base) (v object : ℕ) (by : Order) (k : Task) (waits : Bool) → asks v object → AllAsk asks b →
    AllAsk asks (cond waits (with_task (drop_wait b v) v (record k { phase = Waiting object; queue = by })) b)
moved_asks asks b v object by k true there all = written asks b v (Some (record k { phase = Waiting object; queue = by })) all (waiting_asks asks v object by k there)
moved_asks asks b v object by k false there all = all

-- a wait moves to another object, for which the task asked
pub move_asks : (asks : Asks) (b : Base) (v object : ℕ) (by : Order) → asks v object → AllAsk asks b → AllAsk asks (move_wait b v object by)
move_asks asks b v object by there all =
    entry_cases (AllAsk asks) (task_at b v) b (λ k. cond (is_waiting_phase k.phase) (with_task (drop_wait b v) v (record k { phase = Waiting object; queue = by })) b) all
    (λ k at. moved_asks asks b v object by k (is_waiting_phase k.phase) there all)

-- ---- a wait for what a task asks for with it

by_test : (R : Type 0) (u v : ℕ) (same : Bool) → (u == v) ≡ same → (u ≡ v → R) → ((u ≡ v → ⊥) → R) → R
by_test R u v true is one other = let e : u ≡ v = grind (arith, nat_tests, is) in one e
by_test R u v false is one other = other (λ e. let apart : u ≡ v → ⊥ = λ same. grind (arith, nat_tests, is, same) in apart e)

-- either of two tasks is the other, or they are two
pub same_or_apart : (R : Type 0) (u v : ℕ) → (u ≡ v → R) → ((u ≡ v → ⊥) → R) → R
same_or_apart R u v one other = by_test R u v (u == v) refl one other

others_ask : (asks now : Asks) (v u : ℕ) (slot : Option Task) → ((w object : ℕ) → (w ≡ v → ⊥) → asks w object → now w object) → (u ≡ v → ⊥) → RowAsks asks u slot → RowAsks now u slot
others_ask asks now v u slot others apart all object waits = others u object apart (all object waits)

-- a task begins to wait for what it asks for now, where what the others asked for stays
pub wait_with : (asks now : Asks) (b : Base) (v object : ℕ) (by : Order) (timeout : ℤ) → (v < length b.tasks → now v object) →
    ((u other : ℕ) → (u ≡ v → ⊥) → asks u other → now u other) → AllAsk asks b → AllAsk now (make_wait b v object by timeout)
wait_with asks now b v object by timeout there others all =
    entry_split (AllAsk now) (task_at b v) b (λ k. limited timeout v (record (with_task (drop_wait b v) v (record k { phase = Waiting object; queue = by }))
    { order = to_back v b.order; since = to_back v b.since; cur = gone v b.cur }))
    (λ none u. same_or_apart (RowAsks now u (task_at b u)) u v
    (λ same. subst (RowAsks now u) (sym (ap (task_at b) same ∙ none)) (none_asks now u)) (λ apart. others_ask asks now v u (task_at b u) others apart (all u)))
    (λ k at. limited_asks now timeout v (record (with_task (drop_wait b v) v (record k { phase = Waiting object; queue = by }))
    { order = to_back v b.order; since = to_back v b.since; cur = gone v b.cur })
    (entry_each (RowAsks now) b.tasks v (Some (record k { phase = Waiting object; queue = by }))
    (entry_same (RowAsks now v) b.tasks v (Some (record k { phase = Waiting object; queue = by }))
    (waiting_asks now v object by k (there (entry_inside b.tasks v k at))) (none_asks now v))
    (λ u apart. others_ask asks now v u (task_at b u) others apart (all u))))

-- ---- bytes, and the end of all waits for an object

-- bytes are taken, where there is room
pub taken_asks : (asks : Asks) (b : Base) (n : ℕ) → AllAsk asks b → AllAsk asks (take_bytes b n)
taken_asks asks b n all = room_asks (has_room b n)
  where
    room_asks : (room : Bool) → AllAsk asks (cond room (record b { bytes = b.bytes + n }) b)
    room_asks true = all
    room_asks false = all

first_asks : (asks : Asks) (ids : List ℕ) (b : Base) → AllAsk asks b → AllAsk asks (first_ended ids b)
first_asks asks [] b all = all
first_asks asks (t ∷ ids) b all = release_asks asks b t (plain (code_of er.Dlt)) all

ends_ask : (asks : Asks) (left : ℕ) (order : Order) (object : ℕ) (b : Base) → AllAsk asks b → AllAsk asks (end_first left order object b)
unfolding end_first
ends_ask asks zero order object b all = all
ends_ask asks (suc left) order object b all = ends_ask asks left order object (first_ended (queue order b object) b) (first_asks asks (queue order b object) b all)

-- the others have asked for what they wait for still
pub ended_asks : (asks : Asks) (order : Order) (object : ℕ) (b : Base) → AllAsk asks b → AllAsk asks (end_waits order object b)
ended_asks asks order object b all = ends_ask asks (length (queue order b object)) order object b all

-- ---- the start

-- at the start nobody waits
pub start_asks : (asks : Asks) (priority : ℕ) → AllAsk asks (base_start priority)
start_asks asks priority =
    let slot : Option Task = Some (record { phase = Ready; queue = Fifo; base = priority; initial = priority; current = priority; wakeups = 0; suspensions = 0; stack = 1024 }) in
    entry_each (RowAsks asks) (replicate 256 None) 1 slot (entry_same (RowAsks asks 1) (replicate 256 None) 1 slot (λ object waits. absurd (cc waits)) (none_asks asks 1))
    (λ u apart. subst (RowAsks asks u) (sym (none_there 256 u)) (none_asks asks u))
