-- What the kernel keeps of tasks, and the moves on it. All else in the kernel is made of these moves.
--
-- `order` and `since` stand for stamps: a task takes the last place of `order` when it becomes READY, when it
-- begins a wait, and when its current priority changes, and of `since` when it begins a wait. Only which task
-- is earlier counts, so no numbers are kept. A preempted task keeps its place.
use Rattle.std.specs.Prelude.{ℕ, ◌+◌, ◌-◌, Bool, true, false, not, ◌==◌, ◌&&◌, nat_le, if◌then◌else◌, ℤ, pos, negsuc, List, [], ◌∷◌, ◌++◌, Option, Some, None, filter, replicate, slice_set, drop}
use Rattle.tk_types.specs.declared.task.Task.{Task}
use Rattle.tk_types.specs.declared.task.Phase.{Phase}
use Rattle.tk_types.specs.declared.task.Phase.TheVariants.{Dormant, Ready, Waiting}
use Rattle.tk_types.specs.declared.task.Order.{Order}
use Rattle.tk_types.specs.declared.task.Order.TheVariants.{Fifo, Priority}
use Rattle.tk_types.specs.declared.task.Event.{Event}
use Rattle.tk_types.specs.declared.task.Event.TheVariants.{Wait}
use Rattle.tk_types.specs.declared.task.DueEvent.{DueEvent}
use Rattle.tk_types.specs.declared.task.Flags.{Flags}
use Rattle.tk_types.specs.declared.task.Release.{Release}
use Rattle.tk_types.specs.declared.answer.Answer.{Answer}
use Rattle.kernel_model.specs.Words.Orders.{entry, free_from, without, to_back, sort_by, head_or_zero}
use Rattle.kernel_model.specs.Words.Events.{insert_event, without_wait, without_key, left_after}

pub record Base : Type 0 where
  pub tasks : List (Option Task)  -- by ID, 256 slots
  pub order : List ℕ  -- the tasks that exist, by stamp, the earliest first
  pub since : List ℕ  -- the same tasks, by the beginning of their last wait
  pub events : List DueEvent  -- what is set for a time, by that time and then by order of making
  pub made : ℕ  -- events made so far
  pub time : ℕ  -- the operating time: ticks so far
  pub cur : Option ℕ  -- the current task, 0 for idle, or none where it is gone
  pub flags : Flags  -- what delays dispatching
  pub bytes : ℕ  -- simulated system memory that is taken
  pub released : List Release  -- the waits that ended in this event, in order, and that weren't taken yet

-- the most bytes of simulated system memory
abbrev pub memory_limit : ℕ
memory_limit = 1048576

-- ---- reading

abbrev pub task_at : Base → ℕ → Option Task
task_at b t = entry b.tasks t

abbrev pub is_ready_phase : Phase → Bool
is_ready_phase Ready = true
is_ready_phase _ = false

abbrev pub is_dormant_phase : Phase → Bool
is_dormant_phase Dormant = true
is_dormant_phase _ = false

abbrev pub is_waiting_phase : Phase → Bool
is_waiting_phase (Waiting object) = true
is_waiting_phase _ = false

abbrev pub waits_in : ℕ → Phase → Bool
waits_in object (Waiting other) = other == object
waits_in object _ = false

-- a task that may run: ready and not suspended
abbrev pub may_run : Option Task → Bool
may_run None = false
may_run (Some k) = is_ready_phase k.phase && k.suspensions == 0

abbrev pub is_ready : Base → ℕ → Bool
is_ready b t = may_run (task_at b t)

abbrev pub current_in : Option Task → ℕ
current_in None = 0
current_in (Some k) = k.current

-- the current priority
abbrev pub current : Base → ℕ → ℕ
current b t = current_in (task_at b t)

abbrev pub base_in : Option Task → ℕ
base_in None = 0
base_in (Some k) = k.base

-- the base priority
abbrev pub base_of : Base → ℕ → ℕ
base_of b t = base_in (task_at b t)

abbrev pub initial_in : Option Task → ℕ
initial_in None = 0
initial_in (Some k) = k.initial

abbrev pub initial_of : Base → ℕ → ℕ
initial_of b t = initial_in (task_at b t)

abbrev pub dormant_in : Option Task → Bool
dormant_in None = false
dormant_in (Some k) = is_dormant_phase k.phase

abbrev pub is_dormant : Base → ℕ → Bool
is_dormant b t = dormant_in (task_at b t)

abbrev pub waits_somewhere : Option Task → Bool
waits_somewhere None = false
waits_somewhere (Some k) = is_waiting_phase k.phase

-- whether a task waits
abbrev pub is_waiting : Base → ℕ → Bool
is_waiting b t = waits_somewhere (task_at b t)

abbrev pub waiting_in : ℕ → Option Task → Bool
waiting_in object None = false
waiting_in object (Some k) = waits_in object k.phase

-- whether a task waits for an object
abbrev pub waits_for : Base → ℕ → ℕ → Bool
waits_for b object t = waiting_in object (task_at b t)

abbrev pub wakeups_in : Option Task → ℕ
wakeups_in None = 0
wakeups_in (Some k) = k.wakeups

abbrev pub wakeups_of : Base → ℕ → ℕ
wakeups_of b t = wakeups_in (task_at b t)

abbrev pub suspensions_in : Option Task → ℕ
suspensions_in None = 0
suspensions_in (Some k) = k.suspensions

abbrev pub suspensions_of : Base → ℕ → ℕ
suspensions_of b t = suspensions_in (task_at b t)

abbrev pub stack_in : Option Task → ℕ
stack_in None = 0
stack_in (Some k) = k.stack

-- the tasks of an order that may run by a table, by current priority and then by precedence
abbrev pub ready_in : List (Option Task) → List ℕ → List ℕ
ready_in tasks order = sort_by (λ t. current_in (entry tasks t)) (filter (λ t. may_run (entry tasks t)) order)

-- the tasks that may run, by current priority and then by precedence
abbrev pub ready_list : Base → List ℕ
ready_list b = ready_in b.tasks b.order

-- the task that dispatching chooses, or 0 where none is ready
unfoldable pub chosen : Base → ℕ
chosen b = head_or_zero (ready_list b)

abbrev pub is_ready_with : Base → ℕ → ℕ → Bool
is_ready_with b priority t = is_ready b t && current b t == priority

-- the ready tasks of one priority, the one of the highest precedence first
abbrev pub ready_of : Base → ℕ → List ℕ
ready_of b priority = filter (is_ready_with b priority) b.order

-- the least free task ID, or 0
unfoldable pub free_task : Base → ℕ
free_task b = free_from 1 (drop 1 b.tasks)

-- whether that many bytes of simulated memory are left
abbrev pub has_room : Base → ℕ → Bool
has_room b n = nat_le (b.bytes + n) memory_limit

-- ---- the queue of an object

-- the tasks that wait for an object, by the beginning of their waits
abbrev pub fifo_queue : Base → ℕ → List ℕ
fifo_queue b object = filter (waits_for b object) b.since

-- the same by current priority and then by stamp
abbrev pub priority_queue : Base → ℕ → List ℕ
priority_queue b object = sort_by (current b) (filter (waits_for b object) b.order)

-- the waiters of an object in the order that its attribute says
abbrev pub queue : Order → Base → ℕ → List ℕ
queue Fifo b object = fifo_queue b object
queue Priority b object = priority_queue b object

-- ---- moves, each total: on a task that doesn't exist they change nothing

abbrev pub with_entry : Option Task → Base → (Task → Base) → Base
with_entry None b f = b
with_entry (Some k) b f = f k

abbrev pub with_task : Base → ℕ → Task → Base
with_task b t k = record b { tasks = slice_set b.tasks t (Some k) }

-- the current task is gone where it is this one
abbrev pub gone : ℕ → Option ℕ → Option ℕ
gone t None = None
gone t (Some other) = if other == t then None else Some other

-- an event is made for a time
abbrev pub add_event : Base → ℕ → Event → Base
add_event b due what = record b {
  events = insert_event (record { time = due; key = b.made; what = what }) b.events;
  made = b.made + 1;
}

-- the event with a key is taken back
abbrev pub cancel_event : Base → ℕ → Base
cancel_event b key = record b { events = without_key key b.events }

-- the end of a task's wait is no longer set for a time
abbrev pub drop_wait : Base → ℕ → Base
drop_wait b t = record b { events = without_wait t b.events }

-- the first event that is due is taken
abbrev pub take_due : Base → Base
take_due b = record b { events = left_after b.time b.events }

-- a wait of n milliseconds that begins now ends in the tick that makes the time n + 1 later; a negative limit is none
abbrev pub limited : ℤ → ℕ → Base → Base
limited (pos n) t b = add_event b (b.time + n + 1) (Wait t)
limited (negsuc n) t b = b

-- a new task, DORMANT; its stack's bytes were taken before
abbrev pub create : Base → ℕ → ℕ → ℕ → Base
create b t priority stack = record b {
  tasks = slice_set b.tasks t (Some (record { phase = Dormant; queue = Fifo; base = priority; initial = priority; current = priority; wakeups = 0; suspensions = 0; stack = stack }));
  order = to_back t b.order;
  since = to_back t b.since;
}

-- a task's ID is free again, and its stack's bytes are given back
abbrev pub delete : Base → ℕ → Base
delete b t = with_entry (task_at b t) b (λ k. record b {
  tasks = slice_set b.tasks t None;
  order = without t b.order;
  since = without t b.since;
  bytes = b.bytes - k.stack;
})

-- a task becomes READY, the last among its equals
abbrev pub make_ready : Base → ℕ → Base
make_ready b t = with_entry (task_at b t) b (λ k. record (with_task b t (record k { phase = Ready })) { order = to_back t b.order })

-- a task begins to wait for an object
abbrev pub make_wait : Base → ℕ → ℕ → Order → ℤ → Base
make_wait b t object order timeout = with_entry (task_at b t) b (λ k. limited timeout t (record (with_task (drop_wait b t) t (record k { phase = Waiting object; queue = order })) {
  order = to_back t b.order;
  since = to_back t b.since;
  cur = gone t b.cur;
}))

-- a task that waits waits for another object from now on, without a limit
abbrev pub move_wait : Base → ℕ → ℕ → Order → Base
move_wait b t object order = with_entry (task_at b t) b (λ k.
    if is_waiting_phase k.phase then with_task (drop_wait b t) t (record k { phase = Waiting object; queue = order }) else b)

-- the last place, for a task that becomes READY: one that is suspended stays where it is
abbrev pub back_unless_suspended : ℕ → ℕ → List ℕ → List ℕ
back_unless_suspended t suspensions order = if suspensions == 0 then to_back t order else order

-- the end of a wait is recorded behind those that weren't taken yet; a task has one record at most
abbrev pub recorded : ℕ → Answer → List Release → List Release
recorded t result released = filter (λ release. not (release.task == t)) released ++ record { task = t; answer = result } ∷ []

-- a task's wait ends with an answer: it becomes READY, the last among its equals, or stays suspended
abbrev pub release : Base → ℕ → Answer → Base
release b t result = with_entry (task_at b t) b (λ k.
    if is_waiting_phase k.phase then record (with_task (drop_wait b t) t (record k { phase = Ready })) {
      order = back_unless_suspended t k.suspensions b.order;
      released = recorded t result b.released;
    } else b)

-- a task ends: its wait is dropped, its counts are cleared, and its priorities are those of its creation
abbrev pub make_dormant : Base → ℕ → Base
make_dormant b t = with_entry (task_at b t) b (λ k. record (with_task (drop_wait b t) t (record k { phase = Dormant; base = k.initial; current = k.initial; wakeups = 0; suspensions = 0 })) {
  cur = gone t b.cur;
})

-- a task is suspended once more
abbrev pub suspend : Base → ℕ → Base
suspend b t = with_entry (task_at b t) b (λ k. record (with_task b t (record k { suspensions = k.suspensions + 1 })) { cur = gone t b.cur })

abbrev pub becomes_ready : Phase → ℕ → Bool
becomes_ready phase suspensions = is_ready_phase phase && suspensions == 0

abbrev pub resumed : Base → ℕ → ℕ → Task → Base
resumed b t left k = record (with_task b t (record k { suspensions = left })) {
  order = if becomes_ready k.phase left then to_back t b.order else b.order;
}

-- one suspension of a task is taken off, or all; without one left it becomes READY, the last among its equals, or
-- goes on waiting. A task that isn't suspended is left as it is
abbrev pub resume : Base → ℕ → Bool → Base
resume b t all = with_entry (task_at b t) b (λ k.
    if k.suspensions == 0 then b else resumed b t (if all then 0 else k.suspensions - 1) k)

-- a task's base priority changes
abbrev pub set_base : Base → ℕ → ℕ → Base
set_base b t priority = with_entry (task_at b t) b (λ k. with_task b t (record k { base = priority }))

-- a task's current priority changes: it is the last among its equals
abbrev pub set_current : Base → ℕ → ℕ → Base
set_current b t priority = with_entry (task_at b t) b (λ k. record (with_task b t (record k { current = priority })) { order = to_back t b.order })

abbrev pub set_wakeups : Base → ℕ → ℕ → Base
set_wakeups b t n = with_entry (task_at b t) b (λ k. with_task b t (record k { wakeups = n }))

abbrev pub back_if_any : List ℕ → List ℕ → List ℕ
back_if_any [] order = order
back_if_any (t ∷ ts) order = to_back t order

-- the first ready task of a priority becomes the last of it
abbrev pub rotate : Base → ℕ → Base
rotate b priority = record b { order = back_if_any (ready_of b priority) b.order }

abbrev pub take_bytes : Base → ℕ → Base
take_bytes b n = if has_room b n then record b { bytes = b.bytes + n } else b

abbrev pub give_bytes : Base → ℕ → Base
give_bytes b n = record b { bytes = b.bytes - n }

-- the time grows by one
abbrev pub advance : Base → Base
advance b = record b { time = b.time + 1 }

abbrev pub set_flags : Base → Flags → Base
set_flags b flags = record b { flags = flags }

-- the chosen task becomes the current one
abbrev pub dispatch : Base → Base
dispatch b = record b { cur = Some (chosen b) }

-- the earliest end of a wait that wasn't taken yet is taken
abbrev pub take_release : Base → Base
take_release b = record b { released = drop 1 b.released }

abbrev pub no_flags : Flags
no_flags = record { dispatch_off = false; di = false; handler = false }

-- the start: task 1 is READY with the boot priority, and its stack takes 1,024 bytes
abbrev pub base_start : ℕ → Base
base_start priority = record {
  tasks = slice_set (replicate 256 None) 1 (Some (record { phase = Ready; queue = Fifo; base = priority; initial = priority; current = priority; wakeups = 0; suspensions = 0; stack = 1024 }));
  order = 1 ∷ [];
  since = 1 ∷ [];
  events = [];
  made = 0;
  time = 0;
  cur = None;
  flags = no_flags;
  bytes = 1024;
  released = [];
}
