-- A call of a task or of the running handler, and what follows from it.
use Rattle.std.specs.Prelude.{ℕ, zero, suc, Bool, true, ◌==◌, if◌then◌else◌, ℤ, pos, List, [], ◌∷◌}
use Rattle.std.specs.Ordering.{int_eq}
use Rattle.tk_types.specs.declared.answer.Outcome.{Outcome}
use Rattle.tk_types.specs.declared.answer.Outcome.TheVariants.{Returned, Blocked, Entered}
use Rattle.tk_types.specs.declared.calls.Call.{Call}
use Rattle.tk_types.specs.declared.calls.Call.TheVariants as calls
use Rattle.tk_types.specs.declared.calls.TaskCall.{TaskCall}
use Rattle.tk_types.specs.declared.calls.TaskCall.TheVariants.{ExtTsk, ExdTsk, TerTsk}
use Rattle.tk_types.specs.declared.call_name.CallName.{CallName}
use Rattle.tk_types.specs.declared.run.Mode.{Mode}
use Rattle.tk_types.specs.declared.line.Hook.TheVariants as hooks
use Rattle.tk_types.specs.declared.line.Line.{Line}
use Rattle.tk_types.specs.declared.line.Line.TheVariants as lines
use Rattle.tk_types.specs.Calls.{name_of}
use Rattle.kernel_model.specs.Words.Checks.{natural}
use Rattle.kernel_model.specs.Tasks.Calls.{TaskDone}
use Rattle.kernel_model.specs.SemFlags.Calls.{SemFlagDone, sem_flag_call}
use Rattle.kernel_model.specs.Bodies.Statements.{give}
use Rattle.object_model.specs.Mutexes.Calls.{MutexDone, mutex_call, task_call_beside}
use Rattle.object_model.specs.Mails.Calls.{MailDone, mail_call}
use Rattle.object_model.specs.Pools.Calls.{PoolDone, pool_call}
use Rattle.context_model.specs.Clocks.Calls.{TimeDone, time_call}
use Rattle.context_model.specs.Contexts.Tables.{left}
use Rattle.context_model.specs.Contexts.Calls.{ContextDone, context_call}
use Rattle.context_model.specs.Hooks.Tables.{Views}
use Rattle.context_model.specs.Hooks.Calls.{HookDone, hook_call}
use Rattle.device_model.specs.Devices.Calls.{DevDone, device_call}
use Rattle.machine_model.specs.States.Objects.{dev_parts, mail_parts, pool_parts, with_devices}
use Rattle.machine_model.specs.States.State.{State, frame_of, parts_of, who_of, with_frame, with_parts}
use Rattle.machine_model.specs.Events.Settle.{freed}
use Rattle.machine_model.specs.Events.Follow.{Event, hooked}
use Rattle.machine_model.specs.Events.Bodies.{entered, noted, service_value}

-- a state, and what became of a call
pub record CallDone : Type 0 where
  pub state : State
  pub outcome : Outcome

-- ---- what the call of a family leaves, as a state

abbrev pub after_task_call : State → TaskDone → CallDone
after_task_call st done = record { state = record st { base = done.base }; outcome = done.outcome }

abbrev pub after_sem_flag_call : State → SemFlagDone → CallDone
after_sem_flag_call st done = record { state = record st { base = done.base; objects = record st.objects { sem_flags = done.table } }; outcome = done.outcome }

abbrev pub after_mutex_call : State → MutexDone → CallDone
after_mutex_call st done = record { state = record st { base = done.base; objects = record st.objects { mutexes = done.table } }; outcome = done.outcome }

abbrev pub after_mail_call : State → MailDone → CallDone
after_mail_call st done = record { state = record st { base = done.base; objects = record st.objects { mails = done.table }; memory = done.memory }; outcome = done.outcome }

abbrev pub after_pool_call : State → PoolDone → CallDone
after_pool_call st done = record { state = record st { base = done.base; objects = record st.objects { pools = done.table } }; outcome = done.outcome }

abbrev pub after_time_call : State → TimeDone → CallDone
after_time_call st done = record { state = record st { base = done.base; objects = record st.objects { clocks = done.table } }; outcome = done.outcome }

abbrev pub after_context_call : State → ContextDone → CallDone
after_context_call st done = record { state = record st { base = done.base; objects = record st.objects { contexts = done.table } }; outcome = done.outcome }

abbrev pub after_device_call : State → DevDone → CallDone
after_device_call st done = record { state = with_parts st (with_devices (parts_of st) done.parts); outcome = done.outcome }

abbrev pub after_hook_call : State → HookDone → CallDone
after_hook_call st done = record { state = record st { hooks = done.hooks; memory = done.memory }; outcome = done.outcome }

-- what the calls that list objects and queues look at
abbrev pub views_of : State → Views
views_of st = record {
  base = st.base;
  sem_flags = st.objects.sem_flags;
  mutexes = st.objects.mutexes;
  mails = st.objects.mails;
  pools = st.objects.pools;
  clocks = st.objects.clocks;
  contexts = st.objects.contexts;
}

-- a call of a family, by its row. The caller is the running handler where its number is 0
unfoldable pub family_call : State → ℕ → Call → CallDone
family_call st t (calls.Task call) = after_task_call st (task_call_beside st.base st.objects.mutexes (who_of t) call)
family_call st t (calls.SemFlag call) = after_sem_flag_call st (sem_flag_call st.base st.objects.sem_flags (who_of t) call)
family_call st t (calls.Mutex call) = after_mutex_call st (mutex_call st.base st.objects.mutexes (who_of t) call)
family_call st t (calls.Mail call) = after_mail_call st (mail_call (mail_parts (parts_of st)) (who_of t) call)
family_call st t (calls.Pool call) = after_pool_call st (pool_call (pool_parts (parts_of st)) (who_of t) call)
family_call st t (calls.Time call) = after_time_call st (time_call st.base st.objects.clocks call)
family_call st t (calls.Context call) = after_context_call st (context_call st.base st.objects.contexts (who_of t) call)
family_call st t (calls.Device call) = after_device_call st (device_call (dev_parts (parts_of st)) (who_of t) call)
family_call st t (calls.Hook call) = after_hook_call st (hook_call (views_of st) st.hooks st.memory (who_of t) call)

-- ---- tasks that ended

-- the task that a call on tasks ends, or 0
abbrev pub ended_in : ℕ → TaskCall → ℕ
ended_in t ExtTsk = t
ended_in t ExdTsk = t
ended_in t (TerTsk task) = natural task
ended_in t _ = 0

-- the task that a call which answered a value has ended, or 0
abbrev pub ended_by : ℕ → Call → Outcome → ℕ
ended_by t (calls.Task call) (Returned result) = if int_eq result.value (pos 0) then ended_in t call else 0
ended_by t _ _ = 0

-- a task that ended leaves all its services, and frees its mutexes, each followed by settling
abbrev pub without_holdings : Mode → State → ℕ → State
without_holdings mode st zero = st
without_holdings mode st (suc t) =
    with_parts st (freed mode (suc t) (record (parts_of st) { objects = record st.objects { contexts = left st.objects.contexts (suc t) true } }))

abbrev pub with_ended : Mode → ℕ → Call → CallDone → CallDone
with_ended mode t call done = record done { state = without_holdings mode done.state (ended_by t call done.outcome) }

-- ---- what becomes of a call

-- an answer goes into the registers of the caller; an extended call begins its service
unfoldable pub answered : State → ℕ → Call → Outcome → State
answered st t call (Returned result) = noted (with_frame st t (give (frame_of st t) result)) t call result.value
answered st t call Blocked = st
answered st t call (Entered body) = entered st t body (service_value call)

-- the line of a call: it returned, or its task waits; the entry of an extended call has none
abbrev pub call_lines : Bool → ℕ → ℕ → CallName → Outcome → List Line
call_lines hook n t name (Returned result) = hooked hook n (hooks.Service t name) (lines.Returned n t name result)
call_lines hook n t name Blocked = hooked hook n (hooks.Service t name) (lines.Blocked n t name)
call_lines hook n t name (Entered body) = []

abbrev pub after_call : Bool → ℕ → ℕ → Call → CallDone → Event
after_call hook n t call done = record { state = answered done.state t call done.outcome; lines = call_lines hook n t (name_of call) done.outcome }

-- a task or the running handler makes a call. The hook that was set before it decides on its line
unfoldable pub called : Mode → ℕ → State → ℕ → Call → Event
called mode n st t call = after_call st.hooks.svc n t call (with_ended mode t call (family_call st t call))
