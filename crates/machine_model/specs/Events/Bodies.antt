-- What calls mean for the bodies of the script: the starts of tasks, the services of extended calls, and their returns.
use Rattle.std.specs.Prelude.{ℕ, zero, suc, ◌==◌, false, not, if◌then◌else◌, ℤ, pos, [], filter, slice_set, slice_index}
use Rattle.std.specs.Ordering.{int_eq}
use Rattle.tk_types.specs.declared.answer.Answer.{Answer}
use Rattle.tk_types.specs.declared.call_name.CallName.TheVariants as names
use Rattle.tk_types.specs.declared.calls.Call.{Call}
use Rattle.tk_types.specs.declared.calls.Call.TheVariants as calls
use Rattle.tk_types.specs.declared.calls.TaskCall.{TaskCall}
use Rattle.tk_types.specs.declared.calls.TaskCall.TheVariants as tasks
use Rattle.tk_types.specs.declared.calls.TimeCall.{TimeCall}
use Rattle.tk_types.specs.declared.calls.TimeCall.TheVariants as times
use Rattle.tk_types.specs.declared.calls.ContextCall.{ContextCall}
use Rattle.tk_types.specs.declared.calls.ContextCall.TheVariants as contexts
use Rattle.tk_types.specs.declared.line.Hook.TheVariants as hooks
use Rattle.tk_types.specs.declared.line.Line.TheVariants as lines
use Rattle.tk_types.specs.declared.task.Event.TheVariants as dues
use Rattle.kernel_model.specs.Words.Orders.{without}
use Rattle.kernel_model.specs.Words.Checks.{natural, plain, within}
use Rattle.kernel_model.specs.Tasks.Base.{delete, set_flags}
use Rattle.kernel_model.specs.Bodies.Statements.{give, start_frame}
use Rattle.context_model.specs.Clocks.Tables.{is_event}
use Rattle.context_model.specs.Contexts.Tables.{depth_in, left}
use Rattle.machine_model.specs.States.State.{State, frame_of, save_place, saved_frame, with_frame}
use Rattle.machine_model.specs.Events.Follow.{Event, hooked}

-- ---- tasks

-- a created task gets its body; an error is no task
abbrev pub with_body : State → ℤ → ℕ → State
with_body st task body = if within 1 255 task then record st { bodies = slice_set st.bodies (natural task) body } else st

-- a started task is at the start of its body
abbrev pub with_start : State → ℤ → ℤ → State
with_start st task code =
    if within 0 255 task
    then with_frame st (natural task) (start_frame (slice_index st.bodies (natural task)) code (pos 0))
    else st

-- what follows for the bodies from a call on tasks that answered a value
abbrev pub begun : State → ℕ → TaskCall → ℤ → State
begun st t (tasks.CreTsk attributes body priority stack) value = with_body st value body
begun st t (tasks.StaTsk task code) value = if int_eq value (pos 0) then with_start st task code else st
begun st t tasks.ExdTsk value = record st { base = delete st.base t }
begun st t _ value = st

-- ---- handlers that are due, and interrupts that are pending

-- a handler that is deleted doesn't start any more, though it was due
abbrev pub withdrawn : State → TimeCall → State
withdrawn st (times.DelCyc id) = record st { due = filter (λ what. not (is_event (dues.Cyclic (natural id)) what)) st.due }
withdrawn st (times.DelAlm id) = record st { due = filter (λ what. not (is_event (dues.Alarm (natural id)) what)) st.due }
withdrawn st _ = st

-- an interrupt whose handler is taken away is no longer pending
abbrev pub undefined : State → ContextCall → State
undefined st (contexts.DefInt number zero) = record st { pending = without (natural number) st.pending }
undefined st _ = st

-- what follows from a call that answered a value, beyond the parts of the kernel
abbrev pub noted : State → ℕ → Call → ℤ → State
noted st t (calls.Task call) value = begun st t call value
noted st t (calls.Time call) value = if int_eq value (pos 0) then withdrawn st call else st
noted st t (calls.Context call) value = if int_eq value (pos 0) then undefined st call else st
noted st t _ value = st

-- ---- services

-- the argument of an extended call
abbrev pub service_value : Call → ℤ
service_value (calls.Context (contexts.Svc number value)) = value
service_value _ = pos 0

-- a service begins in the frame of its task, whose own frame is saved; the nesting counts already
unfoldable pub entered : State → ℕ → ℕ → ℤ → State
entered st t body value = record st {
  frames = slice_set st.frames t (start_frame body value (pos t));
  saved = slice_set st.saved (save_place t (depth_in st.objects.contexts t)) (frame_of st t);
}

-- a service returns a value: the frame that called it goes on, with the value as the answer of its call
unfoldable pub returned : ℕ → State → ℕ → ℤ → Event
returned n st t value = record {
  state = record (with_frame st t (give (saved_frame st t) (plain value))) { objects = record st.objects { contexts = left st.objects.contexts t false } };
  lines = hooked st.hooks.svc n (hooks.Service t names.Svc) (lines.Returned n t names.Svc (plain value));
}

-- ---- handlers

-- the handler that runs has ended
abbrev pub handler_ended : State → State
handler_ended st = record st { base = set_flags st.base (record st.base.flags { handler = false }) }

-- a body returns: a handler ends, and a service goes back to its caller. No task's body has a `return`
unfoldable pub body_returned : ℕ → State → ℕ → ℤ → Event
body_returned n st zero value = record { state = handler_ended st; lines = [] }
body_returned n st (suc t) value =
    if depth_in st.objects.contexts (suc t) == 0
    then record { state = st; lines = [] }
    else returned n st (suc t) value
