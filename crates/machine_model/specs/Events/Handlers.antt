-- Interrupts that become pending, and the starts of handlers.
use Rattle.std.specs.Prelude.{ℕ, ◌==◌, nat_lt, true, if◌then◌else◌, pos, List, [], ◌∷◌, drop, filter, fold, unwrap_or}
use Rattle.tk_types.specs.declared.line.HandlerKind.{HandlerKind}
use Rattle.tk_types.specs.declared.line.HandlerKind.TheVariants as handlers
use Rattle.tk_types.specs.declared.line.Hook.TheVariants as hooks
use Rattle.tk_types.specs.declared.line.Line.TheVariants as lines
use Rattle.tk_types.specs.declared.script.Script.{Script}
use Rattle.tk_types.specs.declared.task.Event.{Event as DueKind}
use Rattle.tk_types.specs.declared.task.Event.TheVariants as dues
use Rattle.kernel_model.specs.Words.Orders.{without}
use Rattle.kernel_model.specs.Tasks.Base.{set_flags}
use Rattle.kernel_model.specs.Bodies.Statements.{start_frame}
use Rattle.context_model.specs.Clocks.Tables.{body_of}
use Rattle.context_model.specs.Contexts.Tables.{handler_of}
use Rattle.machine_model.specs.States.State.{State, with_frame}
use Rattle.machine_model.specs.Events.Follow.{Event, hooked}

-- ---- interrupts

-- a number takes its place in a rising list, unless it stands there
unfoldable pub insert_once : ℕ → List ℕ → List ℕ
insert_once number [] = number ∷ []
insert_once number (first ∷ rest) =
    if number == first
    then first ∷ rest
    else (if nat_lt number first then number ∷ first ∷ rest else first ∷ insert_once number rest)

-- an interrupt becomes pending, once, where a handler is defined for it; else it is dropped
abbrev pub requested : State → ℕ → State
requested st number =
    if handler_of st.objects.contexts number == 0 then st else record st { pending = insert_once number st.pending }

-- the interrupts of a step become pending
unfoldable pub with_requests : Script → ℕ → State → State
with_requests script n st = fold (λ before irq. requested before irq.number) st (filter (λ irq. irq.step == n) script.irqs)

-- ---- starts

-- a handler starts, with its number in r1
unfoldable pub handler_begun : ℕ → State → HandlerKind → ℕ → ℕ → Event
handler_begun n st kind number body = record {
  state = record (with_frame st 0 (start_frame body (pos number) (pos 0))) { base = set_flags st.base (record st.base.flags { handler = true }) };
  lines = hooked st.hooks.int n (hooks.Handler kind number) (lines.Started n kind number);
}

-- the first handler that is due starts; the end of a wait is none
unfoldable pub due_begun : ℕ → State → DueKind → Event
due_begun n st (dues.Cyclic id) = handler_begun n st handlers.Cyclic id (unwrap_or (body_of st.objects.clocks (dues.Cyclic id)) 0)
due_begun n st (dues.Alarm id) = handler_begun n st handlers.Alarm id (unwrap_or (body_of st.objects.clocks (dues.Alarm id)) 0)
due_begun n st (dues.Wait t) = record { state = st; lines = [] }

-- the handlers that are due, without the first
abbrev pub first_taken : State → State
first_taken st = record st { due = drop 1 st.due }

-- the handler of a pending interrupt starts, and the interrupt is no longer pending
unfoldable pub interrupt_begun : ℕ → State → ℕ → Event
interrupt_begun n st number =
    handler_begun n (record st { pending = without number st.pending }) handlers.Interrupt number (handler_of st.objects.contexts number)
