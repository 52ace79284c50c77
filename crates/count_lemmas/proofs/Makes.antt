-- What each event makes, from the base before it to the base behind it.
use Rattle.std.proofs.Common.{◌≡◌, ℕ, ◌+◌, length, Some, refl, ap, arith}
use Rattle.tk_types.specs.declared.calls.Call.{Call}
use Rattle.tk_types.specs.declared.run.Act.{Act}
use Rattle.tk_types.specs.declared.run.Mode.{Mode}
use Rattle.tk_types.specs.declared.script.Script.{Script}
use Rattle.tk_types.specs.declared.task.Event.{Event as DueKind}
use Rattle.kernel_model.specs.Words.Events.{due_event}
use Rattle.kernel_model.specs.Tasks.Base.{Base, take_due}
use Rattle.machine_model.specs.States.Objects.{Parts}
use Rattle.machine_model.specs.States.State.{State}
use Rattle.machine_model.specs.Events.Settle.{freed, settle}
use Rattle.machine_model.specs.Events.Follow.{followed}
use Rattle.machine_model.specs.Events.Calls.{called, family_call}
use Rattle.machine_model.specs.Events.Handlers.{due_begun, interrupt_begun}
use Rattle.machine_model.specs.Events.Ticks.{due_done, fallen, tick}
use Rattle.machine_model.specs.Runs.Turns.{acted, ran}
use Rattle.count_lemmas.specs.Counts.{Makes}
use Rattle.count_lemmas.proofs.Making.{IsMaking, IsQuiet}
use Rattle.count_lemmas.proofs.Few.{Few, few_making, few_quiet}
use Rattle.count_lemmas.proofs.Settled.{freed_quiet, settle_quiet}
use Rattle.count_lemmas.proofs.Events.{On, acted_on, called_on, due_begun_on, family_on, followed_on, interrupt_begun_on, ran_on}
use Rattle.count_lemmas.proofs.Ticks.{due_on, tick_on, turn_on}

-- ---- the bounds that a base has by itself

abbrev At : ℕ → ℕ → Type 0
At before now = now ≡ before

abbrev Own : Base → Base → Type 0
Own b = Few b.made (length b.events) (At b.time)

abbrev OneMore : Base → Base → Type 0
OneMore b = Few (b.made + 1) (length b.events + 1) (At b.time)

own : (b : Base) → Own b b
own b = (omega arith, omega arith, refl)

own_on : (st : State) → On (Own st.base) st.ticks st
own_on st = (own st.base, omega arith)

own_quiet : (b : Base) → IsQuiet (Own b)
own_quiet b = few_quiet b.made (length b.events) (At b.time)

own_making : (b : Base) → IsMaking (Own b) (OneMore b)
own_making b = few_making b.made (length b.events) (At b.time)

more_quiet : (b : Base) → IsQuiet (OneMore b)
more_quiet b = few_quiet (b.made + 1) (length b.events + 1) (At b.time)

none_made : (b c : Base) → Own b c → Makes 0 0 0 b c
none_made b c is = record { made = omega (arith, is.0); events = omega (arith, is.1); time = omega (arith, is.2) }

one_made : (b c : Base) → OneMore b c → Makes 1 1 0 b c
one_made b c is = record { made = is.0; events = is.1; time = omega (arith, is.2) }

-- what one event makes and what the next one does, together
pub makes_then : (i j d more longer later : ℕ) (a b c : Base) → Makes i j d a b → Makes more longer later b c → Makes (i + more) (j + longer) (d + later) a c
makes_then i j d more longer later a b c one other = record {
  made = omega (arith, one.made, other.made);
  events = omega (arith, one.events, other.events);
  time = omega (arith, one.time, other.time);
}

-- ---- calls

-- a call of any family makes one event at most
pub call_makes : (st : State) (t : ℕ) (c : Call) → Makes 1 1 0 st.base (family_call st t c).state.base
call_makes st t c = one_made st.base (family_call st t c).state.base (family_on (Own st.base) (OneMore st.base) (own_making st.base) st.ticks st t c (own_on st)).0

-- so does all that becomes of it
pub called_makes : (mode : Mode) (n : ℕ) (st : State) (t : ℕ) (c : Call) → Makes 1 1 0 st.base (called mode n st t c).state.base
called_makes mode n st t c =
    one_made st.base (called mode n st t c).state.base (called_on (Own st.base) (OneMore st.base) (own_making st.base) (more_quiet st.base) st.ticks mode n st t c (own_on st)).0

-- and what a statement asked for
pub acted_makes : (mode : Mode) (n : ℕ) (st : State) (t : ℕ) (act : Act) → Makes 1 1 0 st.base (acted mode n st t act).state.base
acted_makes mode n st t act =
    one_made st.base (acted mode n st t act).state.base (acted_on (Own st.base) (OneMore st.base) (own_making st.base) (more_quiet st.base) st.ticks mode n st t act (own_on st)).0

-- and the statement
pub ran_makes : (script : Script) (mode : Mode) (n : ℕ) (st : State) (t : ℕ) → Makes 1 1 0 st.base (ran script mode n st t).state.base
ran_makes script mode n st t =
    one_made st.base (ran script mode n st t).state.base (ran_on (Own st.base) (OneMore st.base) (own_making st.base) (more_quiet st.base) st.ticks script mode n st t (own_on st)).0

-- ---- what follows, and starts of handlers

-- settling makes no event
pub settle_makes : (mode : Mode) (p : Parts) → Makes 0 0 0 p.base (settle mode p).base
settle_makes mode p = none_made p.base (settle mode p).base (settle_quiet (Own p.base) (own_quiet p.base) mode p (own p.base))

-- nor do the mutexes that a task frees which ended
pub freed_makes : (mode : Mode) (t : ℕ) (p : Parts) → Makes 0 0 0 p.base (freed mode t p).base
freed_makes mode t p = none_made p.base (freed mode t p).base (freed_quiet (Own p.base) (own_quiet p.base) 64 mode t p (own p.base))

-- nor what follows an event
pub followed_makes : (script : Script) (mode : Mode) (n : ℕ) (st : State) → Makes 0 0 0 st.base (followed script mode n st).state.base
followed_makes script mode n st = none_made st.base (followed script mode n st).state.base (followed_on (Own st.base) (own_quiet st.base) st.ticks script mode n st (own_on st)).0

-- nor the start of a handler that is due
pub due_begun_makes : (n : ℕ) (st : State) (what : DueKind) → Makes 0 0 0 st.base (due_begun n st what).state.base
due_begun_makes n st what = none_made st.base (due_begun n st what).state.base (due_begun_on (Own st.base) (own_quiet st.base) st.ticks n st what (own_on st)).0

-- nor that of an interrupt's
pub interrupt_begun_makes : (n : ℕ) (st : State) (number : ℕ) → Makes 0 0 0 st.base (interrupt_begun n st number).state.base
interrupt_begun_makes n st number = none_made st.base (interrupt_begun n st number).state.base (interrupt_begun_on (Own st.base) (own_quiet st.base) st.ticks n st number (own_on st)).0

-- ---- ticks

-- one event that is due is taken: one is made at most, and no more are set than before it was taken
pub fallen_makes : (mode : Mode) (st : State) (what : DueKind) → due_event st.base.time st.base.events ≡ Some what → Makes 1 0 0 st.base (fallen mode (record st { base = take_due st.base }) what).base
fallen_makes mode st what is =
    let after = turn_on st.base.made (length st.base.events) st.ticks (At st.base.time) mode st what is (own_on st) in
    record { made = after.0.0; events = omega (arith, after.0.1); time = omega (arith, after.0.2) }

-- so after so many turns
pub due_makes : (turns : ℕ) (mode : Mode) (st : State) → Makes turns 0 0 st.base (due_done turns mode st).base
due_makes turns mode st =
    let after = due_on st.base.made (length st.base.events) st.ticks turns (At st.base.time) mode st (own_on st) in
    record { made = after.0.0; events = omega (arith, after.0.1); time = omega (arith, after.0.2) }

-- a tick makes no more events than are set
pub tick_makes : (mode : Mode) (n : ℕ) (st : State) → Makes (length st.base.events) 0 1 st.base (tick mode n st).state.base
unfolding tick
tick_makes mode n st =
    let after = tick_on st.base.made (length st.base.events) st.ticks (At st.base.time) (At (st.base.time + 1)) mode st (λ now is. ap (λ time. time + 1) is) (own_on st) in
    record { made = after.0.0; events = omega (arith, after.0.1); time = after.0.2 }
