-- What a tick makes: each event that is due is taken, and a cyclic handler is set again in its place. So no more events are set
-- than before, and as many are made as fell due, at most.
use Rattle.std.proofs.Common.{◌≡◌, ℕ, zero, suc, ◌+◌, ◌≤◌, Bool, true, false, cond, List, [], ◌∷◌, length, Option, Some, None, refl, ap, arith}
use Rattle.std.specs.Prelude.{nat_le}
use Rattle.tk_types.specs.declared.run.Mode.{Mode}
use Rattle.tk_types.specs.declared.task.DueEvent.{DueEvent}
use Rattle.tk_types.specs.declared.task.Event.{Event as DueKind}
use Rattle.kernel_model.specs.Words.Events.{due_event, left_after}
use Rattle.kernel_model.specs.Tasks.Base.{advance, take_due}
use Rattle.machine_model.specs.States.State.{State}
use Rattle.machine_model.specs.Events.Ticks.{due_done, fallen, tick_state}
use Rattle.count_lemmas.proofs.Few.{Few, few_making, larger_few}
use Rattle.count_lemmas.proofs.Events.{On, fallen_on}

taken_if : (first : DueEvent) (rest : List DueEvent) (what : DueKind) (test : Bool) → cond test (Some first.what) None ≡ Some what → length (cond test rest (first ∷ rest)) + 1 ≤ suc (length rest)
taken_if first rest what true is = omega arith
taken_if first rest what false is = absurd (cc is)

-- where an event is due, taking it leaves one less
pub one_taken : (now : ℕ) (events : List DueEvent) (what : DueKind) → due_event now events ≡ Some what → length (left_after now events) + 1 ≤ length events
one_taken now [] what is = absurd (cc is)
one_taken now (first ∷ rest) what is = taken_if first rest what (nat_le first.time now) is

-- one event that is due
pub turn_on : (n m k : ℕ) (T : ℕ → Type 0) (mode : Mode) (st : State) (what : DueKind) → due_event st.base.time st.base.events ≡ Some what → On (Few n m T) k st →
    On (Few (n + 1) m T) k (fallen mode (record st { base = take_due st.base }) what)
turn_on n m k T mode st what is on =
    let taken : State = record st { base = take_due st.base } in
    let rest : ℕ = length taken.base.events in
    let less : rest + 1 ≤ length st.base.events = one_taken st.base.time st.base.events what is in
    let before : On (Few n rest T) k taken = ((on.0.0, omega arith, on.0.2), on.1) in
    let after = fallen_on (Few n rest T) (Few (n + 1) (rest + 1) T) (few_making n rest T) k mode taken what before in
    (larger_few (n + 1) (rest + 1) (n + 1) m T (fallen mode taken what).base (omega arith) (omega (arith, less, on.0.1)) after.0, after.1)

larger_on : (n m more longer k : ℕ) (T : ℕ → Type 0) (st : State) → n ≤ more → m ≤ longer → On (Few n m T) k st → On (Few more longer T) k st
larger_on n m more longer k T st one other on = (larger_few n m more longer T st.base one other on.0, on.1)

next_on : (n m k left : ℕ) (T : ℕ → Type 0) (mode : Mode) (st : State) (next : Option DueKind) → due_event st.base.time st.base.events ≡ next → On (Few n m T) k st →
    ((after : State) → On (Few (n + 1) m T) k after → On (Few ((n + 1) + left) m T) k (due_done left mode after)) →
    On (Few (n + suc left) m T) k (elim next as (λ _. State) [ None ↦ st | Some what ↦ due_done left mode (fallen mode (record st { base = take_due st.base }) what) ])
next_on n m k left T mode st None is on rest = larger_on n m (n + suc left) m k T st (omega arith) (omega arith) on
next_on n m k left T mode st (Some what) is on rest =
    let after : State = fallen mode (record st { base = take_due st.base }) what in
    larger_on ((n + 1) + left) m (n + suc left) m k T (due_done left mode after) (omega arith) (omega arith) (rest after (turn_on n m k T mode st what is on))

-- all events that are due, at most so many
pub due_on : (n m k left : ℕ) (T : ℕ → Type 0) (mode : Mode) (st : State) → On (Few n m T) k st → On (Few (n + left) m T) k (due_done left mode st)
unfolding due_done
due_on n m k zero T mode st on = larger_on n m (n + zero) m k T st (omega arith) (omega arith) on
due_on n m k (suc left) T mode st on = next_on n m k left T mode st (due_event st.base.time st.base.events) refl on (λ after now. due_on (n + 1) m k left T mode after now)

-- a tick
pub tick_on : (n m k : ℕ) (T U : ℕ → Type 0) (mode : Mode) (st : State) → ((time : ℕ) → T time → U (time + 1)) → On (Few n m T) k st → On (Few (n + length st.base.events) m U) k (tick_state mode st)
tick_on n m k T U mode st later on = due_on n m k (length st.base.events) U mode (record st { base = advance st.base }) ((on.0.0, on.0.1, later st.base.time on.0.2), on.1)

-- ---- a tick, turn by turn

due_if : (left : ℕ) (mode : Mode) (st : State) (next : Option DueKind) (what : DueKind) → next ≡ Some what →
    (elim next as (λ _. State) [ None ↦ st | Some kind ↦ due_done left mode (fallen mode (record st { base = take_due st.base }) kind) ]) ≡ due_done left mode (fallen mode (record st { base = take_due st.base }) what)
due_if left mode st None what is = absurd (cc is)
due_if left mode st (Some kind) what is = let same : kind ≡ what = cc is in ap (λ which. due_done left mode (fallen mode (record st { base = take_due st.base }) which)) same

-- where an event is due it is done, and then the rest
pub due_turn : (left : ℕ) (mode : Mode) (st : State) (what : DueKind) → due_event st.base.time st.base.events ≡ Some what →
    due_done (suc left) mode st ≡ due_done left mode (fallen mode (record st { base = take_due st.base }) what)
unfolding due_done
due_turn left mode st what is = due_if left mode st (due_event st.base.time st.base.events) what is

none_if : (left : ℕ) (mode : Mode) (st : State) (next : Option DueKind) → next ≡ None → (elim next as (λ _. State) [ None ↦ st | Some kind ↦ due_done left mode (fallen mode (record st { base = take_due st.base }) kind) ]) ≡ st
none_if left mode st None is = refl
none_if left mode st (Some kind) is = absurd (cc is)

-- where none is due nothing is left to do
pub due_none : (left : ℕ) (mode : Mode) (st : State) → due_event st.base.time st.base.events ≡ None → due_done left mode st ≡ st
unfolding due_done
due_none zero mode st is = refl
due_none (suc left) mode st is = none_if left mode st (due_event st.base.time st.base.events) is
