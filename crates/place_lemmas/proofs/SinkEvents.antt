-- Through ticks, handlers, endings, mutexes that others free, and whole steps that are no body's turn, the priority of a ready task
-- only sinks, and where it doesn't the task keeps its place.
use Rattle.std.proofs.Common.{◌≡◌, ℕ, zero, suc, ◌+◌, ◌-◌, ◌≤◌, length, true, [], Option, Some, None, refl, ◌∙◌, ap, sym, subst, arith}
use Rattle.std.specs.Prelude.{drop}
use Rattle.std.specs.Option.{option_map}
use Rattle.tk_types.specs.declared.run.Mode.{Mode}
use Rattle.tk_types.specs.declared.script.Script.{Script}
use Rattle.tk_types.specs.declared.task.Event.{Event as DueKind}
use Rattle.tk_types.specs.declared.task.Event.TheVariants as dues
use Rattle.tk_types.specs.declared.task.Flags.{Flags}
use Rattle.kernel_model.specs.LawWords.Precedence.{KeepsPlace}
use Rattle.kernel_model.specs.Words.Events.{due_event}
use Rattle.kernel_model.specs.Tasks.Base.{Base, advance, current, is_ready, set_flags, take_due}
use Rattle.object_model.specs.Mutexes.Priority.{current_of}
use Rattle.object_model.specs.Mutexes.Tables.{mutex_at}
use Rattle.context_model.specs.declared.cyclic_row.CyclicRow.{CyclicRow}
use Rattle.context_model.specs.Clocks.Tables.{Clocks, again, again_in, cyclic_at}
use Rattle.device_model.specs.declared.messages.Ending.{Ending}
use Rattle.device_model.specs.Devices.Endings.{DevParts, arrive}
use Rattle.device_lemmas.proofs.Walk as devices
use Rattle.call_walk.proofs.DeviceCalls.{arrive_base}
use Rattle.machine_model.specs.declared.turns.Turn.{Turn}
use Rattle.machine_model.specs.declared.turns.Turn.TheVariants as turns
use Rattle.machine_model.specs.States.Objects.{Parts, dev_parts, with_devices}
use Rattle.machine_model.specs.States.State.{State, parts_of, with_parts}
use Rattle.machine_model.specs.Events.Arrivals.{after_arrival, arrived}
use Rattle.machine_model.specs.Events.Calls.{without_holdings}
use Rattle.machine_model.specs.Events.Follow.{Event, followed}
use Rattle.machine_model.specs.Events.Handlers.{due_begun, handler_begun, interrupt_begun}
use Rattle.machine_model.specs.Events.Ticks.{due_done, fallen, limit_answer, tick}
use Rattle.machine_model.specs.Runs.Step.{made_pending, worked}
use Rattle.machine_model.specs.Runs.Turns.{done_turn, turn_of}
use Rattle.machine_lemmas.proofs.FewDevices.{few_arrivals, few_moves}
use Rattle.machine_lemmas.proofs.Servings.{FewDevices}
use Rattle.machine_lemmas.proofs.Walk.{pending_has, settled_keeps}
use Rattle.place_lemmas.proofs.Events.{few_arrived}
use Rattle.place_lemmas.proofs.Kept.{IsNoStatement}
use Rattle.place_lemmas.proofs.Sinks.{Lags, Sinks, freed_sinks, release_sinks_all, settle_sinks, sinks_itself, sinks_seen, sinks_then}

-- from one state to another
abbrev pub SinksTo : ℕ → State → State → Type 0
SinksTo t st now = Sinks t (parts_of st) (parts_of now)

-- ---- other parts

-- the same base and mutexes, and as few devices
same_parts : (t : ℕ) (p q : Parts) → q.base ≡ p.base → q.objects.mutexes ≡ p.objects.mutexes → FewDevices q → Lags t p → Sinks t p q
same_parts t p q base mutexes few lags =
    let lag : current q.base t ≤ current_of q.base q.objects.mutexes t =
    subst (λ (b : Base). current b t ≤ current_of b q.objects.mutexes t) (sym base) (subst (λ m. current p.base t ≤ current_of p.base m t) (sym mutexes) lags.lag) in
    let now : current q.base t ≡ current p.base t = ap (λ (b : Base). current b t) base in
    record {
      lags = record { least = lags.least; few = few; ready = ap (λ (b : Base). is_ready b t) base ∙ lags.ready; lag = lag; none = ap (λ m. mutex_at m 0) mutexes ∙ lags.none };
      sinks = omega (arith, now);
      place = λ is same. subst (λ (b : Base). KeepsPlace b t) (sym base) is;
    }

-- what follows an event
pub sinks_followed : (t : ℕ) (script : Script) (mode : Mode) (n : ℕ) (st : State) → Lags t (parts_of st) → SinksTo t st (followed script mode n st).state
sinks_followed t script mode n st lags =
    settled_keeps (Sinks t (parts_of st))
    (λ p cur has. sinks_then t (parts_of st) p (record p { base = record p.base { cur = cur } }) has (sinks_seen t p (record p.base { cur = cur }) refl refl has.lags))
    (λ p has. sinks_then t (parts_of st) p (record p { base = record p.base { released = [] } }) has (sinks_seen t p (record p.base { released = [] }) refl refl has.lags))
    script mode n st (settle_sinks t mode (parts_of st) lags)

-- ---- ticks

again_rows : (b : Base) (what : DueKind) (slot : Option CyclicRow) → ((again_in b what slot).tasks ≡ b.tasks) × ((again_in b what slot).order ≡ b.order)
again_rows b what None = (refl, refl)
again_rows b what (Some k) = (refl, refl)

sinks_again : (t : ℕ) (p : Parts) (c : Clocks) (what : DueKind) → Lags t p → Sinks t p (record p { base = again p.base c what })
unfolding again
sinks_again t p c (dues.Wait v) lags = sinks_itself t p lags
sinks_again t p c (dues.Cyclic id) lags = let same = again_rows p.base (dues.Cyclic id) (cyclic_at c id) in sinks_seen t p (again_in p.base (dues.Cyclic id) (cyclic_at c id)) same.0 same.1 lags
sinks_again t p c (dues.Alarm id) lags = sinks_itself t p lags

sinks_fallen : (t : ℕ) (mode : Mode) (st : State) (what : DueKind) → Lags t (parts_of st) → SinksTo t st (fallen mode st what)
unfolding fallen
sinks_fallen t mode st (dues.Wait v) lags =
    let one = release_sinks_all t (parts_of st) v (limit_answer st.base v) lags in
    sinks_then t (parts_of st) _ _ one (settle_sinks t mode _ one.lags)
sinks_fallen t mode st (dues.Cyclic id) lags = sinks_again t (parts_of st) st.objects.clocks (dues.Cyclic id) lags
sinks_fallen t mode st (dues.Alarm id) lags = sinks_again t (parts_of st) st.objects.clocks (dues.Alarm id) lags

due_cases : (P : Parts → Type 0) (left_over : ℕ) (mode : Mode) (st : State) (what : Option DueKind) → P (parts_of st) →
    ((kind : DueKind) → P (parts_of (due_done left_over mode (fallen mode (record st { base = take_due st.base }) kind)))) →
    P (parts_of (elim what as (λ _. State) [ None ↦ st | Some kind ↦ due_done left_over mode (fallen mode (record st { base = take_due st.base }) kind) ]))
due_cases P left_over mode st None has later = has
due_cases P left_over mode st (Some kind) has later = later kind

sinks_due : (t left_over : ℕ) (mode : Mode) (st : State) → Lags t (parts_of st) → SinksTo t st (due_done left_over mode st)
unfolding due_done
sinks_due t zero mode st lags = sinks_itself t (parts_of st) lags
sinks_due t (suc left_over) mode st lags =
    let rest : State = record st { base = take_due st.base } in
    let taken = sinks_seen t (parts_of st) (take_due st.base) refl refl lags in
    due_cases (Sinks t (parts_of st)) left_over mode st (due_event st.base.time st.base.events) (sinks_itself t (parts_of st) lags)
    (λ what.
    let fell = sinks_fallen t mode rest what taken.lags in
    let now : State = fallen mode rest what in
    sinks_then t (parts_of st) (parts_of rest) (parts_of (due_done left_over mode now)) taken
    (sinks_then t (parts_of rest) (parts_of now) (parts_of (due_done left_over mode now)) fell (sinks_due t left_over mode now fell.lags)))

-- a whole tick
pub sinks_tick : (t : ℕ) (mode : Mode) (n : ℕ) (st : State) → Lags t (parts_of st) → SinksTo t st (tick mode n st).state
unfolding tick
sinks_tick t mode n st lags =
    let later = sinks_seen t (parts_of st) (advance st.base) refl refl lags in
    sinks_then t (parts_of st) _ _ later (sinks_due t (length st.base.events) mode (record st { base = advance st.base }) later.lags)

-- ---- handlers

pub sinks_flagged : (t : ℕ) (p : Parts) (flags : Flags) → Lags t p → Sinks t p (record p { base = set_flags p.base flags })
sinks_flagged t p flags lags = sinks_seen t p (set_flags p.base flags) refl refl lags

sinks_due_begun : (t n : ℕ) (st : State) (what : DueKind) → Lags t (parts_of st) → SinksTo t st (due_begun n st what).state
unfolding due_begun handler_begun
sinks_due_begun t n st (dues.Cyclic id) lags = sinks_flagged t (parts_of st) (record st.base.flags { handler = true }) lags
sinks_due_begun t n st (dues.Alarm id) lags = sinks_flagged t (parts_of st) (record st.base.flags { handler = true }) lags
sinks_due_begun t n st (dues.Wait v) lags = sinks_itself t (parts_of st) lags

sinks_interrupt : (t n : ℕ) (st : State) (number : ℕ) → Lags t (parts_of st) → SinksTo t st (interrupt_begun n st number).state
unfolding interrupt_begun handler_begun
sinks_interrupt t n st number lags = sinks_flagged t (parts_of st) (record st.base.flags { handler = true }) lags

-- ---- mutexes of a task that ended

pub sinks_holdings : (t : ℕ) (mode : Mode) (st : State) (u : ℕ) → Lags t (parts_of st) → SinksTo t st (without_holdings mode st u)
sinks_holdings t mode st zero lags = sinks_itself t (parts_of st) lags
sinks_holdings t mode st (suc u) lags =
    let one = same_parts t (parts_of st) _ refl refl lags.few lags in sinks_then t (parts_of st) _ _ one (freed_sinks t 64 mode (suc u) _ one.lags)

-- ---- endings of requests

arrival_cases : (t : ℕ) (script : Script) (mode : Mode) (st : State) (e : Ending) (event : Event) (found : Option DevParts) → arrive (dev_parts (parts_of st)) e ≡ found →
    option_map (after_arrival script mode (st.steps + 1) st e) found ≡ Some event → Lags t (parts_of st) → SinksTo t st event.state
arrival_cases t script mode st e event None at is lags = absurd (cc is)
arrival_cases t script mode st e event (Some q) at is lags =
    let same : after_arrival script mode (st.steps + 1) st e q ≡ event = cc is in
    let now : State = with_parts st (with_devices (parts_of st) q) in
    let few = few_arrived q (arrive (dev_parts (parts_of st)) e) at (devices.arrival_keeps (λ dv. length dv.links ≤ 9) few_moves few_arrivals (dev_parts (parts_of st)) e lags.few) in
    let one = same_parts t (parts_of st) (parts_of now) (arrive_base (dev_parts (parts_of st)) q e at) refl few lags in
    subst (λ (left : Event). SinksTo t st left.state) same
    (sinks_then t (parts_of st) (parts_of now) (parts_of (followed script mode (st.steps + 1) now).state) one (sinks_followed t script mode (st.steps + 1) now one.lags))

-- an ending that arrives, with all that follows it
pub sinks_arrived : (t : ℕ) (script : Script) (mode : Mode) (st : State) (e : Ending) (event : Event) → arrived script mode st e ≡ Some event → Lags t (parts_of st) → SinksTo t st event.state
unfolding arrived
sinks_arrived t script mode st e event is lags = arrival_cases t script mode st e event (arrive (dev_parts (parts_of st)) e) refl is lags

-- ---- a whole step

sinks_turn : (t : ℕ) (script : Script) (mode : Mode) (n : ℕ) (st : State) (turn : Turn) → IsNoStatement turn → Lags t (parts_of st) → SinksTo t st (done_turn script mode n st turn).state
unfolding done_turn
sinks_turn t script mode n st turns.Handler none lags = absurd (none.0 refl)
sinks_turn t script mode n st (turns.Due what) none lags = sinks_due_begun t n (record st { due = drop 1 st.due }) what lags
sinks_turn t script mode n st turns.Tick none lags = sinks_tick t mode n (record st { ticks = st.ticks - 1 }) lags
sinks_turn t script mode n st (turns.Interrupt number) none lags = sinks_interrupt t n st number lags
sinks_turn t script mode n st (turns.Task u) none lags = absurd (none.1 u refl)
sinks_turn t script mode n st turns.Idle none lags = sinks_tick t mode n st lags

-- a step with all that follows it, where no body goes on
pub sinks_worked : (t : ℕ) (script : Script) (mode : Mode) (n : ℕ) (st : State) → IsNoStatement (turn_of (made_pending script n st)) → Lags t (parts_of st) → SinksTo t st (worked script mode n st).state
unfolding worked
sinks_worked t script mode n st none lags =
    let pending : State = made_pending script n st in
    let done : State = (done_turn script mode n pending (turn_of pending)).state in
    let made = pending_has (Sinks t (parts_of st)) script n st (sinks_itself t (parts_of st) lags) in
    let turned = sinks_turn t script mode n pending (turn_of pending) none made.lags in
    let both = sinks_then t (parts_of st) (parts_of pending) (parts_of done) made turned in
    sinks_then t (parts_of st) (parts_of done) (parts_of (followed script mode n done).state) both (sinks_followed t script mode n done turned.lags)
