-- What each turn of a run comes to.
use Rattle.std.proofs.Common.{◌≡◌, ℕ, suc, ◌+◌, ◌≤◌, Bool, false, List, [], ◌∷◌, ◌++◌, Option, Some, None, refl, ap, sym, subst, ◌∙◌, append-nil, arith}
use Rattle.std.specs.Prelude.{count_by}
use Rattle.std.specs.Option.{option_map}
use Rattle.tk_types.specs.declared.line.LastLine.{LastLine}
use Rattle.tk_types.specs.declared.line.Line.{Line}
use Rattle.tk_types.specs.declared.line.Line.TheVariants as lines
use Rattle.tk_types.specs.declared.run.End.{End}
use Rattle.tk_types.specs.declared.run.End.TheVariants as ends
use Rattle.tk_types.specs.declared.run.Mode.TheVariants as modes
use Rattle.tk_types.specs.declared.script.Kind.{Kind}
use Rattle.tk_types.specs.declared.script.Script.{Script}
use Rattle.device_model.specs.declared.messages.Ending.{Ending}
use Rattle.device_model.specs.declared.messages.Message.{Message}
use Rattle.device_model.specs.declared.messages.Message.TheVariants as message
use Rattle.device_model.specs.declared.messages.Request.{Request}
use Rattle.device_model.specs.Units.Stores.{Store, store_start}
use Rattle.device_model.specs.Devices.Handing.{messages}
use Rattle.driver_model.specs.Cores.{Core, core_start}
use Rattle.machine_model.specs.States.State.{State, taken}
use Rattle.machine_model.specs.Events.Arrivals.{arrived}
use Rattle.machine_model.specs.Events.Follow.{Event}
use Rattle.machine_model.specs.Runs.Generator.{generated}
use Rattle.machine_model.specs.Runs.Machine.{Machine, after_arrive, after_pace, new_machine, with_event}
use Rattle.machine_model.specs.Runs.Step.{Ends, Needs, Pace, Went, step, worked}
use Rattle.machine_model.specs.Runs.SyncTrace.{SyncRun, needed_ending, sync_arrived, sync_ending, sync_runs, sync_turn}
use Rattle.machine_model.specs.Runs.Trace.{Trace, after, last_of, start}
use Rattle.tk_kernel.specs.Pace.{pace_with}
use Rattle.tk_kernel.specs.declared.pacing.Pace.TheVariants as answers
use Rattle.tk_gen.specs.declared.counts.Counts.{Counts}
use Rattle.tk_gen.specs.declared.running.ServedRun.{ServedRun}
use Rattle.tk_gen.specs.Counts.{Fits, HasRoom, IsPlain, counted_on, is_call, is_ending, is_tick, is_wait, nothing_counted}
use Rattle.tk_gen.specs.Objects.{the_device}
use Rattle.tk_gen.specs.Serving.{AreFew, GoesOn, HasRequest, HasServed, IsBetweenTurns, IsOver, IsServedBy, going}
use Rattle.tk_gen.specs.Summaries.{most_steps}
use Rattle.tk_gen.proofs.Counted.{counted_both, counts_are}
use Rattle.tk_gen.proofs.LineCounts.{arrived_few, start_none, worked_few}
use Rattle.tk_gen.proofs.OneDevice.{IsServing, core_after, ending_by, needed_whole, needs_asked, serves_taken, start_served, went_served, went_silent, went_to}

-- ---- few lines are counted

plain_call : IsPlain is_call
plain_call = record { released = λ n t c a. refl; dispatch = λ n t. refl; hook = λ n h. refl }

plain_wait : IsPlain is_wait
plain_wait = record { released = λ n t c a. refl; dispatch = λ n t. refl; hook = λ n h. refl }

plain_tick : IsPlain is_tick
plain_tick = record { released = λ n t c a. refl; dispatch = λ n t. refl; hook = λ n h. refl }

plain_ending : IsPlain is_ending
plain_ending = record { released = λ n t c a. refl; dispatch = λ n t. refl; hook = λ n h. refl }

-- a fact of each kind of lines
few_by : (all : List Line) → ((p : Line → Bool) → IsPlain p → count_by p all ≤ 2) → AreFew all
few_by all each = record { calls = each is_call plain_call; waits = each is_wait plain_wait; ticks = each is_tick plain_tick; endings = each is_ending plain_ending }

went_few : (script : Script) (budget : ℕ) (st : State) (event : Event) (over : Option End) → step script modes.Sync budget st ≡ Went event over → AreFew event.lines
went_few script budget st event over is =
    went_to (λ (done : Event). AreFew done.lines) script budget st event over is
    (few_by (worked script modes.Sync (st.steps + 1) st).lines (λ p plain. worked_few p plain script modes.Sync (st.steps + 1) st))

come_few : (script : Script) (st : State) (e : Ending) (event : Event) → arrived script modes.Sync st e ≡ Some event → AreFew event.lines
come_few script st e event is = few_by event.lines (λ p plain. arrived_few p plain script modes.Sync st e event is)

-- so there is room for them
few_fit : (before : Counts) (all : List Line) → HasRoom 2 before → AreFew all → Fits (counted_on before all)
few_fit before all room few =
    let c = room.calls in let w = room.waits in let t = room.ticks in let e = room.endings in
    let fc = few.calls in let fw = few.waits in let ft = few.ticks in let fe = few.endings in
    record { calls = omega (arith, c, fc); waits = omega (arith, w, fw); ticks = omega (arith, t, ft); endings = omega (arith, e, fe) }

-- the last line isn't counted
end_uncounted : (before : Counts) (n : ℕ) (last : LastLine) → counted_on before (lines.End n last ∷ []) ≡ before
end_uncounted before n last = counts_are _ _ _ _ _ _ _ _ (omega arith) (omega arith) (omega arith) (omega arith)

with_end : (before : Counts) (all : List Line) (n : ℕ) (last : LastLine) → counted_on before (all ++ lines.End n last ∷ []) ≡ counted_on before all
with_end before all n last = sym (counted_both before all (lines.End n last ∷ [])) ∙ end_uncounted (counted_on before all) n last

-- what a step leaves to be counted has room
pub pace_fits : (script : Script) (budget : ℕ) (st : State) (before : Counts) (now : Machine) (pace : Pace) → HasRoom 2 before → step script modes.Sync budget st ≡ pace →
    now ≡ after_pace (going script budget st) pace → Fits (counted_on before now.lines)
pace_fits script budget st before now (Went event None) room is stepped =
    subst (λ (m : Machine). Fits (counted_on before m.lines)) (sym stepped) (few_fit before event.lines room (went_few script budget st event None is))
pace_fits script budget st before now (Went event (Some end)) room is stepped =
    subst (λ (m : Machine). Fits (counted_on before m.lines)) (sym stepped)
    (subst Fits (sym (with_end before event.lines event.state.steps (last_of end))) (few_fit before event.lines room (went_few script budget st event (Some end) is)))
pace_fits script budget st before now (Needs waiting) room is stepped =
    subst (λ (m : Machine). Fits (counted_on before m.lines)) (sym stepped) (few_fit before [] room (record { calls = omega arith; waits = omega arith; ticks = omega arith; endings = omega arith }))
pace_fits script budget st before now Ends room is stepped =
    subst (λ (m : Machine). Fits (counted_on before m.lines)) (sym stepped)
    (subst Fits (sym (end_uncounted before st.steps (last_of ends.Idle)))
    (let c = room.calls in let w = room.waits in let t = room.ticks in let e = room.endings in
    record { calls = omega (arith, c); waits = omega (arith, w); ticks = omega (arith, t); endings = omega (arith, e) }))

-- ---- one turn of the trace

one_turn : (left : ℕ) (script : Script) (budget : ℕ) (st : State) (pace : Pace) → step script modes.Sync budget st ≡ pace →
    sync_runs (suc left) script budget st ≡ sync_turn (λ (now : State). sync_runs left script budget now) script st pace
unfolding sync_runs
one_turn left script budget st pace is = ap (λ (p : Pace). sync_turn (λ (now : State). sync_runs left script budget now) script st p) is

-- ---- the run goes on

between_by : (script : Script) (budget : ℕ) (run : ServedRun) (st : State) (core : Core) → run.machine ≡ going script budget st → run.driver ≡ core → IsServedBy script st core None →
    IsBetweenTurns script budget run
between_by script budget run st core machine driver served =
    let state : run.machine.state ≡ st = ap (λ (m : Machine). m.state) machine in
    record {
      machine_is = machine ∙ ap (λ (now : State). going script budget now) (sym state);
      served = subst (λ (now : State). IsServedBy script now run.driver None) (sym state) (subst (λ (one : Core). IsServedBy script st one None) (sym driver) served);
    }

-- an event of which all was taken
all_taken : (script : Script) (budget : ℕ) (st : State) (event : Event) (m now : Machine) → m ≡ with_event (going script budget st) event → now ≡ record m { lines = [] } →
    messages event.state.objects.devices ≡ [] → now ≡ going script budget (taken event.state)
all_taken script budget st event m now is left silent =
    left ∙ (ap (λ (one : Machine). let it : Machine = record one { lines = [] } in it) is
    ∙ ap (λ (ms : List Message). let it : Machine = record (going script budget (taken event.state)) { messages = ms } in it) silent)

pub went_goes : (script : Script) (budget : ℕ) (old new : ServedRun) (now : Machine) (pace : Pace) → IsBetweenTurns script budget old → step script modes.Sync budget old.machine.state ≡ pace →
    now ≡ after_pace (going script budget old.machine.state) pace → answers.Went ≡ pace_with pace →
    new.machine ≡ record now { lines = [] } → new.driver ≡ old.driver → new.counts ≡ counted_on old.counts now.lines → GoesOn script budget old new
went_goes script budget old new now (Went event None) between is stepped went machine driver counts =
    let st : State = old.machine.state in
    let silent = went_silent script budget st event None old.driver between.served is in
    let whole : new.machine ≡ going script budget (taken event.state) = all_taken script budget st event now new.machine stepped machine silent in
    record {
      lines = event.lines;
      few = went_few script budget st event None is;
      between = between_by script budget new (taken event.state) old.driver whole driver (went_served script budget st event None old.driver between.served is);
      counts = counts ∙ ap (λ (m : Machine). counted_on old.counts m.lines) stepped;
      taken_more = let same : new.driver.taken ≡ old.driver.taken = ap (λ (c : Core). c.taken) driver in omega (arith, same);
      turn = λ left.
          ap (λ (r : SyncRun). r.trace) (one_turn left script budget st (Went event None) is)
          ∙ ap (λ (m : Machine). after event.lines (sync_runs left script budget m.state).trace) (sym whole);
    }
went_goes script budget old new now (Went event (Some end)) between is stepped went machine driver counts = absurd (cc went)
went_goes script budget old new now (Needs waiting) between is stepped went machine driver counts = absurd (cc went)
went_goes script budget old new now Ends between is stepped went machine driver counts = absurd (cc went)

-- ---- the run is over

pub over_is : (script : Script) (budget : ℕ) (old new : ServedRun) (now : Machine) (end : End) (pace : Pace) → step script modes.Sync budget old.machine.state ≡ pace →
    now ≡ after_pace (going script budget old.machine.state) pace → answers.Over end ≡ pace_with pace →
    new.machine ≡ record now { lines = [] } → new.counts ≡ counted_on old.counts now.lines → IsOver script budget old new end
over_is script budget old new now end (Went event None) is stepped over machine counts = absurd (cc over)
over_is script budget old new now end (Went event (Some last)) is stepped over machine counts =
    let same : end ≡ last = cc over in
    let steps : new.machine.state.steps ≡ event.state.steps = ap (λ (m : Machine). m.state.steps) machine ∙ ap (λ (m : Machine). m.state.steps) stepped in
    record {
      lines = event.lines;
      counts = counts ∙ (ap (λ (m : Machine). counted_on old.counts m.lines) stepped ∙ with_end old.counts event.lines event.state.steps (last_of last));
      turn = λ left.
          ap (λ (r : SyncRun). r.trace) (one_turn left script budget old.machine.state (Went event (Some last)) is)
          ∙ (ap (λ (all : List Line). let t : Trace = record { lines = all; steps = event.state.steps; last = last_of last } in t) (append-nil event.lines)
          ∙ (ap (λ (n : ℕ). let t : Trace = record { lines = event.lines; steps = n; last = last_of last } in t) (sym steps)
          ∙ ap (λ (one : End). let t : Trace = record { lines = event.lines; steps = new.machine.state.steps; last = last_of one } in t) (sym same)));
    }
over_is script budget old new now end (Needs waiting) is stepped over machine counts = absurd (cc over)
over_is script budget old new now end Ends is stepped over machine counts =
    let same : end ≡ ends.Idle = cc over in
    let steps : new.machine.state.steps ≡ old.machine.state.steps = ap (λ (m : Machine). m.state.steps) machine ∙ ap (λ (m : Machine). m.state.steps) stepped in
    record {
      lines = [];
      counts = counts ∙ (ap (λ (m : Machine). counted_on old.counts m.lines) stepped ∙ with_end old.counts [] old.machine.state.steps (last_of ends.Idle));
      turn = λ left.
          ap (λ (r : SyncRun). r.trace) (one_turn left script budget old.machine.state Ends is)
          ∙ (ap (λ (n : ℕ). let t : Trace = record { lines = []; steps = n; last = last_of ends.Idle } in t) (sym steps)
          ∙ ap (λ (one : End). let t : Trace = record { lines = []; steps = new.machine.state.steps; last = last_of one } in t) (sym same));
    }

-- ---- an ending is needed

-- the run with another machine
abbrev pub with_machine : ServedRun → Machine → ServedRun
with_machine run m = record { machine = m; driver = run.driver; counts = run.counts }

pub needs_request : (script : Script) (budget : ℕ) (old : ServedRun) (now : Machine) (pace : Pace) → IsBetweenTurns script budget old → step script modes.Sync budget old.machine.state ≡ pace →
    now ≡ after_pace (going script budget old.machine.state) pace → answers.NeedsEnding ≡ pace_with pace → HasRequest now.script now.budget (with_machine old now)
needs_request script budget old now (Went event None) between is stepped needs = absurd (cc needs)
needs_request script budget old now (Went event (Some end)) between is stepped needs = absurd (cc needs)
needs_request script budget old now (Needs waiting) between is stepped needs =
    let asked = needs_asked script budget old.machine.state waiting old.driver between.served is in
    let whole : now ≡ record (going script budget (taken waiting)) { messages = message.Serve 1 asked.request ∷ [] } =
    stepped ∙ ap (λ (ms : List Message). let it : Machine = record (going script budget (taken waiting)) { messages = ms } in it) asked.messages_are in
    subst (λ (m : Machine). HasRequest m.script m.budget (with_machine old m)) (sym whole)
    (record { request = asked.request; whole = asked.whole; machine_is = refl; served = asked.served })
needs_request script budget old now Ends between is stepped needs = absurd (cc needs)

ending_turn : (left : ℕ) (script : Script) (budget : ℕ) (st waiting : State) (e : Ending) (event : Event) → step script modes.Sync budget st ≡ Needs waiting →
    needed_ending (taken waiting) ≡ Some e → arrived script modes.Sync (taken waiting) e ≡ Some event →
    (sync_runs (suc left) script budget st).trace ≡ after event.lines (sync_runs left script budget (taken event.state)).trace
ending_turn left script budget st waiting e event is needed arrives =
    let next : State → SyncRun = λ now. sync_runs left script budget now in
    ap (λ (r : SyncRun). r.trace) (one_turn left script budget st (Needs waiting) is)
    ∙ (ap (λ (found : Option Ending). (sync_ending next script (taken waiting) found).trace) needed
    ∙ ap (λ (come : Option Event). (sync_arrived next (taken waiting) e come).trace) arrives)

pub served_goes : (script : Script) (budget : ℕ) (old new : ServedRun) (now : Machine) (pace : Pace) → step script modes.Sync budget old.machine.state ≡ pace →
    now ≡ after_pace (going script budget old.machine.state) pace → answers.NeedsEnding ≡ pace_with pace → HasServed now.script now.budget (with_machine old now) new → GoesOn script budget old new
served_goes script budget old new now (Went event None) is stepped needs has = absurd (cc needs)
served_goes script budget old new now (Went event (Some end)) is stepped needs has = absurd (cc needs)
served_goes script budget old new now (Needs waiting) is stepped needs has =
    let it = subst (λ (m : Machine). HasServed m.script m.budget (with_machine old m) new) stepped has in
    record {
      lines = it.event.lines;
      few = it.few;
      between = it.between;
      counts = it.counts;
      taken_more = it.taken_more;
      turn = λ left.
          ending_turn left script budget old.machine.state waiting it.ending it.event is it.needed it.arrives
          ∙ ap (λ (st : State). after it.event.lines (sync_runs left script budget st).trace) (sym it.state);
    }
served_goes script budget old new now Ends is stepped needs has = absurd (cc needs)

-- ---- the ending arrives at the machine

-- the machine of which the message was taken
pub message_taken : (script : Script) (budget : ℕ) (request : Request) (m now : Machine) → m ≡ record (going script budget m.state) { messages = message.Serve 1 request ∷ [] } →
    now ≡ record m { messages = [] } → now ≡ going script budget m.state
message_taken script budget request m now is left = left ∙ ap (λ (one : Machine). let it : Machine = record one { messages = [] } in it) is

arrives_as : (script : Script) (budget : ℕ) (st : State) (e : Ending) (event : Event) (m : Machine) → arrived script modes.Sync st e ≡ Some event → m ≡ going script budget st →
    after_arrive m e ≡ Some (with_event (going script budget st) event)
arrives_as script budget st e event m arrives is =
    ap (λ (one : Machine). after_arrive one e) is ∙ ap (λ (come : Option Event). option_map (with_event (going script budget st)) come) arrives

-- the machine after the ending that the driver made
pub arrival_is : (script : Script) (budget : ℕ) (st : State) (core : Core) (request : Request) (n : ℕ) (e : Ending) (m : Machine) (it : IsServing script st core request) →
    e ≡ record (ending_by core request) { taken = n } → m ≡ going script budget st → after_arrive m e ≡ Some (with_event (going script budget st) it.event)
arrival_is script budget st core request n e m it made is =
    arrives_as script budget st e it.event m (ap (λ (one : Ending). arrived script modes.Sync st one) made ∙ serves_taken script st core request n it) is

machine_is : (found : Option Machine) (one other : Machine) → found ≡ Some one → found ≡ Some other → one ≡ other
machine_is found one other is also = cc (is, also)

pub now_is : (script : Script) (budget : ℕ) (st : State) (core : Core) (request : Request) (n : ℕ) (e : Ending) (m now : Machine) (it : IsServing script st core request) →
    e ≡ record (ending_by core request) { taken = n } → m ≡ going script budget st → after_arrive m e ≡ Some now → now ≡ with_event (going script budget st) it.event
now_is script budget st core request n e m now it made is arrives =
    machine_is (after_arrive m e) now (with_event (going script budget st) it.event) arrives (arrival_is script budget st core request n e m it made is)

pub arrival_fits : (script : Script) (budget : ℕ) (st : State) (core : Core) (request : Request) (before : Counts) (now : Machine) (it : IsServing script st core request) → HasRoom 2 before →
    now ≡ with_event (going script budget st) it.event → Fits (counted_on before now.lines)
arrival_fits script budget st core request before now it room is =
    subst (λ (m : Machine). Fits (counted_on before m.lines)) (sym is) (few_fit before it.event.lines room (come_few script st (ending_by core request) it.event it.arrives))

pub has_served : (script : Script) (budget : ℕ) (old new : ServedRun) (request : Request) (now : Machine) → IsServedBy script old.machine.state old.driver (Some (record { request = request; asked = false })) →
    (it : IsServing script old.machine.state old.driver request) → now ≡ with_event (going script budget old.machine.state) it.event →
    new.machine ≡ record now { lines = [] } → new.driver ≡ core_after old.driver request → new.counts ≡ counted_on old.counts now.lines → HasServed script budget old new
has_served script budget old new request now served it is machine driver counts =
    let st : State = old.machine.state in
    let whole : new.machine ≡ going script budget (taken it.event.state) = all_taken script budget st it.event now new.machine is machine it.silent in
    record {
      ending = ending_by old.driver request;
      event = it.event;
      needed = needed_whole script st old.driver request served;
      arrives = it.arrives;
      few = come_few script st (ending_by old.driver request) it.event it.arrives;
      between = between_by script budget new (taken it.event.state) (core_after old.driver request) whole driver it.served;
      state = ap (λ (m : Machine). m.state) whole;
      counts = counts ∙ ap (λ (m : Machine). counted_on old.counts m.lines) is;
      taken_more = let same : new.driver.taken ≡ old.driver.taken + 1 = ap (λ (c : Core). c.taken) driver in omega (arith, same);
    }

-- ---- the start

-- no line of the start is counted
pub start_counted : (script : Script) (before : Counts) → counted_on before (start script).lines ≡ before
start_counted script before =
    let c = start_none is_call plain_call script in let w = start_none is_wait plain_wait script in
    let t = start_none is_tick plain_tick script in let e = start_none is_ending plain_ending script in
    counts_are _ _ _ _ _ _ _ _ (omega (arith, c)) (omega (arith, w)) (omega (arith, t)) (omega (arith, e))

pub start_fits : (script : Script) (before : Counts) (m : Machine) → before ≡ nothing_counted → m ≡ new_machine script modes.Sync most_steps → Fits (counted_on before m.lines)
start_fits script before m none is =
    subst (λ (one : Machine). Fits (counted_on before one.lines)) (sym is)
    (subst Fits (sym (start_counted script before)) (subst Fits (sym none) (record { calls = omega arith; waits = omega arith; ticks = omega arith; endings = omega arith })))

pub start_between : (number : ℕ) (script : Script) (m : Machine) (run : ServedRun) → script ≡ generated number → m ≡ new_machine script modes.Sync most_steps →
    run.machine ≡ record m { lines = [] } → run.driver ≡ core_start 1 the_device.kind → IsBetweenTurns (generated number) most_steps run
start_between number script m run same is left driver =
    between_by (generated number) most_steps run (start (generated number)).state run.driver
    (left ∙ (ap (λ (one : Machine). let it : Machine = record one { lines = [] } in it) is ∙ ap (λ (s : Script). going s most_steps (start s).state) same)) refl
    (start_served number run.driver driver)

pub begun_core : (kind : Kind) (store : Store) → kind ≡ the_device.kind → store ≡ store_start the_device.kind →
    let core : Core = record (core_start 1 kind) { store = store } in
    core ≡ core_start 1 the_device.kind
begun_core kind store is holds =
    ap (λ (s : Store). let core : Core = record (core_start 1 kind) { store = s } in core) holds
    ∙ ap (λ (k : Kind). let core : Core = record (core_start 1 k) { store = store_start the_device.kind } in core) is

-- ---- the message

-- the one message that was there is the one that was taken out
popped_is : (left : List Message) (d : ℕ) (popped request : Request) → message.Serve 1 request ∷ [] ≡ left ++ message.Serve d popped ∷ [] → popped ≡ request
popped_is [] d popped request is = cc is
popped_is (first ∷ []) d popped request is = absurd (cc is)
popped_is (first ∷ second ∷ left) d popped request is = absurd (cc is)

-- so the request that is with the driver is that of the message
pub popped_served : (script : Script) (budget : ℕ) (run : ServedRun) (left : List Message) (d : ℕ) (popped : Request) → HasRequest script budget run →
    run.machine.messages ≡ left ++ message.Serve d popped ∷ [] → IsServedBy script run.machine.state run.driver (Some (record { request = popped; asked = false }))
popped_served script budget run left d popped has is =
    let same : popped ≡ has.request = popped_is left d popped has.request (sym (ap (λ (m : Machine). m.messages) has.machine_is) ∙ is) in
    subst (λ (request : Request). IsServedBy script run.machine.state run.driver (Some (record { request = request; asked = false }))) (sym same) has.served
