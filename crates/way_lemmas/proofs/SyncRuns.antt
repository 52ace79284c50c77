-- A run that goes on in sync mode, in whatever way its endings came, is a front of the run of sync mode, and at its end it is all of it.
use Rattle.std.proofs.Common.{◌≡◌, ℕ, zero, suc, ◌+◌, ◌*◌, ◌≤◌, List, [], ◌∷◌, ◌++◌, Option, Some, None, refl, ap, sym, ◌∙◌, arith}
use Rattle.std.proofs.lemmas.List.{append_assoc, append-nil}
use Rattle.tk_types.specs.declared.line.Entry.{Entry}
use Rattle.tk_types.specs.declared.line.How.{How}
use Rattle.tk_types.specs.declared.line.LastLine.TheVariants as lasts
use Rattle.tk_types.specs.declared.line.Line.{Line}
use Rattle.tk_types.specs.declared.line.Line.TheVariants as lines
use Rattle.tk_types.specs.declared.run.End.{End}
use Rattle.tk_types.specs.declared.run.End.TheVariants as ends
use Rattle.tk_types.specs.declared.run.Mode.TheVariants as modes
use Rattle.tk_types.specs.declared.script.Script.{Script}
use Rattle.kernel_model.specs.Bodies.Statements.{IsRunnable}
use Rattle.kernel_model.specs.Words.Orders.{entry}
use Rattle.device_model.specs.declared.messages.Ending.{Ending}
use Rattle.device_model.specs.Devices.Handing.{messages, out_of}
use Rattle.device_model.specs.Devices.Tables.{Devices, Link, link_at}
use Rattle.device_lemmas.proofs.Emptied.{emptied_any, emptied_none, emptied_twice}
use Rattle.machine_model.specs.States.State.{State, taken}
use Rattle.machine_model.specs.Events.Arrivals.{arrived}
use Rattle.machine_model.specs.Events.Follow.{Event}
use Rattle.machine_model.specs.Runs.Step.{Ends, Needs, Pace, Went, step}
use Rattle.machine_model.specs.Runs.SyncTrace.{SyncRun, entry_of, needed_ending, sync_after, sync_arrived, sync_ending, sync_over, sync_run, sync_runs, sync_trace, sync_turn, with_entry}
use Rattle.machine_model.specs.Runs.Trace.{last_of, lines_of, start}
use Rattle.journal_laws.proofs.Paces.{step_needs}
use Rattle.journal_laws.proofs.WholeTurns.{sync_with_more}
use Rattle.run_model.specs.SoFar.{IsSoFar, SoFar, after_ending, after_event, after_need, begins, entry_before, goes_on, needs, takes_in}
use Rattle.way_lemmas.specs.Between.{grown}
use Rattle.way_lemmas.proofs.Outs.{out_in}
use Rattle.way_lemmas.proofs.Sounds.{Sound, sound_so_far}
use Rattle.way_lemmas.proofs.Sync.{IsNeeded, SyncSound, named_needed, needs_given, still_needs, syncs_so_far}

-- ---- where no message waits to be taken, taking them changes nothing

outs_none : (links : List (Option Link)) → ((d : ℕ) → out_in (entry links d) ≡ []) → out_of links ≡ []
outs_none [] none = refl
outs_none (None ∷ links) none = outs_none links (λ d. none (suc d))
outs_none (Some link ∷ links) none = ap (λ out. out ++ out_of links) (none 0) ∙ outs_none links (λ d. none (suc d))

none_waits : (dv : Devices) → ((d : ℕ) → out_in (link_at dv d) ≡ []) → messages dv ≡ []
unfolding messages
none_waits dv none = outs_none dv.links none

pub taken_same : (script : Script) (st : State) → Sound script st.objects.devices → taken st ≡ st
taken_same script st sound =
    ap (λ (dv : Devices). record st { objects = record st.objects { devices = dv } }) (emptied_none st.objects.devices (none_waits st.objects.devices sound.empty))

taken_twice : (st : State) → taken (taken st) ≡ taken st
taken_twice st = ap (λ (dv : Devices). record st { objects = record st.objects { devices = dv } }) (emptied_twice st.objects.devices)

-- ---- turns

-- a step
went_turn : (script : Script) (budget n : ℕ) (st : State) (event : Event) → step script modes.Sync budget st ≡ Went event None →
    sync_runs (suc n) script budget st ≡ sync_after event.lines (sync_runs n script budget (taken event.state))
unfolding sync_runs
went_turn script budget n st event is = ap (λ (pace : Pace). sync_turn (λ now. sync_runs n script budget now) script st pace) is

last_turn : (script : Script) (budget n : ℕ) (st : State) (event : Event) (end : End) → step script modes.Sync budget st ≡ Went event (Some end) →
    sync_runs (suc n) script budget st ≡ sync_after event.lines (sync_over event.state end)
unfolding sync_runs
last_turn script budget n st event end is = ap (λ (pace : Pace). sync_turn (λ now. sync_runs n script budget now) script st pace) is

idle_turn : (script : Script) (budget n : ℕ) (st : State) → step script modes.Sync budget st ≡ Ends → sync_runs (suc n) script budget st ≡ sync_over st ends.Idle
unfolding sync_runs
idle_turn script budget n st is = ap (λ (pace : Pace). sync_turn (λ now. sync_runs n script budget now) script st pace) is

-- an ending is needed: a run from there is the run from the state in which it is needed already
needs_turn : (script : Script) (budget n : ℕ) (st waiting : State) → SyncSound st → step script modes.Sync budget st ≡ Needs waiting →
    sync_runs n script budget st ≡ sync_runs n script budget (taken waiting)
unfolding sync_runs
needs_turn script budget zero st waiting sound is =
    ap (λ (steps : ℕ). record { trace = record { lines = []; steps = steps; last = lasts.Budget }; entries = [] }) (sym (step_needs script modes.Sync budget st waiting is).steps)
needs_turn script budget (suc n) st waiting sound is =
    let next : State → SyncRun = λ now. sync_runs n script budget now in
    let at = needs_given script budget st waiting sound.drivers is in
    let still : step script modes.Sync budget (taken waiting) ≡ Needs (taken waiting) = still_needs script budget (taken waiting) at.quiet (emptied_any waiting.objects.devices ∙ at.given) in
    ap (λ (pace : Pace). sync_turn next script st pace) is
    ∙ (ap (λ (now : State). sync_ending next script now (needed_ending now)) (sym (taken_twice waiting))
    ∙ ap (λ (pace : Pace). sync_turn next script (taken waiting) pace) (sym still))

-- it is taken in
named_turn : (script : Script) (budget n : ℕ) (st : State) (named : Ending) (event : Event) → taken st ≡ st → IsNeeded script budget st named → arrived script modes.Sync st named ≡ Some event →
    sync_runs (suc n) script budget st ≡ with_entry (entry_of (st.steps + 1) named) (sync_after event.lines (sync_runs n script budget (taken event.state)))
unfolding sync_runs
named_turn script budget n st named event same is comes =
    let next : State → SyncRun = λ now. sync_runs n script budget now in
    ap (λ (pace : Pace). sync_turn next script st pace) is.now
    ∙ (ap (λ (now : State). sync_ending next script now (needed_ending now)) same
    ∙ (ap (λ (e : Option Ending). sync_ending next script st e) is.needed
    ∙ ap (λ (it : Option Event). sync_arrived next st named it) comes))

-- ---- a run that has grown

grown_lines : (before lines : List Line) (entries : List Entry) (run : SyncRun) → grown before entries (sync_after lines run) ≡ grown (before ++ lines) entries run
grown_lines before lines entries run =
    ap (λ (all : List Line). record { trace = record run.trace { lines = all }; entries = entries ++ run.entries }) (sym (append_assoc before lines run.trace.lines))

grown_entry : (before : List Line) (entries : List Entry) (entry : Entry) (run : SyncRun) → grown before entries (with_entry entry run) ≡ grown before (entries ++ entry ∷ []) run
grown_entry before entries entry run =
    ap (λ (all : List Entry). record { trace = record run.trace { lines = before ++ run.trace.lines }; entries = all }) (sym (append_assoc entries (entry ∷ []) run.entries))

-- what is left of the run of sync mode is the run from the present state, once some turns are done
record IsRest (script : Script) (budget : ℕ) (so : SoFar) : Type 0 where
  turns : ℕ
  is : (n : ℕ) → sync_after (start script).lines (sync_runs (turns + n) script budget (start script).state) ≡ grown so.lines so.entries (sync_runs n script budget so.state)

one_more : (script : Script) (budget : ℕ) (so now : SoFar) →
    ((n : ℕ) → grown so.lines so.entries (sync_runs (suc n) script budget so.state) ≡ grown now.lines now.entries (sync_runs n script budget now.state)) →
    IsRest script budget so → IsRest script budget now
one_more script budget so now turns rest = record {
  turns = rest.turns + 1;
  is = λ n.
      let more : (rest.turns + 1) + n ≡ rest.turns + suc n = omega arith in
      ap (λ (k : ℕ). sync_after (start script).lines (sync_runs k script budget (start script).state)) more ∙ (rest.is (suc n) ∙ turns n);
}

first_rest : (script : Script) (budget n : ℕ) →
    sync_after (start script).lines (sync_runs (0 + n) script budget (start script).state) ≡ grown (start script).lines [] (sync_runs n script budget (start script).state)
first_rest script budget n =
    let none : 0 + n ≡ n = omega arith in ap (λ (k : ℕ). sync_after (start script).lines (sync_runs k script budget (start script).state)) none

went_rest : (script : Script) (budget : ℕ) (so : SoFar) (event : Event) → step script modes.Sync budget so.state ≡ Went event None → IsRest script budget so →
    IsRest script budget (after_event so event)
went_rest script budget so event is rest =
    one_more script budget so (after_event so event)
    (λ n. ap (λ (run : SyncRun). grown so.lines so.entries run) (went_turn script budget n so.state event is)
    ∙ grown_lines so.lines event.lines so.entries (sync_runs n script budget (taken event.state))) rest

needs_rest : (script : Script) (budget : ℕ) (so : SoFar) (waiting : State) → SyncSound so.state → step script modes.Sync budget so.state ≡ Needs waiting → IsRest script budget so →
    IsRest script budget (after_need so waiting)
needs_rest script budget so waiting sound is rest = record {
  turns = rest.turns;
  is = λ n. rest.is n ∙ ap (λ (run : SyncRun). grown so.lines so.entries run) (needs_turn script budget n so.state waiting sound is);
}

same_entry : (n : ℕ) (named : Ending) (script : Script) (budget : ℕ) (st : State) → IsNeeded script budget st named → entry_of n named ≡ entry_before n named
same_entry n named script budget st is = ap (λ (how : How). record { place = n; device = named.device; request = named.request; how = how }) (sym is.how)

ending_rest : (script : Script) (budget : ℕ) (so : SoFar) (named : Ending) (event : Event) → taken so.state ≡ so.state → IsNeeded script budget so.state named →
    arrived script modes.Sync so.state named ≡ Some event →
    IsRest script budget so → IsRest script budget (after_ending so named event)
ending_rest script budget so named event same is comes rest =
    let place : ℕ = so.state.steps + 1 in
    one_more script budget so (after_ending so named event)
    (λ n.
    let run : SyncRun = sync_runs n script budget (taken event.state) in
    ap (λ (it : SyncRun). grown so.lines so.entries it) (named_turn script budget n so.state named event same is comes)
    ∙ (ap (λ (entry : Entry). grown so.lines so.entries (with_entry entry (sync_after event.lines run))) (same_entry place named script budget so.state is)
    ∙ (grown_entry so.lines so.entries (entry_before place named) (sync_after event.lines run) ∙ grown_lines so.lines event.lines (so.entries ++ entry_before place named ∷ []) run))) rest

rest_so_far : (script : Script) (budget : ℕ) (so : SoFar) → IsRunnable script → IsSoFar script modes.Sync budget so → IsRest script budget so
rest_so_far script budget so runnable begins = record { turns = 0; is = first_rest script budget }
rest_so_far script budget so runnable (goes_on {so = before} {event = event} is went) = went_rest script budget before event went (rest_so_far script budget before runnable is)
rest_so_far script budget so runnable (needs {so = before} {waiting = waiting} is needed) =
    needs_rest script budget before waiting (syncs_so_far script budget before runnable is) needed (rest_so_far script budget before runnable is)
rest_so_far script budget so runnable (takes_in {so = before} {named = named} {event = event} is may names comes) =
    ending_rest script budget before named event (taken_same script before.state (sound_so_far script modes.Sync budget before is))
    (named_needed script budget before.state (before.state.steps + 1) named (syncs_so_far script budget before runnable is) names) comes (rest_so_far script budget before runnable is)

-- ---- the run of sync mode

whole_rest : (script : Script) (budget n : ℕ) (so : SoFar) → 1 ≤ budget → 2 * budget ≤ n → IsRest script budget so →
    sync_run script budget ≡ grown so.lines so.entries (sync_runs n script budget so.state)
whole_rest script budget n so least enough rest = sym (sync_with_more script budget (rest.turns + n) least (omega (arith, enough))) ∙ rest.is n

-- what has come of a run is a front of it
pub sync_so_far : (script : Script) (budget : ℕ) (so : SoFar) → IsRunnable script → 1 ≤ budget → IsSoFar script modes.Sync budget so →
    (rest : SyncRun) × (sync_run script budget ≡ grown so.lines so.entries rest)
sync_so_far script budget so runnable least is =
    (sync_runs (2 * budget) script budget so.state, whole_rest script budget (2 * budget) so least (omega arith) (rest_so_far script budget so runnable is))

pub sync_front : (script : Script) (budget : ℕ) (so : SoFar) → IsRunnable script → 1 ≤ budget → IsSoFar script modes.Sync budget so →
    (rest : List Line) × (lines_of (sync_trace script budget) ≡ so.lines ++ rest)
sync_front script budget so runnable least is =
    let whole = sync_so_far script budget so runnable least is in
    let run : SyncRun = whole.0 in (
      run.trace.lines ++ lines.End run.trace.steps run.trace.last ∷ [],
      ap (λ (it : SyncRun). lines_of it.trace) whole.1 ∙ append_assoc so.lines run.trace.lines (lines.End run.trace.steps run.trace.last ∷ []),
    )

-- where the run is over with a step
pub sync_ended : (script : Script) (budget : ℕ) (so : SoFar) (event : Event) (end : End) → IsRunnable script → 1 ≤ budget → IsSoFar script modes.Sync budget so →
    step script modes.Sync budget so.state ≡ Went event (Some end) →
    sync_run script budget ≡ record { trace = record { lines = so.lines ++ event.lines; steps = event.state.steps; last = last_of end }; entries = so.entries }
sync_ended script budget so event end runnable least is over =
    whole_rest script budget (suc (2 * budget)) so least (omega arith) (rest_so_far script budget so runnable is)
    ∙ (ap (λ (run : SyncRun). grown so.lines so.entries run) (last_turn script budget (2 * budget) so.state event end over)
    ∙ (ap (λ (all : List Line). record { trace = record { lines = so.lines ++ all; steps = event.state.steps; last = last_of end }; entries = so.entries ++ [] }) (append-nil event.lines)
    ∙ ap (λ (all : List Entry). record { trace = record { lines = so.lines ++ event.lines; steps = event.state.steps; last = last_of end }; entries = all }) (append-nil so.entries)))

-- and where nothing is left to do
pub sync_idle : (script : Script) (budget : ℕ) (so : SoFar) → IsRunnable script → 1 ≤ budget → IsSoFar script modes.Sync budget so → step script modes.Sync budget so.state ≡ Ends →
    sync_run script budget ≡ record { trace = record { lines = so.lines; steps = so.state.steps; last = lasts.Idle }; entries = so.entries }
sync_idle script budget so runnable least is over =
    whole_rest script budget (suc (2 * budget)) so least (omega arith) (rest_so_far script budget so runnable is)
    ∙ (ap (λ (run : SyncRun). grown so.lines so.entries run) (idle_turn script budget (2 * budget) so.state over)
    ∙ (ap (λ (all : List Line). record { trace = record { lines = all; steps = so.state.steps; last = lasts.Idle }; entries = so.entries ++ [] }) (append-nil so.lines)
    ∙ ap (λ (all : List Entry). record { trace = record { lines = so.lines; steps = so.state.steps; last = lasts.Idle }; entries = all }) (append-nil so.entries)))
