-- What a run has written is a front of a trace that its own J lines define, and when it is over it is that trace.
use Rattle.std.proofs.Common.{◌≡◌, ℕ, ◌+◌, List, [], ◌∷◌, ◌++◌, length, Some, None, ap, sym, subst, ◌∙◌, arith}
use Rattle.std.proofs.lemmas.List.{append_assoc, append-nil}
use Rattle.tk_types.specs.declared.line.LastLine.{LastLine}
use Rattle.tk_types.specs.declared.line.Line.{Line}
use Rattle.tk_types.specs.declared.line.Line.TheVariants as lines
use Rattle.tk_types.specs.declared.run.End.{End}
use Rattle.tk_types.specs.declared.run.End.TheVariants as ends
use Rattle.tk_types.specs.declared.run.Mode.{Mode}
use Rattle.tk_types.specs.declared.run.Mode.TheVariants as modes
use Rattle.tk_types.specs.declared.script.Script.{Script}
use Rattle.device_model.specs.declared.messages.Message.{Message}
use Rattle.device_model.specs.Devices.Handing.{messages}
use Rattle.fleet_model.specs.Fleets.{EachHasPlace, Fleet}
use Rattle.machine_model.specs.States.State.{taken}
use Rattle.machine_model.specs.Events.Follow.{Event}
use Rattle.machine_model.specs.Runs.Machine.{Machine}
use Rattle.machine_model.specs.Runs.Step.{Ends, Went, step}
use Rattle.machine_model.specs.Runs.SyncTrace.{SyncRun, sync_trace}
use Rattle.machine_model.specs.Runs.Trace.{Trace, last_of, lines_of, trace}
use Rattle.run_model.specs.Passings.{Passing, passings}
use Rattle.run_model.specs.SoFar.{IsSoFar, SoFar}
use Rattle.count_lemmas.proofs.Steps.{step_steps}
use Rattle.fleet_lemmas.specs.Follows.{Follows}
use Rattle.fleet_lemmas.proofs.Follows.{follows_given}
use Rattle.run_lemmas.proofs.Ends.{ended_by, ends_idle, ends_with, front_of, idle_after}
use Rattle.run_lemmas.proofs.Told.{trace_tells}
use Rattle.way_lemmas.proofs.Channels.{way_places, with_none}
use Rattle.way_lemmas.proofs.Fleets.{each_goes_on}
use Rattle.way_lemmas.proofs.Sounds.{sound_so_far}
use Rattle.way_lemmas.proofs.SyncRuns.{sync_ended, sync_front, sync_idle}
use Rattle.way_lemmas.proofs.Waiting.{messages_fit}
use Rattle.turn_lemmas.specs.Going.{Going, Hands, IsFleetRun, IsFrontOf, IsOver, MayHand}
use Rattle.turn_lemmas.proofs.Moves.{good_of, ways_of, with_places}

-- ---- in sync mode

in_sync : (script : Script) (mode : Mode) (budget : ℕ) (so : SoFar) → mode ≡ modes.Sync → IsSoFar script mode budget so → IsSoFar script modes.Sync budget so
in_sync script mode budget so same is = subst (λ (m : Mode). IsSoFar script m budget so) same is

fronts_sync : (script : Script) (mode : Mode) (budget : ℕ) (so : SoFar) → IsFleetRun script budget → mode ≡ modes.Sync → IsSoFar script mode budget so → (later : List Line) × (lines_of (sync_trace script budget) ≡ so.lines ++ later)
fronts_sync script mode budget so run same is = sync_front script budget so run.runnable run.low (in_sync script mode budget so same is)

went_sync : (script : Script) (mode : Mode) (budget : ℕ) (so : SoFar) (event : Event) (end : End) → IsFleetRun script budget → mode ≡ modes.Sync → IsSoFar script mode budget so → step script mode budget so.state ≡ Went event (Some end) →
    sync_trace script budget ≡ ended_by so event end
went_sync script mode budget so event end run same is went =
    ap (λ (r : SyncRun). r.trace) (sync_ended script budget so event end run.runnable run.low (in_sync script mode budget so same is) (subst (λ (m : Mode). step script m budget so.state ≡ Went event (Some end)) same went))

idle_sync : (script : Script) (mode : Mode) (budget : ℕ) (so : SoFar) → IsFleetRun script budget → mode ≡ modes.Sync → IsSoFar script mode budget so → step script mode budget so.state ≡ Ends → sync_trace script budget ≡ idle_after so
idle_sync script mode budget so run same is ends =
    ap (λ (r : SyncRun). r.trace) (sync_idle script budget so run.runnable run.low (in_sync script mode budget so same is) (subst (λ (m : Mode). step script m budget so.state ≡ Ends) same ends))

-- ---- fronts

pub so_far_front : (script : Script) (mode : Mode) (budget : ℕ) (so : SoFar) → IsFleetRun script budget → IsSoFar script mode budget so → IsFrontOf script mode budget so.lines
so_far_front script mode budget so run is =
    let front = front_of script mode budget so run.low is in
    record {
      entries = so.entries;
      rest = front.0;
      is = front.1;
      own = trace_tells script mode budget so run.low is;
      sync = λ same. fronts_sync script mode budget so run same is;
    }

-- ---- the run is over

whole_lines : (so : List Line) (steps : ℕ) (last : LastLine) (more : List Line) → (so ++ more) ++ lines.End steps last ∷ [] ≡ so ++ (more ++ lines.End steps last ∷ [])
whole_lines so steps last more = append_assoc so more (lines.End steps last ∷ [])

-- by a step
pub went_over : (script : Script) (mode : Mode) (budget : ℕ) (so : SoFar) (machine : Machine) (fleet : Fleet) (event : Event) (end : End) → IsFleetRun script budget → Going script mode budget so None 1 machine fleet →
    step script mode budget so.state ≡ Went event (Some end) →
    IsOver script mode budget (so.lines ++ (event.lines ++ lines.End event.state.steps (last_of end) ∷ [])) end (messages event.state.objects.devices) fleet
went_over script mode budget so machine fleet event end run g is =
    let two = ends_with script mode budget so event end run.low g.so_far is in
    let steps : event.state.steps ≡ so.state.steps + 1 = step_steps script mode budget so.state event (Some end) is in
    let count : (trace script mode budget so.entries).steps ≡ event.state.steps = ap (λ (t : Trace). t.steps) two.0 in
    record {
      entries = so.entries;
      is = ap lines_of two.0 ∙ whole_lines so.lines event.state.steps (last_of end) event.lines;
      own = trace_tells script mode budget so run.low g.so_far;
      sync = λ same. two.0 ∙ sym (went_sync script mode budget so event end run same g.so_far is);
      last = ap (λ (t : Trace). t.last) two.0;
      follows = subst (λ (p : List Passing). Follows p (length so.entries) (messages event.state.objects.devices) None fleet) (sym two.1)
          (follows_given so.passings (length so.entries) (messages event.state.objects.devices) None fleet g.follows);
      devices = (taken event.state).objects.devices;
      ways = each_goes_on script mode budget so.state event (Some end) fleet.channels is (sound_so_far script mode budget so g.so_far) (ways_of so.state fleet.channels g.ways);
      good = good_of (length fleet.channels) (length script.devices) (messages event.state.objects.devices) g.many ((messages_fit script mode budget so g.so_far).went event (Some end) is);
      kinds = g.kinds;
      polls = omega (arith, steps, count, g.polls);
    }

-- because nothing is left to do
pub idle_over : (script : Script) (mode : Mode) (budget : ℕ) (so : SoFar) (more : ℕ) (machine : Machine) (fleet : Fleet) → IsFleetRun script budget → Going script mode budget so None more machine fleet →
    step script mode budget so.state ≡ Ends → IsOver script mode budget (so.lines ++ lines.End so.state.steps (last_of ends.Idle) ∷ []) ends.Idle [] fleet
idle_over script mode budget so more machine fleet run g is =
    let two = ends_idle script mode budget so run.low g.so_far is in
    let count : (trace script mode budget so.entries).steps ≡ so.state.steps = ap (λ (t : Trace). t.steps) two.0 in
    record {
      entries = so.entries;
      is = ap lines_of two.0;
      own = trace_tells script mode budget so run.low g.so_far;
      sync = λ same. two.0 ∙ sym (idle_sync script mode budget so run same g.so_far is);
      last = ap (λ (t : Trace). t.last) two.0;
      follows = subst (λ (p : List Passing). Follows p (length so.entries) [] None fleet) (sym two.1) g.follows;
      devices = so.state.objects.devices;
      ways = g.ways;
      good = tt;
      kinds = g.kinds;
      polls = omega (arith, count, g.polls);
    }

pub over_may : (script : Script) (mode : Mode) (budget : ℕ) (all : List Line) (end : End) (ms : List Message) (fleet : Fleet) → IsOver script mode budget all end ms fleet → MayHand fleet ms
over_may script mode budget all end ms fleet o = record { devices = o.devices; ways = o.ways; good = o.good }

-- the last messages are handed
pub over_handed : (script : Script) (mode : Mode) (budget : ℕ) (all : List Line) (end : End) (ms : List Message) (old new : Fleet) → IsOver script mode budget all end ms old → Hands old ms new [] → IsOver script mode budget all end [] new
over_handed script mode budget all end ms old new o h =
    let polls : new.polls ≡ old.polls = h.polls in
    record {
      entries = o.entries;
      is = o.is;
      own = o.own;
      sync = o.sync;
      last = o.last;
      follows = h.follows (passings script mode budget o.entries) (length o.entries) None o.follows;
      devices = o.devices;
      ways = h.ways o.devices o.ways;
      good = tt;
      kinds = h.kinds ∙ o.kinds;
      polls = omega (arith, polls, o.polls);
    }

pub over_places : (script : Script) (mode : Mode) (budget : ℕ) (all : List Line) (end : End) (fleet : Fleet) → IsOver script mode budget all end [] fleet → EachHasPlace fleet.channels
over_places script mode budget all end fleet o = way_places o.devices fleet.channels (with_none o.devices fleet.channels o.ways)

pub over_waits : (script : Script) (mode : Mode) (budget : ℕ) (all : List Line) (end : End) (ms : List Message) (fleet : Fleet) → IsOver script mode budget all end ms fleet → EachHasPlace fleet.channels
over_waits script mode budget all end ms fleet o = with_places o.devices fleet.channels ms o.ways

-- what is over is a whole trace, so also a front of one
pub over_front : (script : Script) (mode : Mode) (budget : ℕ) (all : List Line) (end : End) (ms : List Message) (fleet : Fleet) → IsOver script mode budget all end ms fleet → IsFrontOf script mode budget all
over_front script mode budget all end ms fleet o = record {
  entries = o.entries;
  rest = [];
  is = o.is ∙ sym (append-nil all);
  own = o.own;
  sync = λ same. ([], ap lines_of (sym (o.sync same)) ∙ (o.is ∙ sym (append-nil all)));
}
