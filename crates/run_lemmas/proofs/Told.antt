-- The lines of a run so far tell the endings that it took in, and so does its trace, which is done again from them.
use Rattle.std.proofs.Common.{◌≡◌, ℕ, ◌+◌, ◌≤◌, List, [], ◌∷◌, ◌++◌, length, Option, Some, None, refl, ◌∙◌, ap, subst, length-append, arith}
use Rattle.std.proofs.lemmas.List.{append-nil}
use Rattle.std.proofs.lemmas.List.Elements.{filter_map-append}
use Rattle.std.specs.Option.{option_map}
use Rattle.tk_types.specs.declared.line.Entry.{Entry}
use Rattle.tk_types.specs.declared.line.How.{How}
use Rattle.tk_types.specs.declared.line.How.TheVariants as hows
use Rattle.tk_types.specs.declared.line.Line.{Line}
use Rattle.tk_types.specs.declared.run.End.{End}
use Rattle.tk_types.specs.declared.run.Mode.{Mode}
use Rattle.tk_types.specs.declared.script.Script.{Script}
use Rattle.tk_model.specs.Journal.{entry_of, how_of, journal_of}
use Rattle.device_model.specs.declared.messages.Ending.{Ending}
use Rattle.device_model.specs.Devices.Endings.{DevParts, arrive}
use Rattle.machine_model.specs.States.Objects.{dev_parts, with_devices}
use Rattle.machine_model.specs.States.State.{State, parts_of, state_start, with_parts}
use Rattle.machine_model.specs.Events.Arrivals.{after_arrival, arrived, ending_line, shown_ending}
use Rattle.machine_model.specs.Events.Follow.{Event, followed}
use Rattle.machine_model.specs.Runs.Step.{Ends, Needs, Pace, Went, any_unfinished, counted, ended_or_went, has_event, is_quiet, needed, needed_or, step, step_if}
use Rattle.std.specs.Prelude.{Bool, true, false, not, ◌&&◌}
use Rattle.machine_model.specs.Runs.Trace.{lines_of, start, trace}
use Rattle.journal_laws.proofs.Feeding.{front_told}
use Rattle.journal_laws.proofs.Quiet.{IsQuiet, followed_quiet, start_quiet, worked_quiet}
use Rattle.run_model.specs.SoFar.{IsSoFar, SoFar, begins, entry_before, goes_on, needs, takes_in}
use Rattle.run_lemmas.proofs.Ends.{front_of}

-- ---- a step has no line of an ending

abbrev DoesQuietly : Pace → Type 0
DoesQuietly (Went event over) = IsQuiet event.lines
DoesQuietly (Needs st) = Unit {0}
DoesQuietly Ends = Unit {0}

ended_quietly : (over : Bool) (script : Script) (mode : Mode) (budget : ℕ) (st : State) → DoesQuietly (ended_or_went over script mode budget st)
unfolding counted
ended_quietly true script mode budget st = tt
ended_quietly false script mode budget st = worked_quiet script mode (st.steps + 1) st

needed_quietly : (waiting : Option State) (set : Bool) (script : Script) (mode : Mode) (budget : ℕ) (st : State) → DoesQuietly (needed_or waiting set script mode budget st)
needed_quietly (Some now) set script mode budget st = tt
needed_quietly None set script mode budget st = ended_quietly (not set && not (any_unfinished st.objects.devices)) script mode budget st

cases_quietly : (quiet : Bool) (script : Script) (mode : Mode) (budget : ℕ) (st : State) → DoesQuietly (step_if quiet script mode budget st)
cases_quietly true script mode budget st = let set : Bool = has_event script (st.steps + 1) st in needed_quietly (needed mode set st) set script mode budget st
cases_quietly false script mode budget st = ended_quietly false script mode budget st

step_quietly : (script : Script) (mode : Mode) (budget : ℕ) (st : State) → DoesQuietly (step script mode budget st)
unfolding step
step_quietly script mode budget st = cases_quietly (is_quiet st) script mode budget st

pub went_quiet : (script : Script) (mode : Mode) (budget : ℕ) (st : State) (event : Event) (over : Option End) → step script mode budget st ≡ Went event over → journal_of event.lines ≡ []
went_quiet script mode budget st event over went = subst DoesQuietly went (step_quietly script mode budget st)

-- ---- an ending that arrives has its line

shown_back : (e : Ending) (how : How) → how_of (shown_ending e how) ≡ how
shown_back e hows.Done = refl
shown_back e (hows.Cut moved) = refl

line_entry : (n : ℕ) (e : Ending) (lines : List Line) → IsQuiet lines → journal_of (ending_line n e ∷ lines) ≡ entry_before n e ∷ []
unfolding entry_of
line_entry n e lines quiet =
    ap (λ (how : How). record { place = n; device = e.device; request = e.request; how = how } ∷ journal_of lines) (shown_back e e.how)
    ∙ ap (λ (entries : List Entry). entry_before n e ∷ entries) quiet

arrival_told : (script : Script) (mode : Mode) (st : State) (e : Ending) (event : Event) (left : Option DevParts) → option_map (after_arrival script mode (st.steps + 1) st e) left ≡ Some event → journal_of event.lines ≡ entry_before (st.steps + 1) e ∷ []
arrival_told script mode st e event None comes = absurd (cc comes)
arrival_told script mode st e event (Some q) comes =
    let one : after_arrival script mode (st.steps + 1) st e q ≡ event = cc comes in
    let next : State = with_parts st (with_devices (parts_of st) q) in
    subst (λ (it : Event). journal_of it.lines ≡ entry_before (st.steps + 1) e ∷ []) one (line_entry (st.steps + 1) e (followed script mode (st.steps + 1) next).lines (followed_quiet script mode (st.steps + 1) next))

pub arrived_told : (script : Script) (mode : Mode) (st : State) (e : Ending) (event : Event) → arrived script mode st e ≡ Some event → journal_of event.lines ≡ entry_before (st.steps + 1) e ∷ []
unfolding arrived
arrived_told script mode st e event comes = arrival_told script mode st e event (arrive (dev_parts (parts_of st)) e) comes

-- ---- the lines of a run

started_quiet : (script : Script) → journal_of (start script).lines ≡ []
unfolding start
started_quiet script = start_quiet (state_start script)

-- the lines so far tell the endings so far
pub told_so_far : (script : Script) (mode : Mode) (budget : ℕ) (so : SoFar) → IsSoFar script mode budget so → journal_of so.lines ≡ so.entries
told_so_far script mode budget _ begins = started_quiet script
told_so_far script mode budget _ (goes_on {so = so} {event = event} is went) =
    filter_map-append entry_of so.lines event.lines
    ∙ ap (λ (back : List Entry). journal_of so.lines ++ back) (went_quiet script mode budget so.state event None went)
    ∙ append-nil (journal_of so.lines)
    ∙ told_so_far script mode budget so is
told_so_far script mode budget _ (needs {so = so} {waiting = waiting} is needed) = told_so_far script mode budget so is
told_so_far script mode budget _ (takes_in {so = so} {named = named} {event = event} is may at comes) =
    filter_map-append entry_of so.lines event.lines
    ∙ ap (λ (back : List Entry). journal_of so.lines ++ back) (arrived_told script mode so.state named event comes)
    ∙ ap (λ (front : List Entry). front ++ entry_before (so.state.steps + 1) named ∷ []) (told_so_far script mode budget so is)

-- ---- the trace of a run

none_behind : (xs ys zs : List Entry) → xs ≡ (xs ++ ys) ++ zs → ys ≡ []
none_behind xs [] zs is = refl
none_behind xs (y ∷ ys) zs is =
    let many = ap (λ (all : List Entry). length all) is in
    let one = length-append (xs ++ y ∷ ys) zs in
    let two = length-append xs (y ∷ ys) in
    absurd (omega (arith, many, one, two))

-- the trace that is fed with the endings so far tells them, though the run goes on
pub trace_tells : (script : Script) (mode : Mode) (budget : ℕ) (so : SoFar) → 1 ≤ budget → IsSoFar script mode budget so → journal_of (lines_of (trace script mode budget so.entries)) ≡ so.entries
trace_tells script mode budget so least is =
    let front = front_of script mode budget so least is in
    let told = front_told script mode budget so.entries in
    let all : journal_of (lines_of (trace script mode budget so.entries)) ≡ so.entries ++ journal_of front.0 =
    ap journal_of front.1 ∙ filter_map-append entry_of so.lines front.0 ∙ ap (λ (mine : List Entry). mine ++ journal_of front.0) (told_so_far script mode budget so is) in
    let none : journal_of front.0 ≡ [] = none_behind so.entries (journal_of front.0) told.0 (told.1 ∙ ap (λ (mine : List Entry). mine ++ told.0) all) in
    all ∙ ap (λ (back : List Entry). so.entries ++ back) none ∙ append-nil so.entries

-- so it is done again from what it wrote
pub replays : (script : Script) (mode : Mode) (budget : ℕ) (so : SoFar) → 1 ≤ budget → IsSoFar script mode budget so →
    trace script mode budget (journal_of (lines_of (trace script mode budget so.entries))) ≡ trace script mode budget so.entries
replays script mode budget so least is = ap (trace script mode budget) (trace_tells script mode budget so least is)
