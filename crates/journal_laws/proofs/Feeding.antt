-- The endings in the lines of a trace are the entries that it was fed.
use Rattle.std.proofs.Common.{◌≡◌, ℕ, zero, suc, ◌+◌, Bool, true, false, cond, not, ◌&&◌, List, [], ◌∷◌, ◌++◌, Option, Some, None, length, refl, ◌∙◌, ap, sym, subst, arith}
use Rattle.std.specs.Bool.{◌==◌}
use Rattle.std.specs.Prelude.{nat_le}
use Rattle.std.specs.Option.{option_map}
use Rattle.std.proofs.lemmas.Bool.Decides.{nat_tests}
use Rattle.std.proofs.lemmas.List.{append-nil}
use Rattle.std.proofs.lemmas.List.Elements.{filter_map-append}
use Rattle.tk_types.specs.declared.line.Entry.{Entry}
use Rattle.tk_types.specs.declared.line.How.{How}
use Rattle.tk_types.specs.declared.line.How.TheVariants as hows
use Rattle.tk_types.specs.declared.line.LastLine.{LastLine}
use Rattle.tk_types.specs.declared.line.LastLine.TheVariants as lasts
use Rattle.tk_types.specs.declared.line.Line.{Line}
use Rattle.tk_types.specs.declared.line.Line.TheVariants as lines
use Rattle.tk_types.specs.declared.run.End.{End}
use Rattle.tk_types.specs.declared.run.End.TheVariants as ends
use Rattle.tk_types.specs.declared.run.Mode.{Mode}
use Rattle.tk_types.specs.declared.run.Mode.TheVariants as modes
use Rattle.tk_types.specs.declared.script.Script.{Script}
use Rattle.tk_model.specs.Journal.{entry_of, how_of, journal_of}
use Rattle.device_model.specs.declared.messages.Ending.{Ending}
use Rattle.device_model.specs.Devices.Endings.{DevParts, arrive, expected, expected_given, expected_link}
use Rattle.device_model.specs.Devices.Tables.{Devices, Given, Link, link_at}
use Rattle.machine_model.specs.States.Objects.{dev_parts, with_devices}
use Rattle.machine_model.specs.States.State.{State, parts_of, state_start, taken, with_parts}
use Rattle.machine_model.specs.Events.Follow.{Event, followed}
use Rattle.machine_model.specs.Events.Arrivals.{after_arrival, arrived, ending_line, shown_ending}
use Rattle.machine_model.specs.Runs.Step.{Ends, Needs, Pace, Went, any_unfinished, counted, ended_or_went, has_event, is_quiet, needed, needed_or, step, step_if}
use Rattle.machine_model.specs.Runs.Trace.{Rest, Trace, after, arrived_if, entered, free_pace, free_turn, is_next_by, last_line, lines_of, named_ending, of_request, over_with, run_entered, run_turn, run_went, runs, start, sync_pace, trace, without_ending}
use Rattle.journal_laws.specs.Fed.{IsFed, is_whole}
use Rattle.journal_laws.proofs.Quiet.{IsQuiet, followed_quiet, start_quiet, worked_quiet}

-- ---- an entry's ending

-- the ending that is expected is one of that device, of that kind
abbrev pub IsNamed : ℕ → How → Option Ending → Type 0
IsNamed d how some = (e : Ending) → some ≡ Some e → (e.device ≡ d) × (e.how ≡ how)

none_named : (d : ℕ) (how : How) → IsNamed d how None
none_named d how e at = absurd (cc at)

if_named : (d : ℕ) (how : How) (test : Bool) (some : Option Ending) → IsNamed d how some → IsNamed d how (cond test some None)
if_named d how true some is = is
if_named d how false some is = none_named d how

one_named : (d : ℕ) (how : How) (it : Ending) → it.device ≡ d → it.how ≡ how → IsNamed d how (Some it)
one_named d how it device same e at = let one : it ≡ e = cc at in (subst (λ (x : Ending). x.device ≡ d) one device, subst (λ (x : Ending). x.how ≡ how) one same)

given_named : (d : ℕ) (how : How) (link : Link) (given : Option Given) → IsNamed d how (expected_given d how link given)
given_named d how link None = none_named d how
given_named d how link (Some given) = if_named d how _ (Some _) (one_named d how _ refl refl)

link_named : (d : ℕ) (how : How) (link : Option Link) → IsNamed d how (expected_link d how link)
link_named d how None = none_named d how
link_named d how (Some link) = given_named d how link link.given

pub expected_named : (dv : Devices) (d : ℕ) (how : How) → IsNamed d how (expected dv d how)
unfolding expected
expected_named dv d how = link_named d how (link_at dv d)

shown_back : (e : Ending) (how : How) → how_of (shown_ending e how) ≡ how
shown_back e hows.Done = refl
shown_back e (hows.Cut moved) = refl

-- an event whose only ending is that of the entry
abbrev Enters : Entry → Option Event → Type 0
Enters entry next = (event : Event) → next ≡ Some event → journal_of event.lines ≡ entry ∷ []

same_entry : (n d r : ℕ) (how : How) (entry : Entry) → n ≡ entry.place → d ≡ entry.device → r ≡ entry.request → how ≡ entry.how → record { place = n; device = d; request = r; how = how } ≡ entry
same_entry n d r how entry place device request same =
    ap (λ (n : ℕ). record { place = n; device = d; request = r; how = how }) place
    ∙ ap (λ (d : ℕ). record { place = entry.place; device = d; request = r; how = how }) device
    ∙ ap (λ (r : ℕ). record { place = entry.place; device = entry.device; request = r; how = how }) request
    ∙ ap (λ (how : How). record { place = entry.place; device = entry.device; request = entry.request; how = how }) same

none_enters : (entry : Entry) → Enters entry None
none_enters entry event at = absurd (cc at)

line_entry : (n : ℕ) (e : Ending) (lines : List Line) → IsQuiet lines → journal_of (ending_line n e ∷ lines) ≡ record { place = n; device = e.device; request = e.request; how = e.how } ∷ []
unfolding entry_of
line_entry n e lines quiet =
    ap (λ (how : How). record { place = n; device = e.device; request = e.request; how = how } ∷ journal_of lines) (shown_back e e.how)
    ∙ ap (λ (entries : List Entry). record { place = n; device = e.device; request = e.request; how = e.how } ∷ entries) quiet

mapped_enters : (script : Script) (mode : Mode) (st : State) (e : Ending) (entry : Entry) (parts : Option DevParts) → record { place = st.steps + 1; device = e.device; request = e.request; how = e.how } ≡ entry →
    Enters entry (option_map (after_arrival script mode (st.steps + 1) st e) parts)
mapped_enters script mode st e entry None same event at = absurd (cc at)
mapped_enters script mode st e entry (Some q) same event at =
    let one : after_arrival script mode (st.steps + 1) st e q ≡ event = cc at in
    let next : State = with_parts st (with_devices (parts_of st) q) in
    let lines = line_entry (st.steps + 1) e (followed script mode (st.steps + 1) next).lines (followed_quiet script mode (st.steps + 1) next) in
    subst (λ (it : Event). journal_of it.lines ≡ entry ∷ []) one (lines ∙ ap (λ (it : Entry). it ∷ []) same)

arrived_enters : (script : Script) (mode : Mode) (st : State) (e : Ending) (entry : Entry) → record { place = st.steps + 1; device = e.device; request = e.request; how = e.how } ≡ entry → Enters entry (arrived script mode st e)
unfolding arrived
arrived_enters script mode st e entry same = mapped_enters script mode st e entry (arrive (dev_parts (parts_of st)) e) same

named_enters : (script : Script) (mode : Mode) (st : State) (entry : Entry) (some : Option Ending) → (st.steps + 1 ≡ entry.place) → ((e : Ending) → some ≡ Some e → (e.device ≡ entry.device) × (e.how ≡ entry.how) × (e.request ≡ entry.request)) →
    Enters entry (arrived_if script mode st some)
named_enters script mode st entry None place is = none_enters entry
named_enters script mode st entry (Some e) place is =
    let named = is e refl in
    arrived_enters script mode st e entry (same_entry (st.steps + 1) e.device e.request e.how entry place named.0 named.2 named.1)

by_request : (request : ℕ) (some : Option Ending) (d : ℕ) (how : How) → IsNamed d how some → (e : Ending) → of_request request some ≡ Some e → (e.device ≡ d) × (e.how ≡ how) × (e.request ≡ request)
by_request request None d how is e at = absurd (cc at)
by_request request (Some it) d how is e at = of_test (it.request == request) refl at
  where
    of_test : (test : Bool) → (it.request == request) ≡ test → cond test (Some it) None ≡ Some e → (e.device ≡ d) × (e.how ≡ how) × (e.request ≡ request)
    of_test true same found =
        let one : it ≡ e = cc found in
        let named = is it refl in
        let asked : it.request ≡ request = grind (arith, nat_tests, same) in
        (subst (λ (x : Ending). x.device ≡ d) one named.0, subst (λ (x : Ending). x.how ≡ how) one named.1, subst (λ (x : Ending). x.request ≡ request) one asked)
    of_test false same found = absurd (cc found)

if_enters : (entry : Entry) (test : Bool) (some : Option Event) → (test ≡ true → Enters entry some) → Enters entry (cond test some None)
if_enters entry true some is = is refl
if_enters entry false some is = none_enters entry

entered_enters : (script : Script) (mode : Mode) (st : State) (entry : Entry) → Enters entry (entered script mode st entry)
unfolding entered
entered_enters script mode st entry =
    if_enters entry (entry.place == st.steps + 1) (arrived_if script mode st (named_ending st entry))
    (λ now. named_enters script mode st entry (named_ending st entry) (grind (arith, nat_tests, now))
    (by_request entry.request (expected st.objects.devices entry.device entry.how) entry.device entry.how (expected_named st.objects.devices entry.device entry.how)))

-- ---- a step

-- what is done has no line of an ending
abbrev DoesQuietly : Pace → Type 0
DoesQuietly (Went event over) = IsQuiet event.lines
DoesQuietly (Needs st) = Unit {0}
DoesQuietly Ends = Unit {0}

ended_quietly : (ends : Bool) (script : Script) (mode : Mode) (budget : ℕ) (st : State) → DoesQuietly (ended_or_went ends script mode budget st)
unfolding counted
ended_quietly true script mode budget st = tt
ended_quietly false script mode budget st = worked_quiet script mode (st.steps + 1) st

needed_quietly : (waiting : Option State) (event : Bool) (script : Script) (mode : Mode) (budget : ℕ) (st : State) → DoesQuietly (needed_or waiting event script mode budget st)
needed_quietly (Some now) event script mode budget st = tt
needed_quietly None event script mode budget st = ended_quietly (not event && not (any_unfinished st.objects.devices)) script mode budget st

cases_quietly : (quiet : Bool) (script : Script) (mode : Mode) (budget : ℕ) (st : State) → DoesQuietly (step_if quiet script mode budget st)
cases_quietly true script mode budget st =
    let event : Bool = has_event script (st.steps + 1) st in needed_quietly (needed mode event st) event script mode budget st
cases_quietly false script mode budget st = ended_quietly false script mode budget st

step_quietly : (script : Script) (mode : Mode) (budget : ℕ) (st : State) → DoesQuietly (step script mode budget st)
unfolding step
step_quietly script mode budget st = cases_quietly (is_quiet st) script mode budget st

-- ---- a run

fed_after : (lines : List Line) (entries : List Entry) (t : Trace) → IsQuiet lines → IsFed entries t → IsFed entries (after lines t)
fed_after lines entries t quiet fed = record {
  left = fed.left;
  all = fed.all ∙ ap (λ (mine : List Entry). mine ++ fed.left) (sym (filter_map-append entry_of lines t.lines ∙ ap (λ (front : List Entry). front ++ journal_of t.lines) quiet));
  none_left = fed.none_left;
}

fed_entered : (lines : List Line) (entry : Entry) (entries : List Entry) (t : Trace) → journal_of lines ≡ entry ∷ [] → IsFed entries t → IsFed (entry ∷ entries) (after lines t)
fed_entered lines entry entries t enters fed = record {
  left = fed.left;
  all = ap (λ (later : List Entry). entry ∷ later) fed.all ∙ ap (λ (mine : List Entry). mine ++ fed.left) (sym (filter_map-append entry_of lines t.lines ∙ ap (λ (front : List Entry). front ++ journal_of t.lines) enters));
  none_left = fed.none_left;
}

-- the run is over, and what is left is said
fed_over : (st : State) (last : LastLine) (entries : List Entry) → (is_whole last ≡ true → entries ≡ []) → IsFed entries (over_with st last)
fed_over st last entries none = record { left = entries; all = refl; none_left = none }

last_says : (end : End) (k : ℕ) (entries : List Entry) → is_whole (last_line end k entries) ≡ true → entries ≡ []
last_says end k [] whole = refl
last_says end k (entry ∷ later) whole = absurd (cc whole)

without_says : (k : ℕ) (entries : List Entry) → is_whole (without_ending k entries) ≡ true → entries ≡ []
without_says k [] whole = refl
without_says k (entry ∷ later) whole = absurd (cc whole)

unfit_says : (k : ℕ) (entries : List Entry) → is_whole (lasts.Unfit k) ≡ true → entries ≡ []
unfit_says k entries whole = absurd (cc whole)

-- the rest of a run is fed
abbrev Feeds : Rest → Type 0
Feeds next = (st : State) (k : ℕ) (entries : List Entry) → IsFed entries (next st k entries)

entered_fed : (next : Rest) (st : State) (k : ℕ) (entry : Entry) (later : List Entry) (some : Option Event) → Feeds next → Enters entry some → IsFed (entry ∷ later) (run_entered next st k later some)
entered_fed next st k entry later None feeds enters = fed_over st (lasts.Unfit k) (entry ∷ later) (unfit_says k (entry ∷ later))
entered_fed next st k entry later (Some event) feeds enters = fed_entered event.lines entry later (next (taken event.state) (k + 1) later) (enters event refl) (feeds (taken event.state) (k + 1) later)

went_fed : (next : Rest) (k : ℕ) (entries : List Entry) (event : Event) (over : Option End) → Feeds next → IsQuiet event.lines → IsFed entries (run_went next k entries event over)
went_fed next k entries event None feeds quiet = fed_after event.lines entries (next (taken event.state) k entries) quiet (feeds (taken event.state) k entries)
went_fed next k entries event (Some end) feeds quiet = fed_after event.lines entries (over_with event.state (last_line end k entries)) quiet (fed_over event.state (last_line end k entries) entries (last_says end k entries))

free_fed : (next : Rest) (st : State) (k : ℕ) (entries : List Entry) (pace : Pace) → Feeds next → DoesQuietly pace → IsFed entries (free_pace next st k entries pace)
free_fed next st k entries (Went event over) feeds quiet = went_fed next k entries event over feeds quiet
free_fed next st k entries (Needs waiting) feeds quiet = fed_over waiting (without_ending k entries) entries (without_says k entries)
free_fed next st k entries Ends feeds quiet = fed_over st (last_line ends.Idle k entries) entries (last_says ends.Idle k entries)

either_fed : (entries : List Entry) (test : Bool) (a b : Trace) → IsFed entries a → IsFed entries b → IsFed entries (cond test a b)
either_fed entries true a b first second = first
either_fed entries false a b first second = second

turn_free : (next : Rest) (script : Script) (budget : ℕ) (st : State) (k : ℕ) (entries : List Entry) → Feeds next → IsFed entries (free_turn next script budget st k entries)
turn_free next script budget st k [] feeds = free_fed next st k [] (step script modes.Free budget st) feeds (step_quietly script modes.Free budget st)
turn_free next script budget st k (entry ∷ later) feeds =
    either_fed (entry ∷ later) (nat_le entry.place (st.steps + 1)) (run_entered next st k later (entered script modes.Free st entry)) (free_pace next st k (entry ∷ later) (step script modes.Free budget st))
    (entered_fed next st k entry later (entered script modes.Free st entry) feeds (entered_enters script modes.Free st entry))
    (free_fed next st k (entry ∷ later) (step script modes.Free budget st) feeds (step_quietly script modes.Free budget st))

sync_fed : (next : Rest) (script : Script) (st : State) (k : ℕ) (entries : List Entry) (pace : Pace) → Feeds next → DoesQuietly pace → IsFed entries (sync_pace next script st k entries pace)
sync_fed next script st k entries (Went event over) feeds quiet =
    either_fed entries (is_next_by (st.steps + 1) entries) (over_with st (lasts.Unfit k)) (run_went next k entries event over)
    (fed_over st (lasts.Unfit k) entries (unfit_says k entries)) (went_fed next k entries event over feeds quiet)
sync_fed next script st k [] (Needs waiting) feeds quiet = fed_over waiting lasts.Starved [] (λ whole. refl)
sync_fed next script st k (entry ∷ later) (Needs waiting) feeds quiet =
    entered_fed next waiting k entry later (entered script modes.Sync (taken waiting) entry) feeds (entered_enters script modes.Sync (taken waiting) entry)
sync_fed next script st k entries Ends feeds quiet = fed_over st (last_line ends.Idle k entries) entries (last_says ends.Idle k entries)

turn_fed : (next : Rest) (script : Script) (mode : Mode) (budget : ℕ) (st : State) (k : ℕ) (entries : List Entry) → Feeds next → IsFed entries (run_turn next script mode budget st k entries)
turn_fed next script modes.Free budget st k entries feeds = turn_free next script budget st k entries feeds
turn_fed next script modes.Sync budget st k entries feeds = sync_fed next script st k entries (step script modes.Sync budget st) feeds (step_quietly script modes.Sync budget st)

runs_fed : (turns : ℕ) (script : Script) (mode : Mode) (budget : ℕ) → Feeds (runs turns script mode budget)
unfolding runs
runs_fed zero script mode budget st k entries = fed_over st (last_line ends.Budget k entries) entries (last_says ends.Budget k entries)
runs_fed (suc turns) script mode budget st k entries = turn_fed (runs turns script mode budget) script mode budget st k entries (runs_fed turns script mode budget)

-- the endings of a trace are the entries that it was fed
pub trace_fed : (script : Script) (mode : Mode) (budget : ℕ) (entries : List Entry) → IsFed entries (trace script mode budget entries)
unfolding trace start
trace_fed script mode budget entries =
    let turns : ℕ = budget + (length entries + 1) in
    fed_after (start script).lines entries (runs turns script mode budget (start script).state 1 entries) (start_quiet (state_start script)) (runs_fed turns script mode budget (start script).state 1 entries)

end_quiet : (t : Trace) → journal_of (lines_of t) ≡ journal_of t.lines
unfolding entry_of
end_quiet t = filter_map-append entry_of t.lines (lines.End t.steps t.last ∷ []) ∙ append-nil (journal_of t.lines)

-- where the run ended by itself, the lines tell all entries
pub whole_tells : (script : Script) (mode : Mode) (budget : ℕ) (entries : List Entry) → is_whole (trace script mode budget entries).last ≡ true → journal_of (lines_of (trace script mode budget entries)) ≡ entries
whole_tells script mode budget entries whole =
    let fed = trace_fed script mode budget entries in
    let mine : List Entry = journal_of (trace script mode budget entries).lines in
    end_quiet (trace script mode budget entries) ∙ sym (append-nil mine) ∙ ap (λ (later : List Entry). mine ++ later) (sym (fed.none_left whole)) ∙ sym fed.all

-- and otherwise a front of them
pub front_told : (script : Script) (mode : Mode) (budget : ℕ) (entries : List Entry) → (left : List Entry) × (entries ≡ journal_of (lines_of (trace script mode budget entries)) ++ left)
front_told script mode budget entries =
    let fed = trace_fed script mode budget entries in
    (fed.left, fed.all ∙ ap (λ (mine : List Entry). mine ++ fed.left) (sym (end_quiet (trace script mode budget entries))))

-- so the run is done again from what it wrote
pub whole_replays : (script : Script) (mode : Mode) (budget : ℕ) (entries : List Entry) → is_whole (trace script mode budget entries).last ≡ true →
    trace script mode budget (journal_of (lines_of (trace script mode budget entries))) ≡ trace script mode budget entries
whole_replays script mode budget entries whole = ap (trace script mode budget) (whole_tells script mode budget entries whole)
