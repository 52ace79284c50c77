-- One turn of a run that goes on: what it comes to for the lines, and for what passes, whatever the rest of the run makes of it.
use Rattle.std.proofs.Common.{◌≡◌, ◌⊎◌, inl, inr, ℕ, ◌+◌, Bool, true, false, cond, List, [], ◌∷◌, ◌++◌, Option, Some, None, refl, ◌∙◌, ap, sym, arith}
use Rattle.std.specs.Bool.{◌==◌}
use Rattle.std.specs.Prelude.{nat_le}
use Rattle.std.proofs.lemmas.Bool.Decides.{nat_tests}
use Rattle.std.proofs.lemmas.List.{append-nil}
use Rattle.tk_types.specs.declared.line.Entry.{Entry}
use Rattle.tk_types.specs.declared.line.LastLine.TheVariants as lasts
use Rattle.tk_types.specs.declared.run.Mode.{Mode}
use Rattle.tk_types.specs.declared.run.Mode.TheVariants as modes
use Rattle.tk_types.specs.declared.script.Script.{Script}
use Rattle.device_model.specs.declared.messages.Ending.{Ending}
use Rattle.machine_model.specs.States.State.{State, taken}
use Rattle.machine_model.specs.Events.Arrivals.{arrived}
use Rattle.machine_model.specs.Events.Follow.{Event}
use Rattle.machine_model.specs.Runs.Step.{Needs, Went, step}
use Rattle.machine_model.specs.Runs.Trace as traces
use Rattle.machine_model.specs.Runs.Trace.{Trace, after, arrived_if, entered, is_next_by, last_line, named_ending, over_with, run_entered, run_turn, run_went, runs, start, trace}
use Rattle.run_model.specs.Passings as passing
use Rattle.run_model.specs.Passings.{Passing, Takes, entered_passed, gives, passed, passings, turn, went_passed}
use Rattle.machine_lemmas.proofs.Taken.{taken_twice}
use Rattle.run_model.specs.SoFar.{NeedsOne, entry_before}
use Rattle.run_lemmas.proofs.Naming.{named_given}
use Rattle.run_lemmas.proofs.Needing.{free_waits, given_waits, still_needs}
use Rattle.run_lemmas.proofs.Onward.{none_given}

-- ---- turns, for any rest of the run

-- a step is done
free_goes : (next : traces.Rest) (script : Script) (budget : ℕ) (st : State) (k : ℕ) (later : List Entry) (event : Event) → is_next_by (st.steps + 1) later ≡ false → step script modes.Free budget st ≡ Went event None →
    run_turn next script modes.Free budget st k later ≡ after event.lines (next (taken event.state) k later)
free_goes next script budget st k [] event early went = ap (traces.free_pace next st k []) went
free_goes next script budget st k (entry ∷ later) event early went =
    ap (λ (due : Bool). cond due (run_entered next st k later (entered script modes.Free st entry)) (traces.free_pace next st k (entry ∷ later) (step script modes.Free budget st))) early
    ∙ ap (traces.free_pace next st k (entry ∷ later)) went

sync_goes : (next : traces.Rest) (script : Script) (budget : ℕ) (st : State) (k : ℕ) (later : List Entry) (event : Event) → is_next_by (st.steps + 1) later ≡ false → step script modes.Sync budget st ≡ Went event None →
    run_turn next script modes.Sync budget st k later ≡ after event.lines (next (taken event.state) k later)
sync_goes next script budget st k later event early went =
    ap (traces.sync_pace next script st k later) went
    ∙ ap (λ (due : Bool). cond due (over_with st (lasts.Unfit k)) (run_went next k later event None)) early

pub turn_goes : (next : traces.Rest) (script : Script) (mode : Mode) (budget : ℕ) (st : State) (k : ℕ) (later : List Entry) (event : Event) → is_next_by (st.steps + 1) later ≡ false → step script mode budget st ≡ Went event None →
    run_turn next script mode budget st k later ≡ after event.lines (next (taken event.state) k later)
turn_goes next script modes.Free budget st k later event early went = free_goes next script budget st k later event early went
turn_goes next script modes.Sync budget st k later event early went = sync_goes next script budget st k later event early went

free_passes : (next : passing.Rest) (script : Script) (budget : ℕ) (st : State) (later : List Entry) (event : Event) → is_next_by (st.steps + 1) later ≡ false → step script modes.Free budget st ≡ Went event None →
    turn next script modes.Free budget st later ≡ gives event.state ++ next (taken event.state) later
free_passes next script budget st [] event early went = ap (passing.free_pace next []) went
free_passes next script budget st (entry ∷ later) event early went =
    ap (λ (due : Bool). cond due (entered_passed next later (named_ending st entry) (entered script modes.Free st entry)) (passing.free_pace next (entry ∷ later) (step script modes.Free budget st))) early
    ∙ ap (passing.free_pace next (entry ∷ later)) went

sync_passes : (next : passing.Rest) (script : Script) (budget : ℕ) (st : State) (later : List Entry) (event : Event) → is_next_by (st.steps + 1) later ≡ false → step script modes.Sync budget st ≡ Went event None →
    turn next script modes.Sync budget st later ≡ gives event.state ++ next (taken event.state) later
sync_passes next script budget st later event early went =
    ap (passing.sync_pace next script st later) went
    ∙ ap (λ (due : Bool). cond due [] (went_passed next later event None)) early

pub turn_passes : (next : passing.Rest) (script : Script) (mode : Mode) (budget : ℕ) (st : State) (later : List Entry) (event : Event) → is_next_by (st.steps + 1) later ≡ false → step script mode budget st ≡ Went event None →
    turn next script mode budget st later ≡ gives event.state ++ next (taken event.state) later
turn_passes next script modes.Free budget st later event early went = free_passes next script budget st later event early went
turn_passes next script modes.Sync budget st later event early went = sync_passes next script budget st later event early went

-- ---- an ending is taken in

here : (n : ℕ) → (n == n) ≡ true
here n = grind (arith, nat_tests)

up_to_here : (n : ℕ) → nat_le n n ≡ true
up_to_here n = grind (arith, nat_tests)

pub not_before : (n : ℕ) → nat_le (n + 1) n ≡ false
not_before n = grind (arith, nat_tests)

-- the entry of an ending that is named, and arrives
entered_is : (script : Script) (mode : Mode) (st : State) (named : Ending) (event : Event) → named_ending st (entry_before (st.steps + 1) named) ≡ Some named → arrived script mode st named ≡ Some event →
    entered script mode st (entry_before (st.steps + 1) named) ≡ Some event
unfolding entered
entered_is script mode st named event is comes =
    ap (λ (at : Bool). cond at (arrived_if script mode st (named_ending st (entry_before (st.steps + 1) named))) None) (here (st.steps + 1))
    ∙ ap (arrived_if script mode st) is ∙ comes

free_takes : (next : traces.Rest) (script : Script) (budget : ℕ) (st : State) (k : ℕ) (later : List Entry) (named : Ending) (event : Event) → entered script modes.Free st (entry_before (st.steps + 1) named) ≡ Some event →
    run_turn next script modes.Free budget st k (entry_before (st.steps + 1) named ∷ later) ≡ after event.lines (next (taken event.state) (k + 1) later)
free_takes next script budget st k later named event comes =
    let entry : Entry = entry_before (st.steps + 1) named in
    ap (λ (due : Bool). cond due (run_entered next st k later (entered script modes.Free st entry)) (traces.free_pace next st k (entry ∷ later) (step script modes.Free budget st))) (up_to_here (st.steps + 1))
    ∙ ap (run_entered next st k later) comes

-- in sync mode where a state waits as it is
sync_takes : (next : traces.Rest) (script : Script) (budget : ℕ) (st : State) (k : ℕ) (later : List Entry) (named : Ending) (event : Event) → taken st ≡ st → step script modes.Sync budget st ≡ Needs st →
    entered script modes.Sync st (entry_before (st.steps + 1) named) ≡ Some event →
    run_turn next script modes.Sync budget st k (entry_before (st.steps + 1) named ∷ later) ≡ after event.lines (next (taken event.state) (k + 1) later)
sync_takes next script budget st k later named event none needed comes =
    let entry : Entry = entry_before (st.steps + 1) named in
    ap (traces.sync_pace next script st k (entry ∷ later)) needed
    ∙ ap (λ (now : State). run_entered next st k later (entered script modes.Sync now entry)) none
    ∙ ap (run_entered next st k later) comes

free_passes_in : (next : passing.Rest) (script : Script) (budget : ℕ) (st : State) (later : List Entry) (named : Ending) (event : Event) → named_ending st (entry_before (st.steps + 1) named) ≡ Some named →
    entered script modes.Free st (entry_before (st.steps + 1) named) ≡ Some event →
    turn next script modes.Free budget st (entry_before (st.steps + 1) named ∷ later) ≡ Takes named ∷ (gives event.state ++ next (taken event.state) later)
free_passes_in next script budget st later named event is comes =
    let entry : Entry = entry_before (st.steps + 1) named in
    ap (λ (due : Bool). cond due (entered_passed next later (named_ending st entry) (entered script modes.Free st entry)) (passing.free_pace next (entry ∷ later) (step script modes.Free budget st))) (up_to_here (st.steps + 1))
    ∙ ap (λ (o : Option Ending). entered_passed next later o (entered script modes.Free st entry)) is
    ∙ ap (entered_passed next later (Some named)) comes

sync_passes_in : (next : passing.Rest) (script : Script) (budget : ℕ) (st : State) (later : List Entry) (named : Ending) (event : Event) → taken st ≡ st → step script modes.Sync budget st ≡ Needs st →
    named_ending st (entry_before (st.steps + 1) named) ≡ Some named → entered script modes.Sync st (entry_before (st.steps + 1) named) ≡ Some event →
    turn next script modes.Sync budget st (entry_before (st.steps + 1) named ∷ later) ≡ Takes named ∷ (gives event.state ++ next (taken event.state) later)
sync_passes_in next script budget st later named event none needed is comes =
    let entry : Entry = entry_before (st.steps + 1) named in
    ap (passing.sync_pace next script st (entry ∷ later)) needed
    ∙ ap (λ (front : List Passing). front ++ entered_passed next later (named_ending (taken st) entry) (entered script modes.Sync (taken st) entry)) (none_given st none)
    ∙ ap (λ (now : State). entered_passed next later (named_ending now entry) (entered script modes.Sync now entry)) none
    ∙ ap (λ (o : Option Ending). entered_passed next later o (entered script modes.Sync st entry)) is
    ∙ ap (entered_passed next later (Some named)) comes

-- where an ending is named, a state that needs one waits as it is
needs_itself : (script : Script) (mode : Mode) (budget : ℕ) (st : State) (named : Ending) → NeedsOne script mode budget st → named_ending st (entry_before (st.steps + 1) named) ≡ Some named → step script mode budget st ≡ Needs st
needs_itself script mode budget st named one is = one.is ∙ ap Needs (given_waits script mode budget st one.waiting (named_given st (st.steps + 1) named named is) one.is)

-- whether an ending may be taken in: in free mode always
abbrev pub MayTake : Script → Mode → ℕ → State → Type 0
MayTake script mode budget st = (mode ≡ modes.Free) ⊎ NeedsOne script mode budget st

needed_in_sync : (script : Script) (budget : ℕ) (st : State) (named : Ending) → MayTake script modes.Sync budget st → named_ending st (entry_before (st.steps + 1) named) ≡ Some named → step script modes.Sync budget st ≡ Needs st
needed_in_sync script budget st named (inl free) is = absurd (cc free)
needed_in_sync script budget st named (inr one) is = needs_itself script modes.Sync budget st named one is

pub turn_takes : (next : traces.Rest) (script : Script) (mode : Mode) (budget : ℕ) (st : State) (k : ℕ) (later : List Entry) (named : Ending) (event : Event) → taken st ≡ st → MayTake script mode budget st →
    named_ending st (entry_before (st.steps + 1) named) ≡ Some named → arrived script mode st named ≡ Some event →
    run_turn next script mode budget st k (entry_before (st.steps + 1) named ∷ later) ≡ after event.lines (next (taken event.state) (k + 1) later)
turn_takes next script modes.Free budget st k later named event none may is comes = free_takes next script budget st k later named event (entered_is script modes.Free st named event is comes)
turn_takes next script modes.Sync budget st k later named event none may is comes =
    sync_takes next script budget st k later named event none (needed_in_sync script budget st named may is) (entered_is script modes.Sync st named event is comes)

pub turn_passes_in : (next : passing.Rest) (script : Script) (mode : Mode) (budget : ℕ) (st : State) (later : List Entry) (named : Ending) (event : Event) → taken st ≡ st → MayTake script mode budget st →
    named_ending st (entry_before (st.steps + 1) named) ≡ Some named → arrived script mode st named ≡ Some event →
    turn next script mode budget st (entry_before (st.steps + 1) named ∷ later) ≡ Takes named ∷ (gives event.state ++ next (taken event.state) later)
turn_passes_in next script modes.Free budget st later named event none may is comes = free_passes_in next script budget st later named event is (entered_is script modes.Free st named event is comes)
turn_passes_in next script modes.Sync budget st later named event none may is comes =
    sync_passes_in next script budget st later named event none (needed_in_sync script budget st named may is) is (entered_is script modes.Sync st named event is comes)

-- ---- an ending is needed: the turn is the same once the messages were taken

entered_same : (next : traces.Rest) (st now : State) (k : ℕ) (later : List Entry) (some : Option Event) → now.steps ≡ st.steps → run_entered next st k later some ≡ run_entered next now k later some
entered_same next st now k later None same = ap (λ (n : ℕ). record { lines = []; steps = n; last = lasts.Unfit k }) (sym same)
entered_same next st now k later (Some event) same = refl

sync_waits : (next : traces.Rest) (script : Script) (budget : ℕ) (st waiting : State) (k : ℕ) (later : List Entry) → step script modes.Sync budget st ≡ Needs waiting → step script modes.Sync budget (taken waiting) ≡ Needs (taken waiting) → taken (taken waiting) ≡ taken waiting →
    run_turn next script modes.Sync budget st k later ≡ run_turn next script modes.Sync budget (taken waiting) k later
sync_waits next script budget st waiting k [] needed again twice = ap (traces.sync_pace next script st k []) needed ∙ sym (ap (traces.sync_pace next script (taken waiting) k []) again)
sync_waits next script budget st waiting k (entry ∷ later) needed again twice =
    let some : Option Event = entered script modes.Sync (taken waiting) entry in
    ap (traces.sync_pace next script st k (entry ∷ later)) needed
    ∙ entered_same next waiting (taken waiting) k later some refl
    ∙ ap (λ (now : State). run_entered next (taken waiting) k later (entered script modes.Sync now entry)) (sym twice)
    ∙ sym (ap (traces.sync_pace next script (taken waiting) k (entry ∷ later)) again)

pub turn_waits : (next : traces.Rest) (script : Script) (mode : Mode) (budget : ℕ) (st waiting : State) (k : ℕ) (later : List Entry) → taken st ≡ st → step script mode budget st ≡ Needs waiting →
    run_turn next script mode budget st k later ≡ run_turn next script mode budget (taken waiting) k later
turn_waits next script modes.Free budget st waiting k later none needed =
    ap (λ (now : State). run_turn next script modes.Free budget now k later) (sym (ap taken (free_waits script budget st waiting needed) ∙ none))
turn_waits next script modes.Sync budget st waiting k later none needed =
    sync_waits next script budget st waiting k later needed (still_needs script modes.Sync budget st waiting none needed) (taken_twice waiting)

sync_passes_waits : (next : passing.Rest) (script : Script) (budget : ℕ) (st waiting : State) (later : List Entry) → step script modes.Sync budget st ≡ Needs waiting → step script modes.Sync budget (taken waiting) ≡ Needs (taken waiting) → taken (taken waiting) ≡ taken waiting →
    turn next script modes.Sync budget st later ≡ gives waiting ++ turn next script modes.Sync budget (taken waiting) later
sync_passes_waits next script budget st waiting [] needed again twice =
    ap (passing.sync_pace next script st []) needed ∙ sym (append-nil (gives waiting))
    ∙ ap (λ (back : List Passing). gives waiting ++ back) (sym (ap (passing.sync_pace next script (taken waiting) []) again ∙ none_given (taken waiting) twice))
sync_passes_waits next script budget st waiting (entry ∷ later) needed again twice =
    let rest : State → List Passing = λ now. entered_passed next later (named_ending now entry) (entered script modes.Sync now entry) in
    ap (passing.sync_pace next script st (entry ∷ later)) needed
    ∙ ap (λ (back : List Passing). gives waiting ++ back) (sym (ap (passing.sync_pace next script (taken waiting) (entry ∷ later)) again
    ∙ ap (λ (front : List Passing). front ++ rest (taken (taken waiting))) (none_given (taken waiting) twice)
    ∙ ap rest twice))

pub turn_passes_waits : (next : passing.Rest) (script : Script) (mode : Mode) (budget : ℕ) (st waiting : State) (later : List Entry) → taken st ≡ st → step script mode budget st ≡ Needs waiting →
    turn next script mode budget st later ≡ gives waiting ++ turn next script mode budget (taken waiting) later
turn_passes_waits next script modes.Free budget st waiting later none needed =
    let same = free_waits script budget st waiting needed in
    ap (λ (now : State). turn next script modes.Free budget now later) (sym (ap taken same ∙ none))
    ∙ ap (λ (front : List Passing). front ++ turn next script modes.Free budget (taken waiting) later) (sym (ap (λ (now : State). gives now) same ∙ none_given st none))
turn_passes_waits next script modes.Sync budget st waiting later none needed =
    sync_passes_waits next script budget st waiting later needed (still_needs script modes.Sync budget st waiting none needed) (taken_twice waiting)
