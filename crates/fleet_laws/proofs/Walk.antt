-- A run goes on turn by turn, and the world beside it.
use Rattle.std.proofs.Common.{◌≡◌, ℕ, zero, suc, ◌+◌, ◌≤◌, ◌<◌, Bool, true, false, cond, List, [], ◌∷◌, ◌++◌, length, Option, Some, None, refl, ap, subst, arith}
use Rattle.std.specs.Prelude.{◌==◌, nat_le}
use Rattle.tk_types.specs.declared.line.Entry.{Entry}
use Rattle.tk_types.specs.declared.line.LastLine.TheVariants as lasts
use Rattle.tk_types.specs.declared.line.Line.{Line}
use Rattle.tk_types.specs.declared.run.End.{End as RunEnd}
use Rattle.tk_types.specs.declared.run.End.TheVariants as run_ends
use Rattle.tk_types.specs.declared.run.Mode.{Mode}
use Rattle.tk_types.specs.declared.run.Mode.TheVariants as modes
use Rattle.tk_types.specs.declared.script.Script.{Script}
use Rattle.device_model.specs.declared.messages.Ending.{Ending}
use Rattle.machine_model.specs.States.State.{State, taken}
use Rattle.machine_model.specs.Events.Arrivals.{arrived}
use Rattle.machine_model.specs.Events.Follow.{Event}
use Rattle.machine_model.specs.Runs.Step.{Ends, Needs, Pace, Went, step}
use Rattle.machine_model.specs.Runs.Trace.{Rest, Trace, after, arrived_if, entered, free_pace, free_turn, is_next_by, last_line, last_of, named_ending, over_with, run_entered, run_turn, run_went, runs, sync_pace, without_ending}
use Rattle.run_model.specs.Passings.{Passing, Takes, gives, passed, turn}
use Rattle.run_model.specs.Passings as passing
use Rattle.world_model.specs.Worlds.{Step}
use Rattle.journal_laws.specs.Fed.{is_whole}
use Rattle.journal_laws.proofs.Paces.{entered_fed, step_needs, step_went}
use Rattle.fleet_laws.proofs.Arriving.{arrive_point}
use Rattle.fleet_laws.proofs.Kernel.{Past, ends_past, kernel_point, on_kernel, went_past}
use Rattle.fleet_laws.proofs.Points.{Point, Run}

-- some steps lead to where the run is over, by the end that its last line names, after as many steps as it counts
pub record Outcome (k : Run) (rest : Trace) : Type 0 where
  pub steps : List Step
  pub end : RunEnd
  pub state : State
  pub past : Past k steps state end
  pub same : last_of end ≡ rest.last
  pub counted : state.steps ≡ rest.steps

-- lines that were written before make no difference
behind : (k : Run) (lines : List Line) (rest : Trace) → Outcome k rest → Outcome k (after lines rest)
behind k lines rest outcome = record { steps = outcome.steps; end = outcome.end; state = outcome.state; past = outcome.past; same = outcome.same; counted = outcome.counted }

-- the rest of a run that ends by itself, from wherever a world is with it
abbrev Walks : Run → ℕ → Rest → passing.Rest → Type 0
Walks k turns next rest = (steps : List Step) (st : State) (n : ℕ) (entries : List Entry) → st.steps < k.budget → k.budget + length entries ≤ turns + st.steps → is_whole (next st n entries).last ≡ true →
    Point k steps st (next st n entries).lines (rest st entries) → Outcome k (next st n entries)

-- ---- how a run ends by itself

ended : (k : Run) (steps : List Step) (end : RunEnd) (n count : ℕ) (lines : List Line) (entries : List Entry) → is_whole (last_line end n entries) ≡ true → (st : State) → Past k steps st end → st.steps ≡ count →
    Outcome k (record { lines = lines; steps = count; last = last_line end n entries })
ended k steps end n count lines [] whole st past counted = record { steps = steps; end = end; state = st; past = past; same = refl; counted = counted }
ended k steps end n count lines (entry ∷ later) whole st past counted = absurd (cc whole)

never_without : (n : ℕ) (entries : List Entry) → is_whole (without_ending n entries) ≡ true → ⊥
never_without n [] whole = absurd (cc whole)
never_without n (entry ∷ later) whole = absurd (cc whole)

-- ---- an entry's ending

record Names (script : Script) (mode : Mode) (st : State) (entry : Entry) (event : Event) : Type 0 where
  pub ending : Ending
  pub named : named_ending st entry ≡ Some ending
  pub comes : arrived script mode st ending ≡ Some event

named_by : (script : Script) (mode : Mode) (st : State) (entry : Entry) (event : Event) (slot : Option Ending) → named_ending st entry ≡ slot → arrived_if script mode st slot ≡ Some event → Names script mode st entry event
named_by script mode st entry event None is comes = absurd (cc comes)
named_by script mode st entry event (Some e) is comes = record { ending = e; named = is; comes = comes }

placed_by : (script : Script) (mode : Mode) (st : State) (entry : Entry) (event : Event) (test : Bool) → cond test (arrived_if script mode st (named_ending st entry)) None ≡ Some event → Names script mode st entry event
placed_by script mode st entry event true comes = named_by script mode st entry event (named_ending st entry) refl comes
placed_by script mode st entry event false comes = absurd (cc comes)

it_names : (script : Script) (mode : Mode) (st : State) (entry : Entry) (event : Event) → entered script mode st entry ≡ Some event → Names script mode st entry event
unfolding entered
it_names script mode st entry event comes = placed_by script mode st entry event (entry.place == st.steps + 1) comes

-- ---- one turn

went_walk : (k : Run) (turns : ℕ) (next : Rest) (rest : passing.Rest) → Walks k turns next rest → (steps : List Step) (st : State) (n : ℕ) (entries : List Entry) (event : Event) (over : Option RunEnd) →
    step k.script k.mode k.budget st ≡ Went event over → st.steps < k.budget → k.budget + length entries ≤ suc turns + st.steps → is_whole (run_went next n entries event over).last ≡ true →
    Point k steps st (run_went next n entries event over).lines (passing.went_passed rest entries event over) → Outcome k (run_went next n entries event over)
went_walk k turns next rest walks steps st n entries event None is below enough whole p =
    let counted = step_went k.script k.mode k.budget st event None is in
    let one = counted.steps in
    behind k event.lines (next (taken event.state) n entries)
    (walks (on_kernel steps) (taken event.state) n entries (counted.goes refl below) (omega (arith, enough, one)) whole
    (kernel_point k steps st event.state (next (taken event.state) n entries).lines (rest (taken event.state) entries) (Went event None) is (λ w. refl) refl p))
went_walk k turns next rest walks steps st n entries event (Some end) is below enough whole p = ended k (on_kernel steps) end n event.state.steps (event.lines ++ []) entries whole (taken event.state) (went_past k steps st event end is p) refl

entered_walk : (k : Run) (turns : ℕ) (next : Rest) (rest : passing.Rest) → Walks k turns next rest → (steps : List Step) (st shown : State) (n : ℕ) (entry : Entry) (later : List Entry) (some : Option Event) →
    entered k.script k.mode st entry ≡ some → st.steps < k.budget → k.budget + length (entry ∷ later) ≤ suc turns + st.steps → is_whole (run_entered next shown n later some).last ≡ true →
    Point k steps st (run_entered next shown n later some).lines (passing.entered_passed rest later (named_ending st entry) some) → Outcome k (run_entered next shown n later some)
entered_walk k turns next rest walks steps st shown n entry later None is below enough whole p = absurd (cc whole)
entered_walk k turns next rest walks steps st shown n entry later (Some event) is below enough whole p =
    let it = it_names k.script k.mode st entry event is in
    let fed = entered_fed k.script k.mode st entry event is in
    let same = fed.steps in
    let now = arrive_point k steps st it.ending event (next (taken event.state) (n + 1) later).lines (rest (taken event.state) later) it.comes
    (subst (λ (named : Option Ending). Point k steps st (event.lines ++ (next (taken event.state) (n + 1) later).lines) (passing.entered_passed rest later named (Some event))) it.named p) in
    behind k event.lines (next (taken event.state) (n + 1) later)
    (walks now.0 (taken event.state) (n + 1) later (omega (arith, same, below)) (omega (arith, same, enough)) whole now.1)

free_walk : (k : Run) (turns : ℕ) (next : Rest) (rest : passing.Rest) → Walks k turns next rest → (steps : List Step) (st : State) (n : ℕ) (entries : List Entry) (pace : Pace) → step k.script k.mode k.budget st ≡ pace → st.steps < k.budget →
    k.budget + length entries ≤ suc turns + st.steps → is_whole (free_pace next st n entries pace).last ≡ true → Point k steps st (free_pace next st n entries pace).lines (passing.free_pace rest entries pace) → Outcome k (free_pace next st n entries pace)
free_walk k turns next rest walks steps st n entries (Went event over) is below enough whole p = went_walk k turns next rest walks steps st n entries event over is below enough whole p
free_walk k turns next rest walks steps st n entries (Needs waiting) is below enough whole p = absurd (never_without n entries whole)
free_walk k turns next rest walks steps st n entries Ends is below enough whole p = ended k (on_kernel steps) run_ends.Idle n st.steps [] entries whole st (ends_past k steps st is p) refl

either_walk : (k : Run) (steps : List Step) (st : State) (test : Bool) (one other : Trace) (passes others : List Passing) → (is_whole one.last ≡ true → Point k steps st one.lines passes → Outcome k one) →
    (is_whole other.last ≡ true → Point k steps st other.lines others → Outcome k other) → is_whole (cond test one other).last ≡ true → Point k steps st (cond test one other).lines (cond test passes others) → Outcome k (cond test one other)
either_walk k steps st true one other passes others first second = first
either_walk k steps st false one other passes others first second = second

free_turn_walk : (k : Run) (turns : ℕ) (next : Rest) (rest : passing.Rest) → Walks k turns next rest → (steps : List Step) (st : State) (n : ℕ) (entries : List Entry) → k.mode ≡ modes.Free → st.steps < k.budget →
    k.budget + length entries ≤ suc turns + st.steps → is_whole (free_turn next k.script k.budget st n entries).last ≡ true → Point k steps st (free_turn next k.script k.budget st n entries).lines (passing.free_turn rest k.script k.budget st entries) → Outcome k (free_turn next k.script k.budget st n entries)
free_turn_walk k turns next rest walks steps st n [] free below enough whole p =
    free_walk k turns next rest walks steps st n [] (step k.script modes.Free k.budget st) (ap (λ (mode : Mode). step k.script mode k.budget st) free) below enough whole p
free_turn_walk k turns next rest walks steps st n (entry ∷ later) free below enough whole p =
    either_walk k steps st (nat_le entry.place (st.steps + 1)) (run_entered next st n later (entered k.script modes.Free st entry)) (free_pace next st n (entry ∷ later) (step k.script modes.Free k.budget st))
    (passing.entered_passed rest later (named_ending st entry) (entered k.script modes.Free st entry)) (passing.free_pace rest (entry ∷ later) (step k.script modes.Free k.budget st))
    (entered_walk k turns next rest walks steps st st n entry later (entered k.script modes.Free st entry) (ap (λ (mode : Mode). entered k.script mode st entry) free) below enough)
    (free_walk k turns next rest walks steps st n (entry ∷ later) (step k.script modes.Free k.budget st) (ap (λ (mode : Mode). step k.script mode k.budget st) free) below enough)
    whole p

sync_walk : (k : Run) (turns : ℕ) (next : Rest) (rest : passing.Rest) → Walks k turns next rest → (steps : List Step) (st : State) (n : ℕ) (entries : List Entry) (pace : Pace) → k.mode ≡ modes.Sync → step k.script k.mode k.budget st ≡ pace → st.steps < k.budget →
    k.budget + length entries ≤ suc turns + st.steps → is_whole (sync_pace next k.script st n entries pace).last ≡ true → Point k steps st (sync_pace next k.script st n entries pace).lines (passing.sync_pace rest k.script st entries pace) → Outcome k (sync_pace next k.script st n entries pace)
sync_walk k turns next rest walks steps st n entries (Went event over) sync is below enough whole p =
    either_walk k steps st (is_next_by (st.steps + 1) entries) (over_with st (lasts.Unfit n)) (run_went next n entries event over) [] (passing.went_passed rest entries event over)
    (λ unfit none. absurd (cc unfit))
    (went_walk k turns next rest walks steps st n entries event over is below enough)
    whole p
sync_walk k turns next rest walks steps st n [] (Needs waiting) sync is below enough whole p = absurd (cc whole)
sync_walk k turns next rest walks steps st n (entry ∷ later) (Needs waiting) sync is below enough whole p =
    let stays = step_needs k.script k.mode k.budget st waiting is in
    let same = stays.steps in
    entered_walk k turns next rest walks (on_kernel steps) (taken waiting) waiting n entry later (entered k.script modes.Sync (taken waiting) entry) (ap (λ (mode : Mode). entered k.script mode (taken waiting) entry) sync)
    (omega (arith, same, below)) (omega (arith, same, enough)) whole
    (kernel_point k steps st waiting (run_entered next waiting n later (entered k.script modes.Sync (taken waiting) entry)).lines (passing.entered_passed rest later (named_ending (taken waiting) entry) (entered k.script modes.Sync (taken waiting) entry)) (Needs waiting) is (λ w. refl) refl p)
sync_walk k turns next rest walks steps st n entries Ends sync is below enough whole p = ended k (on_kernel steps) run_ends.Idle n st.steps [] entries whole st (ends_past k steps st is p) refl

turn_walk : (k : Run) (turns : ℕ) (next : Rest) (rest : passing.Rest) → Walks k turns next rest → (steps : List Step) (st : State) (n : ℕ) (entries : List Entry) (mode : Mode) → k.mode ≡ mode → st.steps < k.budget →
    k.budget + length entries ≤ suc turns + st.steps → is_whole (run_turn next k.script mode k.budget st n entries).last ≡ true → Point k steps st (run_turn next k.script mode k.budget st n entries).lines (turn rest k.script mode k.budget st entries) → Outcome k (run_turn next k.script mode k.budget st n entries)
turn_walk k turns next rest walks steps st n entries modes.Free is below enough whole p = free_turn_walk k turns next rest walks steps st n entries is below enough whole p
turn_walk k turns next rest walks steps st n entries modes.Sync is below enough whole p =
    sync_walk k turns next rest walks steps st n entries (step k.script modes.Sync k.budget st) is (ap (λ (mode : Mode). step k.script mode k.budget st) is) below enough whole p

-- ---- all turns

pub walk : (k : Run) (turns : ℕ) → Walks k turns (runs turns k.script k.mode k.budget) (passed turns k.script k.mode k.budget)
unfolding runs passed
walk k zero steps st n entries below enough whole p = absurd (omega (arith, below, enough))
walk k (suc turns) steps st n entries below enough whole p =
    turn_walk k turns (runs turns k.script k.mode k.budget) (passed turns k.script k.mode k.budget) (walk k turns) steps st n entries k.mode refl below enough whole p
