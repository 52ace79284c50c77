-- The run of a generated script, turn by turn, and what is told of it.
use Rattle.std.proofs.Common.{◌≡◌, ℕ, suc, ◌+◌, ◌*◌, ◌≤◌, List, [], ◌++◌, None, refl, ap, sym, subst, ◌∙◌, append-nil, append_assoc, arith, Option, Some}
use Rattle.std.specs.Prelude.{count_by}
use Rattle.tk_types.specs.declared.line.Line.{Line}
use Rattle.tk_types.specs.declared.run.End.{End}
use Rattle.tk_types.specs.declared.run.End.TheVariants as ends
use Rattle.tk_types.specs.declared.script.Script.{Script}
use Rattle.machine_model.specs.States.State.{State}
use Rattle.machine_model.specs.Runs.Generator.{generated}
use Rattle.machine_model.specs.Runs.Machine.{Machine}
use Rattle.machine_model.specs.Runs.SyncTrace.{sync_run, sync_runs, sync_trace}
use Rattle.machine_model.specs.Runs.Trace.{Trace, after, last_of, start}
use Rattle.tk_gen.specs.declared.counts.Counts.{Counts}
use Rattle.tk_gen.specs.declared.running.ServedRun.{ServedRun}
use Rattle.tk_gen.specs.declared.summary.Summary.{Summary}
use Rattle.tk_gen.specs.Counts.{counted_on, is_call, is_ending, is_tick, is_wait, nothing_counted}
use Rattle.tk_gen.specs.Serving.{GoesOn, IsBetweenTurns, IsOver, TurnGives}
use Rattle.tk_gen.specs.Summaries.{SumsUp, most_steps}
use Rattle.tk_gen.proofs.Counted.{counted_both}
use Rattle.tk_gen.proofs.Turns.{start_counted}

-- each count is so much at most
pub record IsUpTo (most : ℕ) (counts : Counts) : Type 0 where
  pub calls : counts.calls ≤ most
  pub waits : counts.waits ≤ most
  pub ticks : counts.ticks ≤ most
  pub endings : counts.endings ≤ most

-- so many turns are done, and so many are left: these lines came, and the rest of the run is behind them
pub record IsUnderway (number left turn : ℕ) (run : ServedRun) : Type 0 where
  pub front : List Line
  pub between : IsBetweenTurns (generated number) most_steps run
  pub counts : run.counts ≡ counted_on nothing_counted front
  pub trace : sync_trace (generated number) most_steps ≡ after front (sync_runs left (generated number) most_steps run.machine.state).trace
  pub few : IsUpTo (2 * turn) run.counts
  pub takes : run.driver.taken ≤ turn

-- ---- the first turn

trace_begins : (script : Script) (budget turns : ℕ) → turns ≡ 2 * budget + 1 → sync_trace script budget ≡ after (start script).lines (sync_runs turns script budget (start script).state).trace
unfolding sync_run
trace_begins script budget turns is = ap (λ (n : ℕ). after (start script).lines (sync_runs n script budget (start script).state).trace) (sym is)

pub underway_first : (number left : ℕ) (run : ServedRun) → left ≡ 2 * most_steps + 1 → IsBetweenTurns (generated number) most_steps run → run.machine.state ≡ (start (generated number)).state →
    run.counts ≡ counted_on nothing_counted (start (generated number)).lines → run.driver.taken ≡ 0 → IsUnderway number left 0 run
underway_first number left run all between state counts taken =
    let script : Script = generated number in
    let none : run.counts ≡ nothing_counted = counts ∙ start_counted script nothing_counted in
    record {
      front = (start script).lines;
      between = between;
      counts = counts;
      trace = trace_begins script most_steps left all ∙ ap (λ (st : State). after (start script).lines (sync_runs left script most_steps st).trace) (sym state);
      few = subst (IsUpTo 0) (sym none) (record { calls = omega arith; waits = omega arith; ticks = omega arith; endings = omega arith });
      takes = omega (arith, taken);
    }

-- ---- a turn

-- what is said of the machine's own script and budget
of_these : (P : Script → ℕ → Type 0) (number : ℕ) (run : ServedRun) → IsBetweenTurns (generated number) most_steps run → P run.machine.script run.machine.budget → P (generated number) most_steps
of_these P number run between has =
    subst (λ (budget : ℕ). P (generated number) budget) (ap (λ (m : Machine). m.budget) between.machine_is)
    (subst (λ (script : Script). P script run.machine.budget) (ap (λ (m : Machine). m.script) between.machine_is) has)

after_both : (front next : List Line) (rest : Trace) → after front (after next rest) ≡ after (front ++ next) rest
after_both front next rest = ap (λ (all : List Line). let t : Trace = record rest { lines = all } in t) (sym (append_assoc front next rest.lines))

pub underway_next : (number left turn : ℕ) (old new : ServedRun) → IsUnderway number (suc left) turn old → GoesOn (generated number) most_steps old new → IsUnderway number left (turn + 1) new
underway_next number left turn old new under goes =
    let c = under.few.calls in let w = under.few.waits in let t = under.few.ticks in let e = under.few.endings in
    let fc = goes.few.calls in let fw = goes.few.waits in let ft = goes.few.ticks in let fe = goes.few.endings in
    let before = under.takes in
    let more = goes.taken_more in
    record {
      front = under.front ++ goes.lines;
      between = goes.between;
      counts = goes.counts ∙ (ap (λ (counts : Counts). counted_on counts goes.lines) under.counts ∙ counted_both nothing_counted under.front goes.lines);
      trace = under.trace ∙ (ap (after under.front) (goes.turn left) ∙ after_both under.front goes.lines _);
      few = subst (IsUpTo (2 * (turn + 1))) (sym goes.counts)
          (record { calls = omega (arith, c, fc); waits = omega (arith, w, fw); ticks = omega (arith, t, ft); endings = omega (arith, e, fe) });
      takes = omega (arith, before, more);
    }

-- ---- the end

-- what is told of a run that ended so
abbrev pub told : ℕ → ServedRun → End → Summary
told number run end = record {
  number = number;
  steps = run.machine.state.steps;
  calls = run.counts.calls;
  waits = run.counts.waits;
  ticks = run.counts.ticks;
  endings = run.counts.endings;
  last = end;
}

sums_by : (number : ℕ) (run : ServedRun) (end : End) (all : List Line) (trace : Trace) → run.counts ≡ counted_on nothing_counted all →
    (let whole : Trace = record { lines = all; steps = run.machine.state.steps; last = last_of end } in trace ≡ whole) → SumsUp (told number run end) number trace
sums_by number run end all trace counts is =
    let whole : Trace = record { lines = all; steps = run.machine.state.steps; last = last_of end } in
    let c : run.counts.calls ≡ count_by is_call all = ap (λ (it : Counts). it.calls) counts ∙ omega arith in
    let w : run.counts.waits ≡ count_by is_wait all = ap (λ (it : Counts). it.waits) counts ∙ omega arith in
    let t : run.counts.ticks ≡ count_by is_tick all = ap (λ (it : Counts). it.ticks) counts ∙ omega arith in
    let e : run.counts.endings ≡ count_by is_ending all = ap (λ (it : Counts). it.endings) counts ∙ omega arith in
    subst (λ (it : Trace). SumsUp (told number run end) number it) (sym is)
    (record { number_is = refl; steps = refl; calls = c; waits = w; ticks = t; endings = e; last = refl })

pub over_sums : (number left turn : ℕ) (old new : ServedRun) (end : End) → IsUnderway number (suc left) turn old → IsOver (generated number) most_steps old new end →
    SumsUp (told number new end) number (sync_trace (generated number) most_steps)
over_sums number left turn old new end under over =
    sums_by number new end (under.front ++ over.lines) (sync_trace (generated number) most_steps)
    (over.counts ∙ (ap (λ (counts : Counts). counted_on counts over.lines) under.counts ∙ counted_both nothing_counted under.front over.lines))
    (under.trace ∙ ap (after under.front) (over.turn left))

none_left : (script : Script) (budget : ℕ) (st : State) → (let none : Trace = record { lines = []; steps = st.steps; last = last_of ends.Budget } in (sync_runs 0 script budget st).trace ≡ none)
unfolding sync_runs
none_left script budget st = refl

pub budget_sums : (number turn : ℕ) (run : ServedRun) → IsUnderway number 0 turn run → SumsUp (told number run ends.Budget) number (sync_trace (generated number) most_steps)
budget_sums number turn run under =
    sums_by number run ends.Budget under.front (sync_trace (generated number) most_steps) under.counts
    (under.trace ∙ (ap (after under.front) (none_left (generated number) most_steps run.machine.state)
    ∙ ap (λ (all : List Line). let t : Trace = record { lines = all; steps = run.machine.state.steps; last = last_of ends.Budget } in t) (append-nil under.front)))

-- ---- what a turn gave

pub turn_goes : (number : ℕ) (old new : ServedRun) (over : Option End) → IsBetweenTurns (generated number) most_steps old → ((end : End) → over ≡ Some end → ⊥) →
    TurnGives old.machine.script old.machine.budget old new over → GoesOn (generated number) most_steps old new
turn_goes number old new None between not gives = of_these (λ (script : Script) (budget : ℕ). GoesOn script budget old new) number old between gives
turn_goes number old new (Some end) between not gives = absurd (not end refl)

pub turn_ends : (number : ℕ) (old new : ServedRun) (over : Option End) (end : End) → IsBetweenTurns (generated number) most_steps old → over ≡ Some end →
    TurnGives old.machine.script old.machine.budget old new over → IsOver (generated number) most_steps old new end
turn_ends number old new over end between is gives =
    of_these (λ (script : Script) (budget : ℕ). IsOver script budget old new end) number old between (subst (TurnGives old.machine.script old.machine.budget old new) is gives)
