-- Where an ending is needed, the machine is ready for it.
use Rattle.std.proofs.Common.{◌≡◌, ℕ, ◌<◌, ◌≤◌, Option, Some, None, refl, sym, ap, ◌∙◌, arith}
use Rattle.tk_types.specs.declared.run.End.{End}
use Rattle.machine_model.specs.States.State.{State}
use Rattle.machine_model.specs.Runs.Machine.{Machine, after_pace, after_step, with_state}
use Rattle.machine_model.specs.Runs.Step.{Pace as Outcome, Ends, Needs, Went as Done, step}
use Rattle.tk_kernel.specs.Pace.{pace_after, pace_with}
use Rattle.tk_kernel.specs.declared.pacing.Pace.{Pace}
use Rattle.tk_kernel.specs.declared.pacing.Pace.TheVariants.{NeedsEnding, Over}
use Rattle.tk_run.specs.FedTurns.{IsReady}
use Rattle.tk_run.proofs.StepFacts.{needs_steps}

-- ---- what a step came to

abbrev pub next_pace : Machine → Outcome
next_pace m = step m.script m.mode m.budget m.state

step_is : (m : Machine) → m.over ≡ None → after_step m ≡ after_pace m (next_pace m)
step_is m going = ap (λ over. elim over as (λ _. Machine) [ Some end ↦ m | None ↦ after_pace m (next_pace m) ]) going

pace_is : (m : Machine) → m.over ≡ None → pace_after m ≡ pace_with (next_pace m)
pace_is m going = ap (λ over. elim over as (λ _. Pace) [ Some end ↦ Over end | None ↦ pace_with (next_pace m) ]) going

-- an ending is needed
pub record WasNeeded (m new : Machine) : Type 0 where
  pub waiting : State
  pub step_was : next_pace m ≡ Needs waiting
  pub new_is : new ≡ with_state m waiting

needed_by : (m new : Machine) (outcome : Outcome) → next_pace m ≡ outcome → new ≡ after_pace m outcome → NeedsEnding ≡ pace_with outcome → WasNeeded m new
needed_by m new (Done event None) was is pace = absurd (cc)
needed_by m new (Done event (Some end)) was is pace = absurd (cc)
needed_by m new (Needs waiting) was is pace = record { waiting = waiting; step_was = was; new_is = is }
needed_by m new Ends was is pace = absurd (cc)

pub was_needed : (m new : Machine) (pace : Pace) → m.over ≡ None → new ≡ after_step m → pace ≡ pace_after m → pace ≡ NeedsEnding → WasNeeded m new
was_needed m new pace going is paced needs = needed_by m new (next_pace m) refl (is ∙ step_is m going) (sym needs ∙ (paced ∙ pace_is m going))

-- a machine whose messages alone changed behind a need
pub needed_ready : (m mid : Machine) → IsReady m → WasNeeded m mid → IsReady mid
needed_ready m mid ready d =
    let steps : d.waiting.steps ≡ m.state.steps = needs_steps m.script m.mode m.budget m.state d.waiting d.step_was in
    let same : mid.state.steps ≡ d.waiting.steps = ap (λ (n : Machine). n.state.steps) d.new_is in
    let budget : mid.budget ≡ m.budget = ap (λ (n : Machine). n.budget) d.new_is in
    record {
      going = ap (λ (n : Machine). n.over) d.new_is ∙ ready.going;
      lines = ap (λ (n : Machine). n.lines) d.new_is ∙ ready.lines;
      below = omega (arith, steps, same, budget, ready.below);
      limit = omega (arith, budget, ready.limit);
    }
