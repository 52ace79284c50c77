use Rattle.std.proofs.Common.{ℕ, ◌≡◌, ◌+◌, ◌-◌, suc, sym, subst, arith}
use Rattle.machine_model.specs.Runs.Generator.{generated}
use Rattle.machine_model.specs.Runs.SyncTrace.{sync_trace}
use Rattle.tk_gen.specs.Summaries.{SumsUp, most_steps}
use Rattle.tk_gen.specs.declared.summary.Summary.{Summary}
use Rattle.tk_gen.proofs.Summed.{IsUnderway, budget_sums, over_sums, turn_ends, turn_goes, underway_first, underway_next}
use Rattle.tk_gen.proofs.running.summed_up.Goals as goal

pub turns-init : goal.turns-init
turns-init c =
    let run = c.in_ok-run.ensures in
    underway_first c.args.number 200001 c.in_ok-run.run' (omega arith) run.between run.state run.counts run.untaken

pub returns-in-Some : goal.returns-in-Some
returns-in-Some c =
    let more = c.turns-test.true in
    let left : 200001 - c.turns._turn ≡ suc (200001 - (c.turns._turn + 1)) = omega (arith, more) in
    subst (λ (summed : Summary). SumsUp summed c.args.number (sync_trace (generated c.args.number) most_steps)) (sym c.summary.ensures)
    (over_sums c.args.number (200001 - (c.turns._turn + 1)) c.turns._turn c.turns.run c.turn.new.self c.in-Some.end
    (subst (λ (n : ℕ). IsUnderway c.args.number n c.turns._turn c.turns.run) left c.turns.invariant)
    (turn_ends c.args.number c.turns.run c.turn.new.self _ c.in-Some.end c.turns.invariant.between c.in-Some.is c.in_ok-end.ensures))

pub turns-preserved : goal.turns-preserved
turns-preserved c =
    let more = c.turns-test.true in
    let left : 200001 - c.turns._turn ≡ suc (200001 - (c.turns._turn + 1)) = omega (arith, more) in
    underway_next c.args.number (200001 - (c.turns._turn + 1)) c.turns._turn c.turns.run c.turn.new.self
    (subst (λ (n : ℕ). IsUnderway c.args.number n c.turns._turn c.turns.run) left c.turns.invariant)
    (turn_goes c.args.number c.turns.run c.turn.new.self _ c.turns.invariant.between c.in_default.not-Some c.in_ok-end.ensures)

-- no turn is left
pub returns : goal.returns
returns c =
    let end = c.turns-test.false in
    let left : 200001 - c.turns._turn ≡ 0 = omega (arith, end) in
    subst (λ (summed : Summary). SumsUp summed c.args.number (sync_trace (generated c.args.number) most_steps)) (sym c.summary-2.ensures)
    (budget_sums c.args.number c.turns._turn c.turns.run (subst (λ (n : ℕ). IsUnderway c.args.number n c.turns._turn c.turns.run) left c.turns.invariant))
