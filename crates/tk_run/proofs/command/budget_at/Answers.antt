use Rattle.std.proofs.Common.{arith, ◌≡◌}
use Rattle.tk_run.proofs.Budgets.{same_number}
use Rattle.tk_run.proofs.command.budget_at.Goals as goal
use Rattle.tk_run.proofs.command.budget_at.Goals.{then-number-lt-LEAST_BUDGET-via-then-number-lt-LEAST_BUDGET, then-number-lt-LEAST_BUDGET-via-else-number-lt-LEAST_BUDGET+then-number-gt-MOST_BUDGET}

pub returns-then-number-lt-LEAST_BUDGET-clause-none : goal.returns-then-number-lt-LEAST_BUDGET-clause-none
returns-then-number-lt-LEAST_BUDGET-clause-none c = λ n is spelt.
    let same : c.in-Some.number ≡ n = same_number _ _ n c.in-Some.ensures.value (omega (arith, is.1)) spelt in
    elim c.then-number-lt-LEAST_BUDGET.branch [
      | then-number-lt-LEAST_BUDGET-via-then-number-lt-LEAST_BUDGET w ↦ absurd (omega (arith, is.0, is.1))
      | then-number-lt-LEAST_BUDGET-via-else-number-lt-LEAST_BUDGET+then-number-gt-MOST_BUDGET w ↦ absurd (omega (arith, is.0, is.1))
    ]
