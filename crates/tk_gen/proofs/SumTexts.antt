-- The line of a summary is that of the trace which it sums up.
use Rattle.std.proofs.Common.{ℕ, ◌≡◌, List, ◌++◌, ap, ◌∙◌}
use Rattle.std.specs.Prelude.{codes, count_by, decimal}
use Rattle.machine_model.specs.Runs.Generator.{summary}
use Rattle.machine_model.specs.Runs.Trace.{Trace}
use Rattle.tk_gen.specs.Counts.{is_call, is_tick, is_wait}
use Rattle.tk_gen.specs.Summaries.{SumsUp, summed_text}
use Rattle.tk_gen.specs.declared.summary.Summary.{Summary}

pub text_sums : (summed : Summary) (number : ℕ) (trace : Trace) → SumsUp summed number trace → summed_text summed ≡ summary number trace
unfolding summed_text summary
text_sums summed number trace sums =
    let text : ℕ → ℕ → ℕ → ℕ → ℕ → ℕ → List ℕ = λ n s c b k j.
    codes "gen " ++ decimal n ++ codes " steps " ++ decimal s ++ codes " calls " ++ decimal c ++ codes " waits " ++ decimal b
    ++ codes " ticks " ++ decimal k ++ codes " endings " ++ decimal j ++ codes "\n"
    in
    ap (λ (n : ℕ). text n summed.steps summed.calls summed.waits summed.ticks summed.endings) sums.number_is
    ∙ (ap (λ (n : ℕ). text number n summed.calls summed.waits summed.ticks summed.endings) sums.steps
    ∙ (ap (λ (n : ℕ). text number trace.steps n summed.waits summed.ticks summed.endings) sums.calls
    ∙ (ap (λ (n : ℕ). text number trace.steps (count_by is_call trace.lines) n summed.ticks summed.endings) sums.waits
    ∙ (ap (λ (n : ℕ). text number trace.steps (count_by is_call trace.lines) (count_by is_wait trace.lines) n summed.endings) sums.ticks
    ∙ ap (λ (n : ℕ). text number trace.steps (count_by is_call trace.lines) (count_by is_wait trace.lines) (count_by is_tick trace.lines) n) sums.endings))))
