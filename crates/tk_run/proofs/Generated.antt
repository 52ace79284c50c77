-- What was counted of the run of a script that was made is what its trace has.
use Rattle.std.proofs.Common.{◌≡◌, ℕ, List, refl, ap, ◌∙◌}
use Rattle.tk_types.specs.declared.run.End.{End}
use Rattle.tk_types.specs.declared.run.End.TheVariants as ends
use Rattle.machine_model.specs.Runs.Generator.{generated}
use Rattle.machine_model.specs.Runs.SyncTrace.{sync_trace}
use Rattle.machine_model.specs.Runs.Trace.{Trace, last_of}
use Rattle.tk_gen.specs.Summaries.{SumsUp, summed_text}
use Rattle.tk_gen.specs.declared.summary.Summary.{Summary}
use Rattle.tk_gen.proofs.SumTexts.{text_sums}
use Rattle.tk_run.specs.declared.status.Status.{Status}
use Rattle.tk_run.specs.Outcomes.{Outcome, generate_outcome, generated_trace, status_of_end, status_of_last, summary_outcome, summed_outcome}

abbrev outcome : Status → List ℕ → Outcome
outcome status bytes = record { status = status; bytes = bytes }

end_status : (end : End) → status_of_end end ≡ status_of_last (last_of end)
end_status ends.Idle = refl
end_status ends.Halt = refl
end_status ends.Budget = refl

summed_trace : (summed : Summary) (number : ℕ) (run : Trace) → SumsUp summed number run → summed_outcome summed ≡ summary_outcome number run
summed_trace summed number run sums =
    ap (λ (status : Status). outcome status (summed_text summed)) (end_status summed.last ∙ ap status_of_last sums.last)
    ∙ ap (outcome (status_of_last run.last)) (text_sums summed number run sums)

pub summed_generates : (summed : Summary) (number : ℕ) → SumsUp summed number (sync_trace (generated number) 100000) → summed_outcome summed ≡ generate_outcome number
unfolding generated_trace
summed_generates summed number sums = summed_trace summed number (sync_trace (generated number) 100000) sums
