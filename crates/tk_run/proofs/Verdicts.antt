-- The verdict on a trace, over plain variables.
use Rattle.std.specs.Prelude.{IfOk}
use Rattle.std.proofs.Common.{◌≡◌, ◌⊎◌, inl, inr, ℕ, ◌<◌, Bool, List, ◌++◌, length, map, Option, Some, None, Result, Ok, Err, refl, sym, ap, ◌∙◌, arith}
use Rattle.std.proofs.lemmas.List.{length-map}
use Rattle.tk_types.specs.declared.line.LastLine.{LastLine}
use Rattle.tk_types.specs.declared.line.LastLine.TheVariants as lasts
use Rattle.tk_types.specs.declared.line.Line.{Line}
use Rattle.tk_types.specs.declared.memory.OutOfMemory.{OutOfMemory}
use Rattle.tk_ports.specs.Streams.{Appends, AppendsFront, Rose}
use Rattle.machine_model.specs.Runs.Trace.{Trace, lines_of}
use Rattle.tk_model.specs.LineText.{text_of_line, text_of_lines}
use Rattle.tk_model.specs.TextLines.{text_lines}
use Rattle.step_lemmas.proofs.Unstarved.{IsEnd}
use Rattle.trace_compare.specs.Answers.{IfDiffers, IfSame, shown}
use Rattle.trace_compare.specs.Comparisons.{Comparison, fresh, told}
use Rattle.trace_compare.specs.Differences.{Difference, difference_of, first_difference}
use Rattle.trace_compare.specs.declared.compared.Compared.{Compared}
use Rattle.trace_compare.specs.declared.compared.Compared.TheVariants as comparisons
use Rattle.trace_compare.proofs.ToldLaws.{all_taken, front_taken}
use Rattle.tk_run.specs.declared.status.Status.{Status}
use Rattle.tk_run.specs.declared.status.Status.TheVariants as statuses
use Rattle.tk_run.specs.declared.verdict.Verdict.{Verdict}
use Rattle.tk_run.specs.declared.verdict.Verdict.TheVariants as verdicts
use Rattle.tk_run.specs.Outcomes.{Outcome, status_of_last}
use Rattle.tk_run.specs.Verdicts.{GivesVerdict, IsOver, compared_outcome, judged_outcome, outcome_of, run_difference, run_outcome, same_outcome, starved_outcome, unfit_outcome}
use Rattle.tk_run.proofs.Headlines.{budget_last, done_last}
use Rattle.tk_run.proofs.SessionHeadlines.{starved_last, unfit_last}

-- ---- how the run ended

-- a run that is over is compared
pub over_compares : (last : LastLine) (steps count : ℕ) (found : Option Difference) → IsOver last → judged_outcome last steps count found ≡ compared_outcome count found
over_compares lasts.Idle steps count found is = refl
over_compares lasts.Halt steps count found is = refl
over_compares lasts.Budget steps count found is = refl
over_compares lasts.Starved steps count found (inl (inl is)) = absurd (cc)
over_compares lasts.Starved steps count found (inl (inr is)) = absurd (cc)
over_compares lasts.Starved steps count found (inr is) = absurd (cc)
over_compares (lasts.Unfit entry) steps count found (inl (inl is)) = absurd (cc)
over_compares (lasts.Unfit entry) steps count found (inl (inr is)) = absurd (cc)
over_compares (lasts.Unfit entry) steps count found (inr is) = absurd (cc)

pub done_over : (last : LastLine) → status_of_last last ≡ statuses.Done → IsOver last
done_over last is = inl (done_last last is)

pub budget_over : (last : LastLine) → status_of_last last ≡ statuses.Budget → IsOver last
budget_over last is = inr (budget_last last is)

-- a run that can lack no ending is over
pub end_over : (last : LastLine) → IsEnd last → IsOver last
end_over lasts.Idle is = inl (inl refl)
end_over lasts.Halt is = inl (inr refl)
end_over lasts.Budget is = inr refl
end_over lasts.Starved is = absurd is
end_over (lasts.Unfit entry) is = absurd is

-- ---- what was compared

-- the first line that differs, as the sink saw it
difference_is : (run : Trace) (given : List ℕ) (lines : List Line) (whole taken seen : List ℕ) → whole ≡ text_of_lines (lines_of run) → taken ≡ whole → seen ≡ given → text_lines given ≡ map text_of_line lines
    → run_difference run lines ≡ difference_of taken seen
difference_is run given lines whole taken seen whole_is taken_is seen_is shows =
    ap (λ (wants : List (List ℕ)). first_difference 1 wants (map text_of_line lines)) (ap text_lines (sym (taken_is ∙ whole_is)))
    ∙ ap (first_difference 1 (text_lines taken)) (sym shows ∙ ap text_lines (sym seen_is))

-- of a run that is over, by what differs
run_says : (run : Trace) (lines : List Line) (found : Option Difference) → IsOver run.last → run_difference run lines ≡ found → compared_outcome (length lines) found ≡ run_outcome run lines
run_says run lines found over is =
    ap (compared_outcome (length lines)) (sym is) ∙ sym (over_compares run.last run.steps (length lines) (run_difference run lines) over)

-- the whole trace was compared
pub compared_whole : (run : Trace) (given : List ℕ) (lines : List Line) (stops : Bool) (new : Comparison) (found : Compared) (result : Result Verdict OutOfMemory) → IsOver run.last → text_lines given ≡ map text_of_line lines
    → Appends (Some (told (fresh given stops))) (Some (told new)) (text_of_lines (lines_of run))
    → IfSame found (λ count. difference_of new.taken new.given ≡ None) → IfSame found (λ count. count ≡ length (text_lines new.given)) → IfDiffers found (λ apart. difference_of new.taken new.given ≡ Some apart)
    → GivesVerdict found result → IfOk result (λ verdict. outcome_of verdict ≡ run_outcome run lines)
compared_whole run given lines stops new (comparisons.Same count) result over shows all none counted apart gives =
    let took = all_taken given (text_of_lines (lines_of run)) stops new all in
    let difference : run_difference run lines ≡ None = difference_is run given lines (text_of_lines (lines_of run)) new.taken new.given refl took.1 took.0 shows ∙ none in
    let size : count ≡ length lines = counted ∙ (ap (λ (text : List ℕ). length (text_lines text)) took.0 ∙ (ap length shows ∙ length-map lines text_of_line)) in
    rw gives (ap same_outcome size ∙ run_says run lines None over difference)
compared_whole run given lines stops new (comparisons.Differs apart_at) result over shows all none counted apart gives =
    let took = all_taken given (text_of_lines (lines_of run)) stops new all in
    rw gives (run_says run lines (Some (shown apart_at)) over (difference_is run given lines (text_of_lines (lines_of run)) new.taken new.given refl took.1 took.0 shows ∙ apart))
compared_whole run given lines stops new comparisons.OutOfMemory (Ok verdict) over shows all none counted apart gives = absurd (cc)
compared_whole run given lines stops new comparisons.OutOfMemory (Err error) over shows all none counted apart gives = tt

counted_fault : (faults : ℕ) → Rose 0 faults → 0 < faults
counted_fault faults (inl rose) = rose
counted_fault faults (inr most) = omega (arith, most)

-- the sink was stopped at a difference, which is that of the whole trace
pub compared_front : (run : Trace) (given : List ℕ) (lines : List Line) (stops : Bool) (new : Comparison) (found : Compared) (result : Result Verdict OutOfMemory) → IsOver run.last → text_lines given ≡ map text_of_line lines
    → AppendsFront (Some (told (fresh given stops))) (Some (told new)) (text_of_lines (lines_of run)) → Rose 0 new.faults
    → (0 < new.faults → IfDiffers found (λ apart. (more : List ℕ) → difference_of (new.taken ++ more) new.given ≡ Some apart)) → IfSame found (λ count. new.faults ≡ 0)
    → GivesVerdict found result → IfOk result (λ verdict. outcome_of verdict ≡ run_outcome run lines)
compared_front run given lines stops new (comparisons.Same count) result over shows part rose apart never gives = absurd (omega (arith, counted_fault new.faults rose, never))
compared_front run given lines stops new (comparisons.Differs apart_at) result over shows part rose apart never gives =
    let took = front_taken given (text_of_lines (lines_of run)) stops new part in
    let rest : List ℕ = took.1.0 in
    rw gives (run_says run lines (Some (shown apart_at)) over
    (difference_is run given lines (text_of_lines (lines_of run)) (new.taken ++ rest) new.given refl took.1.1 took.0 shows ∙ apart (counted_fault new.faults rose) rest))
compared_front run given lines stops new comparisons.OutOfMemory (Ok verdict) over shows part rose apart never gives = absurd (cc)
compared_front run given lines stops new comparisons.OutOfMemory (Err error) over shows part rose apart never gives = tt

-- ---- an ending that is missing or isn't fit

pub starved_is : (run : Trace) (lines : List Line) (steps : ℕ) → status_of_last run.last ≡ statuses.Starved → steps ≡ run.steps → starved_outcome steps ≡ run_outcome run lines
starved_is run lines steps status counted =
    ap starved_outcome counted ∙ ap (λ (last : LastLine). judged_outcome last run.steps (length lines) (run_difference run lines)) (sym (starved_last run.last status))

pub unfit_is : (run : Trace) (lines : List Line) (entry : ℕ) → status_of_last run.last ≡ statuses.Unfit entry → unfit_outcome entry ≡ run_outcome run lines
unfit_is run lines entry status = ap (λ (last : LastLine). judged_outcome last run.steps (length lines) (run_difference run lines)) (sym (unfit_last run.last entry status))
