-- What a comparison with a run says of the trace that was read.
use Rattle.std.specs.Prelude.{IfOk}
use Rattle.std.proofs.Common.{◌≡◌, ◌⊎◌, inl, inr, ℕ, ◌<◌, Bool, List, [], ◌++◌, length, Option, Some, None, Result, refl, subst, sym, ap, ◌∙◌}
use Rattle.tk_types.specs.declared.line.Entry.{Entry}
use Rattle.tk_types.specs.declared.memory.OutOfMemory.{OutOfMemory}
use Rattle.tk_types.specs.declared.run.Mode.{Mode}
use Rattle.tk_types.specs.declared.script.Script.{Script}
use Rattle.tk_ports.specs.Streams.{Rose}
use Rattle.machine_model.specs.Runs.Trace.{Trace, trace}
use Rattle.tk_model.specs.TextLines.{text_lines}
use Rattle.step_lemmas.proofs.Unstarved.{IsEnd, trace_ends}
use Rattle.tk_session.specs.TracedAnswers.{Shows}
use Rattle.tk_session.specs.TracedReading.{TracedScript}
use Rattle.tk_session.specs.declared.traced.Traced.{Traced}
use Rattle.trace_compare.specs.Answers.{IfDiffers, IfSame}
use Rattle.trace_compare.specs.Comparisons.{Comparison, fresh, told}
use Rattle.trace_compare.specs.Differences.{difference_of}
use Rattle.trace_compare.specs.declared.compared.Compared.{Compared}
use Rattle.tk_run.specs.declared.status.Status.{Status}
use Rattle.tk_run.specs.declared.status.Status.TheVariants as statuses
use Rattle.tk_run.specs.declared.verdict.Verdict.{Verdict}
use Rattle.tk_run.specs.Answers.{OutcomeAnswers}
use Rattle.tk_run.specs.Outcomes.{trace_outcome}
use Rattle.tk_run.specs.Verdicts.{GivesVerdict, IsOver, outcome_of, traced_outcome, traced_run}
use Rattle.tk_run.proofs.Verdicts.{budget_over, compared_front, compared_whole, done_over, end_over}

-- the run that was made is that of the trace which was read
same_run : (mode : Mode) (budget : ℕ) (traced : Traced) (shown : TracedScript) → Shows traced shown → trace traced.script mode budget traced.journal ≡ traced_run mode budget shown
same_run mode budget traced shown shows =
    ap (λ (script : Script). trace script mode budget traced.journal) shows.script ∙ ap (λ (journal : List Entry). trace shown.script mode budget journal) shows.journal

-- the run was over
pub done_answers : (mode : Mode) (budget : ℕ) (traced : Traced) (shown : TracedScript) (stops : Bool) (old new : Comparison) (status : Status) (found : Compared) (result : Result Verdict OutOfMemory)
    → Shows traced shown → old ≡ fresh traced.given.now stops → (status ≡ statuses.Done) ⊎ (status ≡ statuses.Budget)
    → OutcomeAnswers (trace_outcome (trace traced.script mode budget traced.journal)) (Some (told old)) (Some (told new)) status
    → IfSame found (λ count. difference_of new.taken new.given ≡ None) → IfSame found (λ count. count ≡ length (text_lines new.given)) → IfDiffers found (λ apart. difference_of new.taken new.given ≡ Some apart)
    → GivesVerdict found result → IfOk result (λ verdict. outcome_of verdict ≡ traced_outcome mode budget shown)
done_answers mode budget traced shown stops old new status found result shows begun over answers none counted apart gives =
    by_status over (subst (λ (run : Trace). OutcomeAnswers (trace_outcome run) (Some (told old)) (Some (told new)) status) (same_run mode budget traced shown shows) answers)
  where
    run : Trace
    run = traced_run mode budget shown

    by_status : (status ≡ statuses.Done) ⊎ (status ≡ statuses.Budget) → OutcomeAnswers (trace_outcome run) (Some (told old)) (Some (told new)) status → IfOk result (λ verdict. outcome_of verdict ≡ traced_outcome mode budget shown)
    by_status (inl done) all =
        let both = rw done at all in
        compared_whole run traced.given.now shown.lines stops new found result (done_over run.last both.0) shows.given (rw begun at both.1) none counted apart gives
    by_status (inr at_budget) all =
        let both = rw at_budget at all in
        compared_whole run traced.given.now shown.lines stops new found result (budget_over run.last both.0) shows.given (rw begun at both.1) none counted apart gives

-- the sink was stopped
pub stopped_answers : (mode : Mode) (budget : ℕ) (traced : Traced) (shown : TracedScript) (stops : Bool) (old new : Comparison) (status : Status) (found : Compared) (result : Result Verdict OutOfMemory)
    → Shows traced shown → old ≡ fresh traced.given.now stops → status ≡ statuses.WriteFault → (traced.script.devices ≡ []) × (traced.journal ≡ [])
    → OutcomeAnswers (trace_outcome (trace traced.script mode budget traced.journal)) (Some (told old)) (Some (told new)) status → Rose old.faults new.faults
    → (0 < new.faults → IfDiffers found (λ apart. (more : List ℕ) → difference_of (new.taken ++ more) new.given ≡ Some apart)) → IfSame found (λ count. new.faults ≡ 0)
    → GivesVerdict found result → IfOk result (λ verdict. outcome_of verdict ≡ traced_outcome mode budget shown)
stopped_answers mode budget traced shown stops old new status found result shows begun fault alone answers rose apart never gives =
    let run : Trace = traced_run mode budget shown in
    let same = same_run mode budget traced shown shows in
    let ends : IsEnd (trace traced.script mode budget traced.journal).last = subst (λ (journal : List Entry). IsEnd (trace traced.script mode budget journal).last) (sym alone.1) (trace_ends traced.script mode budget alone.0) in
    let over : IsOver run.last = end_over run.last (subst (λ (r : Trace). IsEnd r.last) same ends) in
    let all = subst (λ (r : Trace). OutcomeAnswers (trace_outcome r) (Some (told old)) (Some (told new)) status) same answers in
    compared_front run traced.given.now shown.lines stops new found result over shows.given (rw (fault, begun) at all) (rw begun at rose) apart never gives
