-- The outcome of a verification gives its headline: a verdict is one on what the input spells, and the trace of its own run is told to be that.
use Rattle.std.proofs.Common.{◌≡◌, ◌⊎◌, inl, inr, ℕ, List, length, map, Option, Some, None, Result, Ok, Err, IfSome, refl, subst, sym, ap, ◌∙◌}
use Rattle.tk_types.specs.declared.line.LastLine.{LastLine}
use Rattle.tk_types.specs.declared.line.LastLine.TheVariants as lasts
use Rattle.tk_types.specs.declared.run.Mode.{Mode}
use Rattle.tk_ports.specs.Streams.{Appends}
use Rattle.tk_model.specs.LineText.{text_of_line}
use Rattle.tk_raw.specs.RawReading.{Refusal}
use Rattle.tk_session.specs.TracedReading.{TracedScript, traced_reading}
use Rattle.tk_session.specs.TracedSpelling.{SpellsTraced}
use Rattle.tk_session.proofs.TracedReadings.{traced_again, traced_takes}
use Rattle.trace_compare.specs.Differences.{Difference, first_difference}
use Rattle.trace_compare.proofs.DifferenceLaws.{none_same, same_none}
use Rattle.tk_run.specs.declared.status.Status.{Status}
use Rattle.tk_run.specs.declared.status.Status.TheVariants as statuses
use Rattle.tk_run.specs.Answers.{OutcomeAnswers}
use Rattle.tk_run.specs.Outcomes.{Outcome}
use Rattle.tk_run.specs.Verdicts.{IsOver, IsOwnRun, IsVerdict, IsYes, Verifies, VerifyHeadline, WritesVerdict, compared_outcome, difference_text, judged_outcome, run_difference, run_lines, same_outcome, same_text, starved_text, trace_reading_outcome, traced_outcome, traced_run, unfit_text, verify_outcome}
use Rattle.tk_run.proofs.Verdicts.{over_compares}
use Rattle.tk_run.proofs.Told.{told_then}

-- ---- what a status says of a run and what differs

-- the trace is that of the run
record IsSame (last : LastLine) (count : ℕ) (found : Option Difference) (bytes : List ℕ) : Type 0 where
  over : IsOver last
  none : found ≡ None
  text : bytes ≡ same_text count

same_compared : (last : LastLine) (count : ℕ) (found : Option Difference) → IsOver last → (compared_outcome count found).status ≡ statuses.Done → IsSame last count found (compared_outcome count found).bytes
same_compared last count None over done = record { over = over; none = refl; text = refl }
same_compared last count (Some found) over done = absurd (cc)

done_says : (last : LastLine) (steps count : ℕ) (found : Option Difference) → (judged_outcome last steps count found).status ≡ statuses.Done → IsSame last count found (judged_outcome last steps count found).bytes
done_says lasts.Idle steps count found done = same_compared lasts.Idle count found (inl (inl refl)) done
done_says lasts.Halt steps count found done = same_compared lasts.Halt count found (inl (inr refl)) done
done_says lasts.Budget steps count found done = same_compared lasts.Budget count found (inr refl) done
done_says lasts.Starved steps count found done = absurd (cc)
done_says (lasts.Unfit entry) steps count found done = absurd (cc)

-- a line of it differs
record IsApart (last : LastLine) (line : ℕ) (found : Option Difference) (bytes : List ℕ) : Type 0 where
  over : IsOver last
  difference : Difference
  some : found ≡ Some difference
  at : difference.line ≡ line
  text : bytes ≡ difference_text difference

apart_compared : (last : LastLine) (line count : ℕ) (found : Option Difference) → IsOver last → (compared_outcome count found).status ≡ statuses.Differs line → IsApart last line found (compared_outcome count found).bytes
apart_compared last line count None over differs = absurd (cc)
apart_compared last line count (Some found) over differs = record { over = over; difference = found; some = refl; at = cc; text = refl }

differs_says : (last : LastLine) (line steps count : ℕ) (found : Option Difference) → (judged_outcome last steps count found).status ≡ statuses.Differs line → IsApart last line found (judged_outcome last steps count found).bytes
differs_says lasts.Idle line steps count found differs = apart_compared lasts.Idle line count found (inl (inl refl)) differs
differs_says lasts.Halt line steps count found differs = apart_compared lasts.Halt line count found (inl (inr refl)) differs
differs_says lasts.Budget line steps count found differs = apart_compared lasts.Budget line count found (inr refl) differs
differs_says lasts.Starved line steps count found differs = absurd (cc)
differs_says (lasts.Unfit entry) line steps count found differs = absurd (cc)

-- the comparison says nothing of endings
not_starved : (count : ℕ) (found : Option Difference) → (compared_outcome count found).status ≡ statuses.Starved → ⊥
not_starved count None is = absurd (cc)
not_starved count (Some found) is = absurd (cc)

not_unfit : (count entry : ℕ) (found : Option Difference) → (compared_outcome count found).status ≡ statuses.Unfit entry → ⊥
not_unfit count entry None is = absurd (cc)
not_unfit count entry (Some found) is = absurd (cc)

starved_says : (last : LastLine) (steps count : ℕ) (found : Option Difference) → (judged_outcome last steps count found).status ≡ statuses.Starved → (last ≡ lasts.Starved) × ((judged_outcome last steps count found).bytes ≡ starved_text steps)
starved_says lasts.Idle steps count found is = absurd (not_starved count found is)
starved_says lasts.Halt steps count found is = absurd (not_starved count found is)
starved_says lasts.Budget steps count found is = absurd (not_starved count found is)
starved_says lasts.Starved steps count found is = (refl, refl)
starved_says (lasts.Unfit entry) steps count found is = absurd (cc)

unfit_says : (last : LastLine) (entry steps count : ℕ) (found : Option Difference) → (judged_outcome last steps count found).status ≡ statuses.Unfit entry → (last ≡ lasts.Unfit entry) × ((judged_outcome last steps count found).bytes ≡ unfit_text entry)
unfit_says lasts.Idle entry steps count found is = absurd (not_unfit count entry found is)
unfit_says lasts.Halt entry steps count found is = absurd (not_unfit count entry found is)
unfit_says lasts.Budget entry steps count found is = absurd (not_unfit count entry found is)
unfit_says lasts.Starved entry steps count found is = absurd (cc)
unfit_says (lasts.Unfit other) entry steps count found is = let same : other ≡ entry = cc in (ap lasts.Unfit same, ap unfit_text same)

-- ---- the headline

abbrev run_of : Mode → ℕ → TracedScript → Option Difference
run_of mode budget traced = run_difference (traced_run mode budget traced) traced.lines

done_writes : (mode : Mode) (budget : ℕ) (traced : TracedScript) (old new : Option (List ℕ)) → OutcomeAnswers (traced_outcome mode budget traced) old new statuses.Done → WritesVerdict mode budget traced old new statuses.Done
done_writes mode budget traced old new (status, all) =
    let run = traced_run mode budget traced in
    let says = done_says run.last run.steps (length traced.lines) (run_of mode budget traced) status in
    (record { same = none_same 1 (run_lines run) (map text_of_line traced.lines) says.none; over = says.over }, subst (Appends old new) says.text all)

differs_writes : (mode : Mode) (budget line : ℕ) (traced : TracedScript) (old new : Option (List ℕ)) → OutcomeAnswers (traced_outcome mode budget traced) old new (statuses.Differs line) → WritesVerdict mode budget traced old new (statuses.Differs line)
differs_writes mode budget line traced old new (status, all) =
    let run = traced_run mode budget traced in
    let says = differs_says run.last line run.steps (length traced.lines) (run_of mode budget traced) status in
    (says.over, (says.difference, says.some, says.at, subst (Appends old new) says.text all))

starved_writes : (mode : Mode) (budget : ℕ) (traced : TracedScript) (old new : Option (List ℕ)) → OutcomeAnswers (traced_outcome mode budget traced) old new statuses.Starved → WritesVerdict mode budget traced old new statuses.Starved
starved_writes mode budget traced old new (status, all) =
    let run = traced_run mode budget traced in
    let says = starved_says run.last run.steps (length traced.lines) (run_of mode budget traced) status in
    (says.0, subst (Appends old new) says.1 all)

unfit_writes : (mode : Mode) (budget entry : ℕ) (traced : TracedScript) (old new : Option (List ℕ)) → OutcomeAnswers (traced_outcome mode budget traced) old new (statuses.Unfit entry) → WritesVerdict mode budget traced old new (statuses.Unfit entry)
unfit_writes mode budget entry traced old new (status, all) =
    let run = traced_run mode budget traced in
    let says = unfit_says run.last entry run.steps (length traced.lines) (run_of mode budget traced) status in
    (says.0, subst (Appends old new) says.1 all)

read_headline : (mode : Mode) (budget : ℕ) (input : List ℕ) (old new : Option (List ℕ)) (read : Result TracedScript Refusal) (status : Status) → traced_reading input ≡ read
    → OutcomeAnswers (trace_reading_outcome mode budget read) old new status → VerifyHeadline mode budget input old new status
read_headline mode budget input old new (Ok traced) statuses.Done is answers = λ verdict. (traced, traced_takes input traced is, done_writes mode budget traced old new answers)
read_headline mode budget input old new (Ok traced) (statuses.Differs line) is answers = λ verdict. (traced, traced_takes input traced is, differs_writes mode budget line traced old new answers)
read_headline mode budget input old new (Ok traced) statuses.Starved is answers = λ verdict. (traced, traced_takes input traced is, starved_writes mode budget traced old new answers)
read_headline mode budget input old new (Ok traced) (statuses.Unfit entry) is answers = λ verdict. (traced, traced_takes input traced is, unfit_writes mode budget entry traced old new answers)
read_headline mode budget input old new (Err refusal) statuses.Done is answers = absurd (cc (answers.0))
read_headline mode budget input old new (Err refusal) (statuses.Differs line) is answers = absurd (cc (answers.0))
read_headline mode budget input old new (Err refusal) statuses.Starved is answers = absurd (cc (answers.0))
read_headline mode budget input old new (Err refusal) (statuses.Unfit entry) is answers = absurd (cc (answers.0))
read_headline mode budget input old new _ statuses.Budget is answers = λ verdict. absurd verdict
read_headline mode budget input old new _ (statuses.Refused line why) is answers = λ verdict. absurd verdict
read_headline mode budget input old new _ statuses.ReadFault is answers = λ verdict. absurd verdict
read_headline mode budget input old new _ statuses.WriteFault is answers = λ verdict. absurd verdict
read_headline mode budget input old new _ statuses.NoMemory is answers = λ verdict. absurd verdict
read_headline mode budget input old new _ statuses.NoThread is answers = λ verdict. absurd verdict
read_headline mode budget input old new _ statuses.Usage is answers = λ verdict. absurd verdict

verify_headline : (mode : Mode) (budget : ℕ) (input : List ℕ) (old new : Option (List ℕ)) (status : Status) → OutcomeAnswers (verify_outcome mode budget input) old new status → VerifyHeadline mode budget input old new status
unfolding verify_outcome
verify_headline mode budget input old new status answers = read_headline mode budget input old new (traced_reading input) status refl answers

-- ---- the trace of its own run

-- a run that is over and has the lines is told to be the same
own_outcome : (mode : Mode) (budget : ℕ) (traced : TracedScript) → IsOwnRun mode budget traced → traced_outcome mode budget traced ≡ same_outcome (length traced.lines)
own_outcome mode budget traced own =
    let run = traced_run mode budget traced in
    let none : run_of mode budget traced ≡ None = subst (λ (lines : List (List ℕ)). first_difference 1 (run_lines run) lines ≡ None) own.same (same_none 1 (run_lines run)) in
    over_compares run.last run.steps (length traced.lines) (run_of mode budget traced) own.over ∙ ap (compared_outcome (length traced.lines)) none

yes : (outcome : Outcome) (old new : Option (List ℕ)) (status : Status) → outcome.status ≡ statuses.Done → OutcomeAnswers outcome old new status → IsYes status
yes outcome old new statuses.Done is answers = tt
yes outcome old new statuses.ReadFault is answers = tt
yes outcome old new statuses.WriteFault is answers = tt
yes outcome old new statuses.NoMemory is answers = tt
yes outcome old new statuses.NoThread is answers = absurd answers
yes outcome old new statuses.Budget is answers = absurd (cc (is, answers.0))
yes outcome old new (statuses.Refused line why) is answers = absurd (cc (is, answers.0))
yes outcome old new statuses.Starved is answers = absurd (cc (is, answers.0))
yes outcome old new (statuses.Unfit entry) is answers = absurd (cc (is, answers.0))
yes outcome old new (statuses.Differs line) is answers = absurd (cc (is, answers.0))
yes outcome old new statuses.Usage is answers = absurd (cc (is, answers.0))

verifies : (mode : Mode) (budget : ℕ) (input : List ℕ) (old new : Option (List ℕ)) (status : Status) → OutcomeAnswers (verify_outcome mode budget input) old new status → Verifies mode budget input status
unfolding verify_outcome
verifies mode budget input old new status answers = λ traced spells own.
    let whole : trace_reading_outcome mode budget (traced_reading input) ≡ same_outcome (length traced.lines) = ap (trace_reading_outcome mode budget) (traced_again input traced spells) ∙ own_outcome mode budget traced own in
    yes (trace_reading_outcome mode budget (traced_reading input)) old new status (ap (λ (outcome : Outcome). outcome.status) whole) answers

-- ---- where the source tells the input

pub told_verify_headline : (left : Option (List ℕ)) (mode : Mode) (budget : ℕ) (old new : Option (List ℕ)) (status : Status)
    → IfSome left (λ input. OutcomeAnswers (verify_outcome mode budget input) old new status) → IfSome left (λ input. VerifyHeadline mode budget input old new status)
told_verify_headline left mode budget old new status =
    told_then left (λ input. OutcomeAnswers (verify_outcome mode budget input) old new status) (λ input. VerifyHeadline mode budget input old new status) (λ input. verify_headline mode budget input old new status)

pub told_verifies : (left : Option (List ℕ)) (mode : Mode) (budget : ℕ) (old new : Option (List ℕ)) (status : Status)
    → IfSome left (λ input. OutcomeAnswers (verify_outcome mode budget input) old new status) → IfSome left (λ input. Verifies mode budget input status)
told_verifies left mode budget old new status =
    told_then left (λ input. OutcomeAnswers (verify_outcome mode budget input) old new status) (λ input. Verifies mode budget input status) (λ input. verifies mode budget input old new status)
