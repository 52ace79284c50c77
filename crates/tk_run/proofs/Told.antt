-- What is said of the input, where the source tells it, over plain variables.
use Rattle.std.proofs.Common.{◌≡◌, ℕ, ◌+◌, List, take, Option, Some, None, IfSome, sym, ap, subst}
use Rattle.tk_types.specs.declared.script.Reading.{Reading}
use Rattle.tk_run.specs.declared.command.Command.{Command}
use Rattle.tk_run.specs.declared.command.Command.TheVariants.{Check}
use Rattle.tk_run.specs.declared.status.Status.{Status}
use Rattle.tk_run.specs.Commands.{command_of}
use Rattle.tk_run.specs.Answers.{HeadlineAnswers, OutcomeAnswers}
use Rattle.tk_run.specs.Readings.{reading_of}
use Rattle.tk_run.specs.Outcomes.{Outcome, check_outcome, printed_outcome}
use Rattle.tk_run.proofs.Headlines.{check_headline}
use Rattle.tk_run.proofs.Readings.{reading_of_front}

-- what holds anyway
pub told : {T : Type 0} (o : Option T) (P : T → Type 0) → ((x : T) → P x) → IfSome o P
told None P holds = tt
told (Some x) P holds = holds x

-- what follows
pub told_then : {T : Type 0} (o : Option T) (P Q : T → Type 0) → ((x : T) → P x → Q x) → IfSome o P → IfSome o Q
told_then None P Q so is = tt
told_then (Some x) P Q so is = so x is

-- what the text that was read comes to is what the whole input does
pub check_decides : (text input : List ℕ) → text ≡ take (1048576 + 1) input → check_outcome text ≡ check_outcome input
unfolding check_outcome
check_decides text input is = ap printed_outcome (reading_of_front text input is)

pub told_outcome : (left : Option (List ℕ)) (outcome : List ℕ → Outcome) (text : List ℕ) (P : Outcome → Type 0)
    → ((text input : List ℕ) → text ≡ take (1048576 + 1) input → outcome text ≡ outcome input)
    → IfSome left (λ input. text ≡ take (1048576 + 1) input) → P (outcome text) → IfSome left (λ input. P (outcome input))
told_outcome left outcome text P decides read holds =
    told_then left (λ input. text ≡ take (1048576 + 1) input) (λ input. P (outcome input)) (λ input is. rw (sym (decides text input is)) holds) read

pub told_reading : (left : Option (List ℕ)) (text : List ℕ) (P : Reading → Type 0) → IfSome left (λ input. text ≡ take (1048576 + 1) input) → P (reading_of text) → IfSome left (λ input. P (reading_of input))
told_reading left text P read holds =
    told_then left (λ input. text ≡ take (1048576 + 1) input) (λ input. P (reading_of input)) (λ input is. rw (sym (reading_of_front text input is)) holds) read

pub told_check_headline : (left old new : Option (List ℕ)) (status : Status)
    → IfSome left (λ input. OutcomeAnswers (check_outcome input) old new status) → IfSome left (λ input. HeadlineAnswers (Some Check) input old new status)
told_check_headline left old new status =
    told_then left (λ input. OutcomeAnswers (check_outcome input) old new status) (λ input. HeadlineAnswers (Some Check) input old new status)
    (λ input. check_headline input old new status)

-- what holds of a command holds of the words that are it
pub told_words : (left : Option (List ℕ)) (words : List (List ℕ)) (command : Option Command) (P : Option Command → List ℕ → Type 0) → command ≡ command_of words
    → IfSome left (λ input. P command input) → IfSome left (λ input. P (command_of words) input)
told_words left words command P is = subst (λ (c : Option Command). IfSome left (λ input. P c input)) is

-- beside a record that isn't there
pub told_beside : {T : Type 0} (o : Option T) (P : T → Type 0) (Q : Type 0) → Q → IfSome o P → IfSome o (λ x. P x × Q)
told_beside o P Q q = told_then o P (λ x. P x × Q) (λ x p. (p, q))
