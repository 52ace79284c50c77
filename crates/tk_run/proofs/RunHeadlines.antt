-- What a run answers, by what was read, gives what it answers by the input, and the headline.
use Rattle.std.specs.Prelude.{not, ◌==◌}
use Rattle.std.proofs.lemmas.Bool.Decides.{nat_tests}
use Rattle.std.proofs.Common.{◌≡◌, ◌≤◌, ℕ, false, true, List, [], ◌∷◌, length, Option, Some, None, IfSome, refl, ap, sym, subst, ◌∙◌, arith}
use Rattle.tk_types.specs.declared.line.LastLine.{LastLine}
use Rattle.tk_types.specs.declared.line.LastLine.TheVariants as lasts
use Rattle.tk_types.specs.declared.run.Mode.{Mode}
use Rattle.tk_types.specs.declared.run.Mode.TheVariants as modes
use Rattle.tk_types.specs.declared.script.Device.{Device}
use Rattle.tk_types.specs.declared.script.Reading.{Reading}
use Rattle.tk_types.specs.declared.script.Reading.TheVariants as readings
use Rattle.tk_types.specs.declared.script.Script.{Script}
use Rattle.kernel_model.specs.Bodies.Statements.{IsRunnable}
use Rattle.fleet_model.specs.Records.{Record}
use Rattle.machine_model.specs.Runs.SyncTrace.{sync_trace}
use Rattle.machine_model.specs.Runs.Trace.{Trace, lines_of, trace}
use Rattle.tk_model.specs.LineText.{text_of_lines}
use Rattle.tk_ports.specs.Streams.{Appends, AppendsFront}
use Rattle.tk_ports.proofs.Streams.{front_none}
use Rattle.turn_lemmas.proofs.Alone.{alone_own, alone_sync}
use Rattle.tk_run.specs.Answers.{IsDone, IsPastReading, IsPastStart, OutcomeAnswers, RunAnswers}
use Rattle.tk_run.specs.Outcomes.{Outcome, refusal_outcome, status_of_last, trace_outcome}
use Rattle.tk_run.specs.Readings.{reading_of}
use Rattle.tk_run.specs.Runs.{InputAnswers, IsRunOf, ReadingAnswers, RunHeadline, ScriptAnswers, WritesFront, WritesRun, has_devices}
use Rattle.tk_run.specs.declared.status.Status.{Status}
use Rattle.tk_run.specs.declared.status.Status.TheVariants as statuses
use Rattle.tk_run.proofs.Headlines.{budget_last, done_last}
use Rattle.tk_run.proofs.Readings.{spelled}
use Rattle.tk_run.proofs.Told.{told_then}

-- ---- a run without devices

pub none_there : (devices : List Device) → (length devices == 0) ≡ true → devices ≡ []
none_there [] is = refl
none_there (device ∷ devices) is = let zero : length (device ∷ devices) ≡ 0 = grind (arith, nat_tests, is) in absurd (omega (arith, zero))

abbrev alone_run : Script → Mode → ℕ → Trace
alone_run script mode budget = trace script mode budget []

alone_is : (script : Script) (mode : Mode) (budget : ℕ) → IsRunnable script → 1 ≤ budget → script.devices ≡ [] → IsRunOf script mode budget (alone_run script mode budget)
alone_is script mode budget runnable low none = record {
  own = alone_own script mode budget low;
  sync = λ same. alone_sync script mode budget runnable low none same;
  alone = λ none. refl;
}

no_devices : (script : Script) → script.devices ≡ [] → has_devices script ≡ false
no_devices script none = ap (λ (devices : List Device). not (length devices == 0)) none

alone_writes : (script : Script) (mode : Mode) (budget : ℕ) (IsEnd : LastLine → Type 0) (old new : Option (List ℕ)) → IsRunnable script → 1 ≤ budget → script.devices ≡ [] → IsEnd (alone_run script mode budget).last →
    Appends old new (trace_outcome (alone_run script mode budget)).bytes → WritesRun script mode budget IsEnd old new None
alone_writes script mode budget IsEnd old new runnable low none last written = record {
  run = alone_run script mode budget;
  is = alone_is script mode budget runnable low none;
  last = last;
  written = written;
  told = none;
  there = sym (no_devices script none);
}

alone_front : (script : Script) (mode : Mode) (budget : ℕ) (old new : Option (List ℕ)) → IsRunnable script → 1 ≤ budget → script.devices ≡ [] →
    AppendsFront old new (trace_outcome (alone_run script mode budget)).bytes → WritesFront script mode budget old new
alone_front script mode budget old new runnable low none front = record {
  run = alone_run script mode budget;
  own = alone_own script mode budget low;
  front = front;
  sync = λ same. subst (λ (t : Trace). AppendsFront old new (text_of_lines (lines_of t))) (alone_sync script mode budget runnable low none same) front;
  alone = λ none. front;
}

pub alone_script : (script : Script) (mode : Mode) (budget : ℕ) (old new : Option (List ℕ)) (status : Status) → IsRunnable script → 1 ≤ budget → script.devices ≡ [] →
    RunAnswers (trace_outcome (alone_run script mode budget)) old new status → ScriptAnswers script mode budget old new status None
alone_script script mode budget old new statuses.Done runnable low none answers = alone_writes script mode budget IsDone old new runnable low none (done_last (alone_run script mode budget).last answers.0) answers.1
alone_script script mode budget old new statuses.Budget runnable low none answers =
    alone_writes script mode budget (λ last. last ≡ lasts.Budget) old new runnable low none (budget_last (alone_run script mode budget).last answers.0) answers.1
alone_script script mode budget old new statuses.WriteFault runnable low none answers = (alone_front script mode budget old new runnable low none answers, sym (no_devices script none))
alone_script script mode budget old new statuses.NoMemory runnable low none answers = alone_front script mode budget old new runnable low none answers
alone_script script mode budget old new statuses.NoThread runnable low none answers = absurd answers
alone_script script mode budget old new statuses.ReadFault runnable low none answers = absurd answers
alone_script script mode budget old new statuses.Starved runnable low none answers = absurd answers
alone_script script mode budget old new statuses.Usage runnable low none answers = absurd answers
alone_script script mode budget old new (statuses.Unfit entry) runnable low none answers = absurd answers
alone_script script mode budget old new (statuses.Differs line) runnable low none answers = absurd answers
alone_script script mode budget old new (statuses.Refused line why) runnable low none answers = absurd answers

-- ---- by the input

-- nothing was written, since the host's memory ran out before the run
pub nothing_front : (script : Script) (mode : Mode) (budget : ℕ) (held : Option (List ℕ)) → 1 ≤ budget → WritesFront script mode budget held held
nothing_front script mode budget held low = record {
  run = alone_run script mode budget;
  own = alone_own script mode budget low;
  front = front_none held (text_of_lines (lines_of (alone_run script mode budget)));
  sync = λ same. front_none held (text_of_lines (lines_of (sync_trace script budget)));
  alone = λ none. front_none held (text_of_lines (lines_of (alone_run script mode budget)));
}

pub nothing_read : (mode : Mode) (budget : ℕ) (read : Reading) (held : Option (List ℕ)) → 1 ≤ budget → ReadingAnswers mode budget read held held statuses.NoMemory None
nothing_read mode budget (readings.Script script) held low = nothing_front script mode budget held low
nothing_read mode budget (readings.Refused line why) held low = (front_none held (refusal_outcome line why).bytes, refl)

pub told_nothing : (left : Option (List ℕ)) (mode : Mode) (budget : ℕ) (held : Option (List ℕ)) → 1 ≤ budget → IfSome left (λ input. InputAnswers mode budget input held held statuses.NoMemory None)
told_nothing None mode budget held low = tt
told_nothing (Some input) mode budget held low = nothing_read mode budget (reading_of input) held low

pub input_answers : (mode : Mode) (budget : ℕ) (input : List ℕ) (old new : Option (List ℕ)) (status : Status) (closed : Option Record) → IsPastStart status →
    ReadingAnswers mode budget (reading_of input) old new status closed → InputAnswers mode budget input old new status closed
input_answers mode budget input old new statuses.ReadFault closed past answers = absurd past
input_answers mode budget input old new statuses.Done closed past answers = answers
input_answers mode budget input old new statuses.Budget closed past answers = answers
input_answers mode budget input old new (statuses.Refused line why) closed past answers = answers
input_answers mode budget input old new statuses.WriteFault closed past answers = answers
input_answers mode budget input old new statuses.NoMemory closed past answers = answers
input_answers mode budget input old new statuses.NoThread closed past answers = answers
input_answers mode budget input old new statuses.Starved closed past answers = answers
input_answers mode budget input old new (statuses.Unfit entry) closed past answers = answers
input_answers mode budget input old new (statuses.Differs line) closed past answers = answers
input_answers mode budget input old new statuses.Usage closed past answers = answers

-- ---- the headline

read_headline : (mode : Mode) (budget : ℕ) (input : List ℕ) (old new : Option (List ℕ)) (read : Reading) (status : Status) (closed : Option Record) → reading_of input ≡ read → IsPastStart status →
    ReadingAnswers mode budget read old new status closed → RunHeadline mode budget input old new status closed
read_headline mode budget input old new (readings.Script script) statuses.Done closed is past answers = (script, spelled input script is, answers)
read_headline mode budget input old new (readings.Script script) statuses.Budget closed is past answers = (script, spelled input script is, answers)
read_headline mode budget input old new (readings.Refused line why) statuses.Done closed is past answers = absurd (cc (answers.0.0))
read_headline mode budget input old new (readings.Refused line why) statuses.Budget closed is past answers = absurd (cc (answers.0.0))
read_headline mode budget input old new _ statuses.Starved closed is past answers = past
read_headline mode budget input old new _ (statuses.Unfit entry) closed is past answers = past
read_headline mode budget input old new _ (statuses.Differs line) closed is past answers = past
read_headline mode budget input old new _ statuses.Usage closed is past answers = past
read_headline mode budget input old new _ (statuses.Refused line why) closed is past answers = tt
read_headline mode budget input old new _ statuses.ReadFault closed is past answers = tt
read_headline mode budget input old new _ statuses.WriteFault closed is past answers = tt
read_headline mode budget input old new _ statuses.NoMemory closed is past answers = tt
read_headline mode budget input old new _ statuses.NoThread closed is past answers = tt

pub run_headline : (mode : Mode) (budget : ℕ) (input : List ℕ) (old new : Option (List ℕ)) (status : Status) (closed : Option Record) → IsPastStart status →
    ReadingAnswers mode budget (reading_of input) old new status closed → RunHeadline mode budget input old new status closed
run_headline mode budget input old new status closed past answers = read_headline mode budget input old new (reading_of input) status closed refl past answers

pub told_input : (left : Option (List ℕ)) (mode : Mode) (budget : ℕ) (old new : Option (List ℕ)) (status : Status) (closed : Option Record) → IsPastStart status →
    IfSome left (λ input. ReadingAnswers mode budget (reading_of input) old new status closed) → IfSome left (λ input. InputAnswers mode budget input old new status closed)
told_input left mode budget old new status closed past =
    told_then left (λ input. ReadingAnswers mode budget (reading_of input) old new status closed) (λ input. InputAnswers mode budget input old new status closed)
    (λ input. input_answers mode budget input old new status closed past)

pub told_run_headline : (left : Option (List ℕ)) (mode : Mode) (budget : ℕ) (old new : Option (List ℕ)) (status : Status) (closed : Option Record) → IsPastStart status →
    IfSome left (λ input. ReadingAnswers mode budget (reading_of input) old new status closed) → IfSome left (λ input. RunHeadline mode budget input old new status closed)
told_run_headline left mode budget old new status closed past =
    told_then left (λ input. ReadingAnswers mode budget (reading_of input) old new status closed) (λ input. RunHeadline mode budget input old new status closed)
    (λ input. run_headline mode budget input old new status closed past)

-- ---- what may be answered

pub script_past : (script : Script) (mode : Mode) (budget : ℕ) (old new : Option (List ℕ)) (status : Status) (closed : Option Record) → ScriptAnswers script mode budget old new status closed → IsPastStart status
script_past script mode budget old new statuses.Done closed answers = tt
script_past script mode budget old new statuses.Budget closed answers = tt
script_past script mode budget old new (statuses.Refused line why) closed answers = tt
script_past script mode budget old new statuses.WriteFault closed answers = tt
script_past script mode budget old new statuses.NoMemory closed answers = tt
script_past script mode budget old new statuses.NoThread closed answers = tt
script_past script mode budget old new statuses.ReadFault closed answers = absurd answers
script_past script mode budget old new statuses.Starved closed answers = absurd answers
script_past script mode budget old new (statuses.Unfit entry) closed answers = absurd answers
script_past script mode budget old new (statuses.Differs line) closed answers = absurd answers
script_past script mode budget old new statuses.Usage closed answers = absurd answers

pub refused_past : (status : Status) → IsPastReading status → IsPastStart status
refused_past statuses.Done past = tt
refused_past statuses.Budget past = tt
refused_past (statuses.Refused line why) past = tt
refused_past statuses.WriteFault past = tt
refused_past statuses.NoMemory past = tt
refused_past statuses.NoThread past = tt
refused_past statuses.ReadFault past = absurd past
refused_past statuses.Starved past = absurd past
refused_past (statuses.Unfit entry) past = absurd past
refused_past (statuses.Differs line) past = absurd past
refused_past statuses.Usage past = absurd past

-- that a driver couldn't be started is no answer where nothing is run
pub refused_starts : {A : Type 0} (status : Status) → IsPastReading status → status ≡ statuses.NoThread → A
refused_starts status past is = absurd (subst IsPastReading is past)

-- a run without drivers answers less
pub alone_starts : {A : Type 0} (outcome : Outcome) (old new : Option (List ℕ)) (status : Status) → RunAnswers outcome old new status → status ≡ statuses.NoThread → A
alone_starts outcome old new status answers is = absurd (subst (RunAnswers outcome old new) is answers)
