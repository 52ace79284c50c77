-- What the program has to write and to answer, for its words and its input.
use Rattle.std.specs.Prelude.{ℕ, List, ◌++◌, [], Option, Some, None, codes, decimal}
use Rattle.tk_types.specs.declared.script.Script.{Script}
use Rattle.tk_types.specs.declared.script.Reading.{Reading}
use Rattle.tk_types.specs.declared.script.Reading.TheVariants as readings
use Rattle.tk_types.specs.declared.run.End.{End}
use Rattle.tk_types.specs.declared.run.End.TheVariants as ends
use Rattle.tk_types.specs.declared.run.Mode.{Mode}
use Rattle.tk_types.specs.declared.line.LastLine.{LastLine}
use Rattle.tk_types.specs.declared.line.LastLine.TheVariants as lasts
use Rattle.tk_types.specs.declared.why.Why.{Why}
use Rattle.tk_types.specs.Reasons.{why_text}
use Rattle.tk_model.specs.ScriptText.{printed}
use Rattle.machine_model.specs.Runs.Generator.{generated, summary}
use Rattle.machine_model.specs.Runs.SyncTrace.{sync_trace}
use Rattle.machine_model.specs.Runs.Trace.{Trace, lines_of, trace}
use Rattle.tk_model.specs.LineText.{text_of_lines}
use Rattle.tk_run.specs.declared.command.Command.{Command}
use Rattle.tk_run.specs.declared.command.Command.TheVariants.{Run, Replay, Check}
use Rattle.tk_run.specs.declared.status.Status.{Status}
use Rattle.tk_run.specs.declared.status.Status.TheVariants as statuses
use Rattle.tk_run.specs.Commands.{command_of, default_budget}
use Rattle.tk_gen.specs.Summaries.{summed_text}
use Rattle.tk_gen.specs.declared.summary.Summary.{Summary}
use Rattle.tk_run.specs.Readings.{reading_of, session_of}
use Rattle.tk_session.specs.declared.session.Session.{Session}
use Rattle.tk_session.specs.declared.session.SessionReading.{SessionReading}
use Rattle.tk_session.specs.declared.session.SessionReading.TheVariants as sessions

pub record Outcome : Type 0 where
  pub status : Status
  pub bytes : List ℕ

-- the number with which the process ends
abbrev pub number_of : Status → ℕ
number_of statuses.Done = 0
number_of statuses.Budget = 1
number_of (statuses.Refused line why) = 2
number_of statuses.ReadFault = 3
number_of statuses.WriteFault = 4
number_of statuses.NoMemory = 5
number_of statuses.NoThread = 6
number_of statuses.Starved = 7
number_of (statuses.Unfit entry) = 8
number_of (statuses.Differs line) = 9
number_of statuses.Usage = 64

-- a run that ended by itself is done
abbrev pub status_of_last : LastLine → Status
status_of_last lasts.Idle = statuses.Done
status_of_last lasts.Halt = statuses.Done
status_of_last lasts.Budget = statuses.Budget
status_of_last lasts.Starved = statuses.Starved
status_of_last (lasts.Unfit entry) = statuses.Unfit entry

abbrev pub status_of_end : End → Status
status_of_end ends.Idle = statuses.Done
status_of_end ends.Halt = statuses.Done
status_of_end ends.Budget = statuses.Budget

abbrev pub trace_outcome : Trace → Outcome
trace_outcome run = record { status = status_of_last run.last; bytes = text_of_lines (lines_of run) }

-- `refused LINE WHY`
unfoldable pub refusal_text : ℕ → Why → List ℕ
refusal_text line why = codes "refused " ++ decimal line ++ codes " " ++ why_text why ++ codes "\n"

abbrev pub refusal_outcome : ℕ → Why → Outcome
refusal_outcome line why = record { status = statuses.Refused line why; bytes = refusal_text line why }

-- the trace of a session: the run of its script, fed with the endings of its journal
abbrev pub session_trace : Mode → ℕ → Session → Trace
session_trace mode budget session = trace session.script mode budget session.journal

-- the trace of the session that was read, or its refusal
abbrev pub session_outcome : Mode → ℕ → SessionReading → Outcome
session_outcome mode budget (sessions.Session session) = trace_outcome (session_trace mode budget session)
session_outcome mode budget (sessions.Refused line why) = refusal_outcome line why

unfoldable pub replay_outcome : Mode → ℕ → List ℕ → Outcome
replay_outcome mode budget input = session_outcome mode budget (session_of input)

-- the printed form of a script
abbrev pub form_outcome : Script → Outcome
form_outcome script = record { status = statuses.Done; bytes = printed script }

-- the printed form of what was read, or its refusal
abbrev pub printed_outcome : Reading → Outcome
printed_outcome (readings.Script script) = form_outcome script
printed_outcome (readings.Refused line why) = refusal_outcome line why

unfoldable pub check_outcome : List ℕ → Outcome
check_outcome input = printed_outcome (reading_of input)

abbrev pub usage_outcome : Outcome
usage_outcome = record { status = statuses.Usage; bytes = codes "usage\n" }

-- the trace of the script with a number, which is run in sync mode
unfoldable pub generated_trace : ℕ → Trace
generated_trace number = sync_trace (generated number) default_budget

-- a run that is summed up
abbrev pub summary_outcome : ℕ → Trace → Outcome
summary_outcome number run = record { status = status_of_last run.last; bytes = summary number run }

abbrev pub generate_outcome : ℕ → Outcome
generate_outcome number = summary_outcome number (generated_trace number)

-- the same of what was counted
abbrev pub summed_outcome : Summary → Outcome
summed_outcome summed = record { status = status_of_end summed.last; bytes = summed_text summed }
