-- What the reading of a journal, or of the entries of a trace, answers.
use Rattle.std.specs.Prelude.{◌≡◌, List, Result, Ok, Err}
use Rattle.tk_types.specs.declared.line.Entry.{Entry}
use Rattle.tk_types.specs.declared.why.Why.{Why}
use Rattle.tk_raw.specs.RawReading.{Refusal}
use Rattle.tk_session.specs.declared.journal.JournalError.{JournalError}
use Rattle.tk_session.specs.declared.journal.JournalError.TheVariants as errors

-- the entries that the definition gives, or the line that it refuses for this reason, but for want of memory
abbrev pub GivesEntries : Why → Result (List Entry) JournalError → Result (List Entry) Refusal → Type 0
GivesEntries why (Ok entries) read = read ≡ Ok entries
GivesEntries why (Err errors.Memory) read = Unit {0}
GivesEntries why (Err (errors.Wrong line)) read = read ≡ Err (line, why)
