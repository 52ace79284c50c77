-- How a text is read as a session: its script first, and then the lines of its journal, one by one.
use Rattle.std.specs.Prelude.{ℕ, ◌+◌, List, [], ◌∷◌, ◌++◌, length, Option, Some, None, Result, Ok, Err}
use Rattle.tk_types.specs.declared.line.Entry.{Entry}
use Rattle.tk_types.specs.declared.script.Script.{Script}
use Rattle.tk_types.specs.declared.why.Why.TheVariants as whys
use Rattle.tk_model.specs.TextLines.{text_lines}
use Rattle.tk_model.specs.Words.{parts_of}
use Rattle.tk_text.specs.Sessions.{Parts, Rest, session}
use Rattle.tk_text.specs.declared.session.Divider.TheVariants as dividers
use Rattle.tk_raw.specs.RawReading.{Refusal}
use Rattle.tk_script.specs.Reading.{reading}
use Rattle.tk_script.specs.Resolving.{◌>>=◌}
use Rattle.tk_trace.specs.Entries.{entry_at}
use Rattle.tk_session.specs.declared.session.Session.{Session}
use Rattle.tk_session.specs.declared.session.SessionReading.{SessionReading}
use Rattle.tk_session.specs.declared.session.SessionReading.TheVariants as readings

-- ---- a script and what stands behind it

-- what stands behind the divider, read in a way of its own; where no line is the divider, the line behind the last is refused
abbrev pub behind_script : {A : Type 0} → (Script → Rest → Result A Refusal) → List ℕ → Option Rest → Script → Result A Refusal
behind_script read text None script = Err (length (text_lines text) + 1, whys.End)
behind_script read text (Some rest) script = read script rest

-- the parts of a text: the script is refused before what stands behind it
abbrev pub parts_reading : {A : Type 0} → (Script → Rest → Result A Refusal) → List ℕ → Option Parts → Result A Refusal
parts_reading read text None = Err (0, whys.Long)
parts_reading read text (Some parts) = reading parts.script >>= behind_script read text parts.behind

-- ---- the journal

-- the entry whose text a line is
unfoldable pub line_entry : List ℕ → Option Entry
line_entry line = entry_at (parts_of 32 line)

-- entries behind those that were read before
abbrev pub with_front : List Entry → Result (List Entry) Refusal → Result (List Entry) Refusal
with_front front (Ok entries) = Ok (front ++ entries)
with_front front (Err refusal) = Err refusal

-- the entry of a line before those behind it; a line that is the text of no entry is refused
abbrev pub then_entries : ℕ → Option Entry → Result (List Entry) Refusal → Result (List Entry) Refusal
then_entries number None later = Err (number, whys.Journal)
then_entries number (Some entry) later = with_front (entry ∷ []) later

-- the entries of lines, the first of which has that number
unfoldable pub entries_from : ℕ → List (List ℕ) → Result (List Entry) Refusal
entries_from number [] = Ok []
entries_from number (line ∷ lines) = then_entries number (line_entry line) (entries_from (number + 1) lines)

-- ---- the session

-- a script with the journal that was read behind it
abbrev pub with_script : Script → Result (List Entry) Refusal → Result Session Refusal
with_script script (Ok journal) = Ok (record { script = script; journal = journal })
with_script script (Err refusal) = Err refusal

-- a script with the journal that is read behind it
abbrev pub journal_behind : Script → Rest → Result Session Refusal
journal_behind script rest = with_script script (entries_from rest.line (text_lines rest.bytes))

-- the session that a text spells, or the line and the reason for which it is refused
unfoldable pub session_reading : List ℕ → Result Session Refusal
session_reading text = parts_reading journal_behind text (session dividers.Journal text)

-- what is answered
abbrev pub answer : Result Session Refusal → SessionReading
answer (Ok session) = readings.Session session
answer (Err refusal) = readings.Refused refusal.0 refusal.1
