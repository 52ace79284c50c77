-- What is read of a text as a session is what the text spells.
use Rattle.std.specs.Prelude.{◌↔◌, IfOk}
use Rattle.std.proofs.Common.{◌≡◌, ℕ, List, Result, Ok, Err, refl, sym, ap, subst, ◌∙◌}
use Rattle.tk_types.specs.declared.line.Entry.{Entry}
use Rattle.tk_types.specs.declared.memory.OutOfMemory.{OutOfMemory}
use Rattle.tk_types.specs.declared.script.Script.{Script}
use Rattle.tk_model.specs.TextLines.{text_lines, whole_lines}
use Rattle.tk_text.specs.Sessions.{Rest, divider_word}
use Rattle.tk_text.specs.declared.session.Divider.TheVariants.{Journal}
use Rattle.tk_raw.specs.RawReading.{Refusal}
use Rattle.tk_session.specs.Reading.{answer, entries_from, journal_behind, session_reading, with_script}
use Rattle.tk_session.specs.Spelling.{SpellsSession}
use Rattle.tk_session.specs.declared.session.Session.{Session}
use Rattle.tk_session.specs.declared.session.SessionReading.{SessionReading}
use Rattle.tk_session.specs.declared.session.SessionReading.TheVariants as readings
use Rattle.tk_session.proofs.EntryLaws.{entries_again, entries_texts}
use Rattle.tk_session.proofs.PartLaws.{SpellsParts, one_read, parts_again, parts_take, refusal_of}

-- ---- what is read is spelled

record HasJournal (script : Script) (read : Result (List Entry) Refusal) (session : Session) : Type 0 where
  pub entries : List Entry
  pub read_is : read ≡ Ok entries
  pub same : record { script = script; journal = entries } ≡ session

has_journal : (script : Script) (read : Result (List Entry) Refusal) (found : Session) → with_script script read ≡ Ok found → HasJournal script read found
has_journal script (Err refusal) found e = absurd (cc)
has_journal script (Ok entries) found e =
    let made : Session = record { script = script; journal = entries } in
    let same : made ≡ found = cc in record { entries = entries; read_is = refl; same = same }

spelled_parts : (text : List ℕ) (found : Session) → SpellsParts (divider_word Journal) text journal_behind found → SpellsSession text found
spelled_parts text found p =
    let read = has_journal p.script (entries_from p.rest.line (text_lines p.rest.bytes)) found p.read_is in
    let texts = entries_texts p.rest.line (text_lines p.rest.bytes) read.entries read.read_is in
    subst (SpellsSession text) read.same (record {
      short = p.short;
      before = p.before;
      divider = p.divider;
      behind = p.behind;
      cut = p.cut;
      script = p.spells;
      journal = sym p.bytes ∙ texts.0;
      entries = texts.1;
    })

pub session_takes : (text : List ℕ) (found : Session) → session_reading text ≡ Ok found → SpellsSession text found
unfolding session_reading
session_takes text found e = spelled_parts text found (parts_take Journal text journal_behind found e)

-- ---- what is spelled is read

journal_again : (text : List ℕ) (spelled : Session) (s : SpellsSession text spelled) (rest : Rest) → text_lines rest.bytes ≡ whole_lines s.behind → journal_behind spelled.script rest ≡ Ok spelled
journal_again text spelled s rest bytes =
    ap (with_script spelled.script) (ap (entries_from rest.line) (bytes ∙ s.journal) ∙ entries_again rest.line spelled.journal s.entries)

pub session_again : (text : List ℕ) (spelled : Session) → SpellsSession text spelled → session_reading text ≡ Ok spelled
unfolding session_reading
session_again text spelled s =
    parts_again Journal text s.before s.divider s.behind spelled.script journal_behind spelled s.short s.cut s.script (journal_again text spelled s)

pub reading_is : (text : List ℕ) (session : Session) → (session_reading text ≡ Ok session) ↔ SpellsSession text session
reading_is text session = (session_takes text session, session_again text session)

-- no text spells two sessions
pub spells_one : (text : List ℕ) (one other : Session) → SpellsSession text one → SpellsSession text other → one ≡ other
spells_one text one other first second = one_read (session_reading text) one other (session_again text one first) (session_again text other second)

-- ---- answers

answer_ok : (read : Result Session Refusal) (found : Session) → answer read ≡ readings.Session found → read ≡ Ok found
answer_ok (Err refusal) found e = absurd (cc)
answer_ok (Ok other) found e = cc

pub answer_found : (text : List ℕ) (result : Result SessionReading OutOfMemory) → IfOk result (λ read. read ≡ answer (session_reading text)) → IfOk result (λ read. (found : Session) → read ≡ readings.Session found → SpellsSession text found)
answer_found text (Ok read) exact = λ found e. session_takes text found (answer_ok (session_reading text) found (sym exact ∙ e))
answer_found text (Err error) exact = tt

pub answer_only : (text : List ℕ) (result : Result SessionReading OutOfMemory) → IfOk result (λ read. read ≡ answer (session_reading text)) → (spelled : Session) → SpellsSession text spelled → IfOk result (λ read. read ≡ readings.Session spelled)
answer_only text (Ok read) exact spelled s = exact ∙ ap answer (session_again text spelled s)
answer_only text (Err error) exact spelled s = tt

-- ---- refusals

pub never_refused : (text : List ℕ) (spelled : Session) (refusal : Refusal) → SpellsSession text spelled → session_reading text ≡ Err refusal → ⊥
never_refused text spelled refusal s e = let found = session_again text spelled s in cc

pub else_refused : (text : List ℕ) → ((spelled : Session) → SpellsSession text spelled → ⊥) → (refusal : Refusal) × (session_reading text ≡ Err refusal)
else_refused text never = refusal_of (session_reading text) (λ found e. never found (session_takes text found e))
