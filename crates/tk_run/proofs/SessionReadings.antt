-- What is read of an input is a session that can be replayed, and its front up to the limit decides how it is read.
use Rattle.std.specs.Prelude.{IfOk}
use Rattle.std.proofs.Common.{◌≡◌, ◌⊎◌, inl, inr, ℕ, ◌+◌, ◌<◌, ◌≤◌, Bool, true, false, cond, eqb, List, [], ◌∷◌, ◌++◌, length, map, take, Option, Some, None, Result, Ok, Err, refl, sym, ap, ◌∙◌, arith}
use Rattle.std.proofs.lemmas.List.{take_all, length-append, length-map, length-take-le}
use Rattle.std.proofs.lemmas.List.Splits.{length-slice_split}
use Rattle.std.proofs.lemmas.List.Sums.{count_by-le-length}
use Rattle.std.proofs.lemmas.Bool.{lt-ltb}
use Rattle.std.proofs.lemmas.Bool.Decides.{leb_tells}
use Rattle.tk_types.specs.declared.memory.OutOfMemory.{OutOfMemory}
use Rattle.tk_types.specs.declared.why.Why.TheVariants.{Long}
use Rattle.tk_model.specs.Journal.{text_of_entry}
use Rattle.tk_model.specs.TextLines.{whole_lines}
use Rattle.tk_model.specs.Words.{is_word, lines_of, parts_of}
use Rattle.tk_session.specs.Reading.{answer, session_reading}
use Rattle.tk_session.specs.Spelling.{SpellsSession}
use Rattle.tk_session.specs.declared.session.Session.{Session}
use Rattle.tk_session.specs.declared.session.SessionReading.{SessionReading}
use Rattle.tk_session.specs.declared.session.SessionReading.TheVariants as readings
use Rattle.tk_session.proofs.Readings.{session_takes}
use Rattle.tk_run.proofs.Devices.{spelled_devices}
use Rattle.tk_run.proofs.Readings.{spelled_runs}
use Rattle.tk_run.specs.Readings.{session_of}
use Rattle.tk_run.specs.Replays.{IsReplayable, journal_limit}

-- ---- the limit

long_is_refused : (text : List ℕ) → 67108864 < length text → session_reading text ≡ Err (0, Long)
unfolding session_reading
long_is_refused text long = rw (lt-ltb 67108864 (length text) long) refl

pub within_or_past : (n limit : ℕ) → (n ≤ limit) ⊎ (limit < n)
within_or_past n limit = elim (leb_tells n limit) [ inl test ↦ inl test.1 | inr test ↦ inr test.1 ]

front_decides : (text input : List ℕ) → text ≡ take (67108864 + 1) input → (length input ≤ 67108864) ⊎ (67108864 < length input) → session_reading text ≡ session_reading input
front_decides text input is (inl short) = ap session_reading (is ∙ take_all (67108864 + 1) input (omega arith))
front_decides text input is (inr long) =
    let size : length text ≡ 67108864 + 1 = ap length is ∙ length-take-le (67108864 + 1) input (omega arith) in
    long_is_refused text (omega arith) ∙ sym (long_is_refused input long)

-- a text and its front up to one byte past the limit are read alike
pub session_of_front : (text input : List ℕ) → text ≡ take (67108864 + 1) input → session_of text ≡ session_of input
unfolding session_of
session_of_front text input is = ap answer (front_decides text input is (within_or_past (length input) 67108864))

-- ---- what is read is spelled

session_was_read : (read : SessionReading) (text : List ℕ) (session : Session) → session_of text ≡ read → read ≡ readings.Session session → session_reading text ≡ Ok session
unfolding session_of
session_was_read read text session is found = was (session_reading text) (is ∙ found)
  where
    was : (read : _) → answer read ≡ readings.Session session → read ≡ Ok session
    was (Ok other) e = cc
    was (Err refusal) e = absurd (cc)

pub session_spelled : (text : List ℕ) (session : Session) → session_of text ≡ readings.Session session → SpellsSession text session
session_spelled text session is = session_takes text session (session_was_read (readings.Session session) text session is refl)

-- ---- what is spelled can be replayed

whole_few : (lines : List (List ℕ)) → length (whole_lines lines) ≤ length lines
unfolding whole_lines
whole_few [] = omega arith
whole_few (part ∷ []) = last_few (is_word part)
  where
    last_few : (counts : Bool) → length (cond counts (part ∷ []) []) ≤ 1
    last_few true = omega arith
    last_few false = omega arith
whole_few (part ∷ next ∷ lines) = omega (arith, whole_few (next ∷ lines))

lines_few : (text : List ℕ) → length (lines_of text) ≤ length text + 1
unfolding parts_of
lines_few text = omega (arith, length-slice_split (λ byte. eqb byte 10) text, count_by-le-length (λ byte. eqb byte 10) text)

pub session_few : (text : List ℕ) (session : Session) → SpellsSession text session → length session.journal ≤ journal_limit
session_few text session s =
    let entries : length (whole_lines s.behind) ≡ length session.journal = ap length s.journal ∙ length-map session.journal text_of_entry in
    let joins : length (lines_of text) ≡ length s.before + length (s.divider ∷ s.behind) = ap length s.cut.joins ∙ length-append s.before (s.divider ∷ s.behind) in
    omega (arith, entries, joins, whole_few s.behind, lines_few text, s.short)

replayable : (text : List ℕ) (read : SessionReading) → ((session : Session) → read ≡ readings.Session session → SpellsSession text session) → IsReplayable read
replayable text (readings.Session session) found = let s = found session refl in (spelled_runs _ session.script s.script, spelled_devices _ session.script s.script, session_few text session s)
replayable text (readings.Refused line why) found = tt

pub found_replayable : (text : List ℕ) (result : Result SessionReading OutOfMemory) → IfOk result (λ read. (session : Session) → read ≡ readings.Session session → SpellsSession text session) → IfOk result IsReplayable
found_replayable text (Ok read) found = replayable text read found
found_replayable text (Err error) found = tt
