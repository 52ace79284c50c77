-- A line's text tells the line.
use Rattle.std.proofs.Common.{◌≡◌, ◌≢◌, ℕ, true, false, leb, List, sym, ap, ◌∙◌, subst, arith}
use Rattle.std.specs.Prelude.{Option, Some, None, IfSome, IfNone}
use Rattle.std.specs.List.{All}
use Rattle.std.specs.Str.{bytes_eq}
use Rattle.std.proofs.lemmas.Slice.Eq.{bytes_eq-Decides}
use Rattle.std.proofs.lemmas.Bool.Decides.{nat_tests}
use Rattle.std.proofs.lemmas.List.Sums.{AllPass-from_list_all}
use Rattle.tk_types.specs.declared.line.Line.{Line}
use Rattle.tk_types.specs.declared.line.Line.TheVariants as lines
use Rattle.tk_types.specs.declared.line.Entry.{Entry}
use Rattle.tk_model.specs.Words.{parts_of}
use Rattle.tk_model.specs.LineText.{words_of, joined, text_of_line}
use Rattle.tk_model.specs.LineRanges.{IsLine}
use Rattle.tk_model.specs.Journal.{words_of_entry, text_of_entry, IsEntry}
use Rattle.tk_trace.specs.Reading.{line_at}
use Rattle.tk_trace.specs.Entries.{entry_at}
use Rattle.tk_trace.proofs.Plain.{are_plain, words_plain, entry_plain}
use Rattle.tk_trace.proofs.Splits.{split_joined, text_again, joined_high}
use Rattle.tk_trace.proofs.Takes.{entry_takes}
use Rattle.tk_trace.proofs.Again.{line_again, entry_again}

-- the words of a line's text are the words of the line
words_again : (line : Line) → are_plain (words_of line) ≡ true → parts_of 32 (text_of_line line) ≡ words_of line
unfolding text_of_line words_of
words_again (lines.Dispatch n task) are = split_joined _ _ are
words_again (lines.Returned n who call result) are = split_joined _ _ are
words_again (lines.Blocked n task call) are = split_joined _ _ are
words_again (lines.Released n task call result) are = split_joined _ _ are
words_again (lines.Tick n time) are = split_joined _ _ are
words_again (lines.Started n handler number) are = split_joined _ _ are
words_again (lines.Ending n device request ending) are = split_joined _ _ are
words_again (lines.Hook n hook) are = split_joined _ _ are
words_again (lines.SaidName n who name) are = split_joined _ _ are
words_again (lines.SaidNumber n who number) are = split_joined _ _ are
words_again (lines.End n end) are = split_joined _ _ are

-- the text of a line is read as that line
pub text_read : (line : Line) → IsLine line → line_at (parts_of 32 (text_of_line line)) ≡ Some line
text_read line is = ap line_at (words_again line (words_plain line is)) ∙ line_again line is

pub lines_same : (a b : Line) → IsLine a → IsLine b → text_of_line a ≡ text_of_line b → a ≡ b
lines_same a b is_a is_b e =
    let one : line_at (parts_of 32 (text_of_line b)) ≡ Some a = subst (λ (text : List ℕ). line_at (parts_of 32 text) ≡ Some a) e (text_read a is_a) in
    let two = text_read b is_b in
    let same : Some a ≡ Some b = sym one ∙ two in cc

-- a byte from the space on is no line feed
high_is_no_feed : (byte : ℕ) → leb 32 byte ≡ true → byte ≢ 10
high_is_no_feed byte high is = grind (arith, nat_tests)

pub no_line_feed : (line : Line) → IsLine line → All (λ byte. byte ≢ 10) (text_of_line line)
unfolding text_of_line
no_line_feed line is = λ k d lt. high_is_no_feed _ (AllPass-from_list_all (leb 32) (joined (words_of line)) (joined_high (words_of line) (words_plain line is)) k d lt)

-- a text whose words spell no line is no line's
pub nothing_found : (text : List ℕ) → line_at (parts_of 32 text) ≡ None → (line : Line) → IsLine line → text ≢ text_of_line line
nothing_found text none line is e =
    let read : line_at (parts_of 32 text) ≡ Some line = subst (λ (bytes : List ℕ). line_at (parts_of 32 bytes) ≡ Some line) (sym e) (text_read line is) in cc

-- nor is one whose words spell a line with another text
pub other_text : (text : List ℕ) (found : Line) → line_at (parts_of 32 text) ≡ Some found → bytes_eq (text_of_line found) text ≡ false → (line : Line) → IsLine line → text ≢ text_of_line line
other_text text found some other line is e =
    let read : line_at (parts_of 32 text) ≡ Some line = subst (λ (bytes : List ℕ). line_at (parts_of 32 bytes) ≡ Some line) (sym e) (text_read line is) in
    let same : found ≡ line = cc in
    let equal : text_of_line found ≡ text = ap text_of_line same ∙ sym e in
    let yes : bytes_eq (text_of_line found) text ≡ true = (bytes_eq-Decides (text_of_line found) text).1 equal in cc

-- the words of an entry's text are the words of the entry
entry_words_again : (entry : Entry) → are_plain (words_of_entry entry) ≡ true → parts_of 32 (text_of_entry entry) ≡ words_of_entry entry
unfolding text_of_entry words_of_entry
entry_words_again entry are = split_joined _ _ are

pub entry_text_read : (entry : Entry) → IsEntry entry → entry_at (parts_of 32 (text_of_entry entry)) ≡ Some entry
entry_text_read entry is = ap entry_at (entry_words_again entry (entry_plain entry is)) ∙ entry_again entry is

no_entry : (text : List ℕ) → entry_at (parts_of 32 text) ≡ None → (entry : Entry) → IsEntry entry → text ≢ text_of_entry entry
no_entry text none entry is e =
    let read : entry_at (parts_of 32 text) ≡ Some entry = subst (λ (bytes : List ℕ). entry_at (parts_of 32 bytes) ≡ Some entry) (sym e) (entry_text_read entry is) in cc

-- the words that spell an entry are the entry's words
entry_text : (text : List ℕ) (entry : Entry) → entry_at (parts_of 32 text) ≡ Some entry → text ≡ text_of_entry entry
unfolding text_of_entry words_of_entry
entry_text text entry e = text_again text _ _ (entry_takes (parts_of 32 text) entry e)

-- what an exact reading of the words says of the text
pub entry_found : (text : List ℕ) (read : Option Entry) → read ≡ entry_at (parts_of 32 text) → IfSome read IsEntry → IfSome read (λ entry. (text ≡ text_of_entry entry) × IsEntry entry)
entry_found text None is entry = tt
entry_found text (Some found) is entry = (entry_text text found (sym is), entry)

pub entry_not_found : (text : List ℕ) (read : Option Entry) → read ≡ entry_at (parts_of 32 text) → IfNone read ((entry : Entry) → IsEntry entry → text ≢ text_of_entry entry)
entry_not_found text None is = no_entry text (sym is)
entry_not_found text (Some found) is = tt

pub entries_same : (a b : Entry) → IsEntry a → IsEntry b → text_of_entry a ≡ text_of_entry b → a ≡ b
entries_same a b is_a is_b e =
    let one : entry_at (parts_of 32 (text_of_entry b)) ≡ Some a = subst (λ (text : List ℕ). entry_at (parts_of 32 text) ≡ Some a) e (entry_text_read a is_a) in
    let two = entry_text_read b is_b in
    let same : Some a ≡ Some b = sym one ∙ two in cc
