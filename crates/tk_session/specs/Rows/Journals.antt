-- Journals whose first line has the number 7: the entries that they spell, or the first line that is the text of none.
use Rattle.std.specs.Prelude.{◌≡◌, refl, ℕ, List, [], ◌∷◌, codes, Result, Ok, Err}
use Rattle.std.specs.Fmt as F
use Rattle.tk_types.specs.declared.line.Entry.{Entry}
use Rattle.tk_types.specs.declared.line.How.TheVariants.{Done, Cut}
use Rattle.tk_types.specs.declared.why.Why.TheVariants.{Journal}
use Rattle.tk_model.specs.Decimals as D
use Rattle.tk_model.specs.TextLines as L
use Rattle.tk_model.specs.Words as W
use Rattle.tk_raw.specs.RawReading.{Refusal}
use Rattle.tk_trace.specs.Entries as E
use Rattle.tk_trace.specs.Reading as P
use Rattle.tk_session.specs.Reading as R

-- what a journal is read as whose first line has the number 7
abbrev pub read : List ℕ → Result (List Entry) Refusal
read journal = R.entries_from 7 (L.text_lines journal)

abbrev pub done : Entry
done = record { place = 5; device = 1; request = 64; how = Done }

abbrev pub cut : Entry
cut = record { place = 4294967295; device = 255; request = 0; how = Cut 128 }

-- an empty rest is an empty journal
pub no_lines : read [] ≡ Ok []
unfolding R.entries_from R.line_entry E.entry_at E.how_at P.u8_at P.u32_at D.natural_at L.text_lines L.whole_lines W.parts_of F.digits
no_lines = refl

-- one line for each entry
pub two_entries : read (codes "5 1 64 done\n4294967295 255 0 cut 128\n") ≡ Ok (done ∷ cut ∷ [])
unfolding R.entries_from R.line_entry E.entry_at E.how_at P.u8_at P.u32_at D.natural_at L.text_lines L.whole_lines W.parts_of F.digits
two_entries = refl

-- the last line feed may be missing
pub last_feed_missing : read (codes "5 1 64 done\n4294967295 255 0 cut 128") ≡ Ok (done ∷ cut ∷ [])
unfolding R.entries_from R.line_entry E.entry_at E.how_at P.u8_at P.u32_at D.natural_at L.text_lines L.whole_lines W.parts_of F.digits
last_feed_missing = refl

-- an empty line is a wrong line
pub empty_line : read (codes "5 1 64 done\n\n") ≡ Err (8, Journal)
unfolding R.entries_from R.line_entry E.entry_at E.how_at P.u8_at P.u32_at D.natural_at L.text_lines L.whole_lines W.parts_of F.digits
empty_line = refl

-- so is one that is all there is
pub line_feed_alone : read (codes "\n") ≡ Err (7, Journal)
unfolding R.entries_from R.line_entry E.entry_at E.how_at P.u8_at P.u32_at D.natural_at L.text_lines L.whole_lines W.parts_of F.digits
line_feed_alone = refl

-- a number has one spelling
pub leading_zero : read (codes "5 01 64 done\n") ≡ Err (7, Journal)
unfolding R.entries_from R.line_entry E.entry_at E.how_at P.u8_at P.u32_at D.natural_at L.text_lines L.whole_lines W.parts_of F.digits
leading_zero = refl

-- no space is free
pub two_spaces : read (codes "5 1  64 done\n") ≡ Err (7, Journal)
unfolding R.entries_from R.line_entry E.entry_at E.how_at P.u8_at P.u32_at D.natural_at L.text_lines L.whole_lines W.parts_of F.digits
two_spaces = refl

-- no space is free behind the last word either
pub space_behind : read (codes "5 1 64 done \n") ≡ Err (7, Journal)
unfolding R.entries_from R.line_entry E.entry_at E.how_at P.u8_at P.u32_at D.natural_at L.text_lines L.whole_lines W.parts_of F.digits
space_behind = refl

-- a number fits its type
pub device_too_large : read (codes "5 256 64 done\n") ≡ Err (7, Journal)
unfolding R.entries_from R.line_entry E.entry_at E.how_at P.u8_at P.u32_at D.natural_at L.text_lines L.whole_lines W.parts_of F.digits
device_too_large = refl

-- so does a place
pub place_too_large : read (codes "5 1 64 done\n4294967296 1 1 done") ≡ Err (8, Journal)
unfolding R.entries_from R.line_entry E.entry_at E.how_at P.u8_at P.u32_at D.natural_at L.text_lines L.whole_lines W.parts_of F.digits
place_too_large = refl

-- a cut has its number of bytes
pub cut_without_its_size : read (codes "5 1 64 cut\n") ≡ Err (7, Journal)
unfolding R.entries_from R.line_entry E.entry_at E.how_at P.u8_at P.u32_at D.natural_at L.text_lines L.whole_lines W.parts_of F.digits
cut_without_its_size = refl

-- and no other line has one
pub done_with_a_size : read (codes "5 1 64 done 8\n") ≡ Err (7, Journal)
unfolding R.entries_from R.line_entry E.entry_at E.how_at P.u8_at P.u32_at D.natural_at L.text_lines L.whole_lines W.parts_of F.digits
done_with_a_size = refl

-- the first wrong line is refused
pub first_wrong_line : read (codes "5 1 64 done\n5 1\n5 x 1 done\n") ≡ Err (8, Journal)
unfolding R.entries_from R.line_entry E.entry_at E.how_at P.u8_at P.u32_at D.natural_at L.text_lines L.whole_lines W.parts_of F.digits
first_wrong_line = refl
