-- Traces whose first line has the number 7: the lines that they spell, or the first line that is the text of none.
use Rattle.std.specs.Prelude.{◌≡◌, refl, ℕ, negsuc, List, [], ◌∷◌, codes, Result, Ok, Err}
use Rattle.std.specs.Fmt as F
use Rattle.tk_types.specs.declared.line.Line.{Line}
use Rattle.tk_types.specs.declared.line.Line.TheVariants as lines
use Rattle.tk_types.specs.declared.line.LineEnding.TheVariants as endings
use Rattle.tk_types.specs.declared.line.LastLine.TheVariants as lasts
use Rattle.tk_types.specs.declared.why.Why.TheVariants.{Trace}
use Rattle.tk_types.specs.Codes as C
use Rattle.tk_model.specs.Decimals as D
use Rattle.tk_model.specs.LineText as T
use Rattle.tk_model.specs.TextLines as L
use Rattle.tk_model.specs.Words as W
use Rattle.tk_raw.specs.RawReading.{Refusal}
use Rattle.tk_trace.specs.Reading as P
use Rattle.tk_session.specs.TracedReading as R

-- what a trace is read as whose first line has the number 7
abbrev pub read : List ℕ → Result (List Line) Refusal
read trace = R.lines_from 7 (L.text_lines trace)

-- an empty rest is an empty trace
pub no_lines : read [] ≡ Ok []
unfolding R.lines_from R.line_of P.line_at P.line_of_tag P.dispatch_line_at P.tick_line_at P.ending_line_at P.ending_at P.done_at P.cut_at P.end_line_at P.end_at P.plain_end_at P.value_at P.u8_at P.u32_at D.natural_at D.number_at D.fits_i32 T.text_of_line T.words_of T.value_text C.coded C.code_of C.error_text C.error_named L.text_lines L.whole_lines W.parts_of F.digits
no_lines = refl

-- one line for each of the trace
pub four_lines : read (codes "5 D 1\n6 K 30\n6 J 1 64 cut 128\n7 END idle\n") ≡ Ok (lines.Dispatch 5 1 ∷ lines.Tick 6 30 ∷ lines.Ending 6 1 64 (endings.Cut 128) ∷ lines.End 7 lasts.Idle ∷ [])
unfolding R.lines_from R.line_of P.line_at P.line_of_tag P.dispatch_line_at P.tick_line_at P.ending_line_at P.ending_at P.done_at P.cut_at P.end_line_at P.end_at P.plain_end_at P.value_at P.u8_at P.u32_at D.natural_at D.number_at D.fits_i32 T.text_of_line T.words_of T.value_text C.coded C.code_of C.error_text C.error_named L.text_lines L.whole_lines W.parts_of F.digits
four_lines = refl

-- the last line feed may be missing
pub last_feed_missing : read (codes "5 D 1\n6 D 0") ≡ Ok (lines.Dispatch 5 1 ∷ lines.Dispatch 6 0 ∷ [])
unfolding R.lines_from R.line_of P.line_at P.line_of_tag P.dispatch_line_at P.tick_line_at P.ending_line_at P.ending_at P.done_at P.cut_at P.end_line_at P.end_at P.plain_end_at P.value_at P.u8_at P.u32_at D.natural_at D.number_at D.fits_i32 T.text_of_line T.words_of T.value_text C.coded C.code_of C.error_text C.error_named L.text_lines L.whole_lines W.parts_of F.digits
last_feed_missing = refl

-- an empty line is a wrong line
pub empty_line : read (codes "5 D 1\n\n5 D 1\n") ≡ Err (8, Trace)
unfolding R.lines_from R.line_of P.line_at P.line_of_tag P.dispatch_line_at P.tick_line_at P.ending_line_at P.ending_at P.done_at P.cut_at P.end_line_at P.end_at P.plain_end_at P.value_at P.u8_at P.u32_at D.natural_at D.number_at D.fits_i32 T.text_of_line T.words_of T.value_text C.coded C.code_of C.error_text C.error_named L.text_lines L.whole_lines W.parts_of F.digits
empty_line = refl

-- so is one that is all there is
pub line_feed_alone : read (codes "\n") ≡ Err (7, Trace)
unfolding R.lines_from R.line_of P.line_at P.line_of_tag P.dispatch_line_at P.tick_line_at P.ending_line_at P.ending_at P.done_at P.cut_at P.end_line_at P.end_at P.plain_end_at P.value_at P.u8_at P.u32_at D.natural_at D.number_at D.fits_i32 T.text_of_line T.words_of T.value_text C.coded C.code_of C.error_text C.error_named L.text_lines L.whole_lines W.parts_of F.digits
line_feed_alone = refl

-- no space is free
pub two_spaces : read (codes "5 D  1\n") ≡ Err (7, Trace)
unfolding R.lines_from R.line_of P.line_at P.line_of_tag P.dispatch_line_at P.tick_line_at P.ending_line_at P.ending_at P.done_at P.cut_at P.end_line_at P.end_at P.plain_end_at P.value_at P.u8_at P.u32_at D.natural_at D.number_at D.fits_i32 T.text_of_line T.words_of T.value_text C.coded C.code_of C.error_text C.error_named L.text_lines L.whole_lines W.parts_of F.digits
two_spaces = refl

-- none before the first word, and none behind the last
pub space_behind : read (codes "5 D 1\n5 D 1 \n") ≡ Err (8, Trace)
unfolding R.lines_from R.line_of P.line_at P.line_of_tag P.dispatch_line_at P.tick_line_at P.ending_line_at P.ending_at P.done_at P.cut_at P.end_line_at P.end_at P.plain_end_at P.value_at P.u8_at P.u32_at D.natural_at D.number_at D.fits_i32 T.text_of_line T.words_of T.value_text C.coded C.code_of C.error_text C.error_named L.text_lines L.whole_lines W.parts_of F.digits
space_behind = refl

-- a number has one spelling
pub leading_zero : read (codes "05 D 1\n") ≡ Err (7, Trace)
unfolding R.lines_from R.line_of P.line_at P.line_of_tag P.dispatch_line_at P.tick_line_at P.ending_line_at P.ending_at P.done_at P.cut_at P.end_line_at P.end_at P.plain_end_at P.value_at P.u8_at P.u32_at D.natural_at D.number_at D.fits_i32 T.text_of_line T.words_of T.value_text C.coded C.code_of C.error_text C.error_named L.text_lines L.whole_lines W.parts_of F.digits
leading_zero = refl

-- a number fits its type
pub task_too_large : read (codes "5 D 256\n") ≡ Err (7, Trace)
unfolding R.lines_from R.line_of P.line_at P.line_of_tag P.dispatch_line_at P.tick_line_at P.ending_line_at P.ending_at P.done_at P.cut_at P.end_line_at P.end_at P.plain_end_at P.value_at P.u8_at P.u32_at D.natural_at D.number_at D.fits_i32 T.text_of_line T.words_of T.value_text C.coded C.code_of C.error_text C.error_named L.text_lines L.whole_lines W.parts_of F.digits
task_too_large = refl

-- an error stands by its name
pub error_by_name : read (codes "5 J 1 2 done E_IO 0") ≡ Ok (lines.Ending 5 1 2 (endings.Done (negsuc 56) 0) ∷ [])
unfolding R.lines_from R.line_of P.line_at P.line_of_tag P.dispatch_line_at P.tick_line_at P.ending_line_at P.ending_at P.done_at P.cut_at P.end_line_at P.end_at P.plain_end_at P.value_at P.u8_at P.u32_at D.natural_at D.number_at D.fits_i32 T.text_of_line T.words_of T.value_text C.coded C.code_of C.error_text C.error_named L.text_lines L.whole_lines W.parts_of F.digits
error_by_name = refl

-- and not by its number
pub error_by_number : read (codes "5 J 1 2 done -57 0") ≡ Err (7, Trace)
unfolding R.lines_from R.line_of P.line_at P.line_of_tag P.dispatch_line_at P.tick_line_at P.ending_line_at P.ending_at P.done_at P.cut_at P.end_line_at P.end_at P.plain_end_at P.value_at P.u8_at P.u32_at D.natural_at D.number_at D.fits_i32 T.text_of_line T.words_of T.value_text C.coded C.code_of C.error_text C.error_named L.text_lines L.whole_lines W.parts_of F.digits
error_by_number = refl

-- an entry of a journal is no line of a trace
pub journal_line : read (codes "5 1 64 done\n") ≡ Err (7, Trace)
unfolding R.lines_from R.line_of P.line_at P.line_of_tag P.dispatch_line_at P.tick_line_at P.ending_line_at P.ending_at P.done_at P.cut_at P.end_line_at P.end_at P.plain_end_at P.value_at P.u8_at P.u32_at D.natural_at D.number_at D.fits_i32 T.text_of_line T.words_of T.value_text C.coded C.code_of C.error_text C.error_named L.text_lines L.whole_lines W.parts_of F.digits
journal_line = refl

-- the first wrong line is refused
pub first_wrong_line : read (codes "5 D 1\n5 D\n5 X 1\n") ≡ Err (8, Trace)
unfolding R.lines_from R.line_of P.line_at P.line_of_tag P.dispatch_line_at P.tick_line_at P.ending_line_at P.ending_at P.done_at P.cut_at P.end_line_at P.end_at P.plain_end_at P.value_at P.u8_at P.u32_at D.natural_at D.number_at D.fits_i32 T.text_of_line T.words_of T.value_text C.coded C.code_of C.error_text C.error_named L.text_lines L.whole_lines W.parts_of F.digits
first_wrong_line = refl
