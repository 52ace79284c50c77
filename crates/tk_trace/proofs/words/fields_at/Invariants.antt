-- The fields so far, and those that the words left spell, are those of all words; the places behind hold 0.
use Rattle.std.proofs.Common.{◌≡◌, length, take, drop}
use Rattle.std.specs.Int.{w32}
use Rattle.std.specs.Int.RustNames.{FitsSigned}
use Rattle.std.specs.List.{All}
use Rattle.tk_model.specs.Lists.{texts}
use Rattle.tk_model.specs.LineRanges.{no_fields}
use Rattle.tk_trace.specs.Reading.{with_front, numbers_at}
use Rattle.tk_trace.proofs.words.fields_at.Given as goal

abbrev pub invariant-words : goal.invariant-words
invariant-words l = record {
  same : with_front (take l.place l.fields) (numbers_at (drop l.place (texts l.words))) ≡ numbers_at (texts l.words);
  behind : drop l.place l.fields ≡ drop l.place no_fields;
  places : length l.fields ≡ 5;
  fits : All (FitsSigned w32) l.fields;
}
