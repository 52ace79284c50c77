-- A text without bytes.
use Rattle.std.proofs.Common.{◌≡◌, length, rules}
use Rattle.tk_raw.proofs.TextLoops.{no_first_line}
use Rattle.tk_raw.proofs.reading.raw_reading.Goals as goal

pub returns-then-is_empty : goal.returns-then-is_empty
returns-then-is_empty c =
    let none : length c.args.text.now ≡ 0 = search rules in
    no_first_line c.args.text.now none
