-- The tokens so far, and those of what is left, are those of the whole line.
use Rattle.std.proofs.Common.{◌≡◌, ◌+◌, ◌≤◌, ◌++◌, length}
use Rattle.std.specs.Option.{option_copied}
use Rattle.tk_model.specs.Words.{parts_of}
use Rattle.tk_text.specs.Tokens.{line_tokens, parts_left, room_left}
use Rattle.tk_text.proofs.scanning.push_line.Given as goal

abbrev pub invariant-parts : goal.invariant-parts
invariant-parts l = record {
  same : l.tokens ++ line_tokens l.number l.at (parts_left 32 (option_copied l.left)) ≡ l.fn.tokens ++ line_tokens l.number l.start (parts_of 32 l.line);
  room : l.at + room_left (option_copied l.left) ≡ l.start + (length l.line + 1);
  counted : l.number ≤ l.at + 1;
}

abbrev pub decreases-parts : goal.decreases-parts
decreases-parts l = room_left (option_copied l.left)
