-- The tokens so far, and those of what is left of the first lines, are those of the first lines.
use Rattle.std.proofs.Common.{◌≡◌, ◌+◌, ◌-◌, ◌≤◌, ◌++◌, length, take}
use Rattle.std.specs.Option.{option_copied}
use Rattle.tk_model.specs.Words.{lines_of}
use Rattle.tk_text.specs.Tokens.{text_tokens, parts_left, room_left}
use Rattle.tk_text.proofs.scanning.first_tokens.Given as goal

abbrev pub invariant-lines : goal.invariant-lines
invariant-lines l = record {
  same : l.tokens ++ text_tokens (l.number + 1) l.at (take (l.most - l.number) (parts_left 10 (option_copied l.left))) ≡ text_tokens 1 0 (take l.most (lines_of l.text));
  room : l.at + room_left (option_copied l.left) ≡ length l.text + 1;
  counted : l.number ≤ l.at;
  within : l.number ≤ l.most;
}

abbrev pub decreases-lines : goal.decreases-lines
decreases-lines l = room_left (option_copied l.left)
