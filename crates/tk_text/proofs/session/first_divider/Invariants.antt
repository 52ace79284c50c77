-- The first divider is the first one of what is left.
use Rattle.std.proofs.Common.{◌≡◌, ◌+◌, ◌≤◌, length}
use Rattle.std.specs.Option.{option_copied}
use Rattle.tk_text.specs.Sessions.{divider_from, divider_at}
use Rattle.tk_text.specs.Tokens.{parts_left, room_left}
use Rattle.tk_text.proofs.session.first_divider.Given as goal

abbrev pub invariant-lines : goal.invariant-lines
invariant-lines l = record {
  same : divider_from l.word l.number l.at (parts_left 10 (option_copied l.left)) ≡ divider_at l.word l.text;
  room : l.at + room_left (option_copied l.left) ≡ length l.text + 1;
  counted : l.number ≤ l.at + 1;
}

abbrev pub decreases-lines : goal.decreases-lines
decreases-lines l = room_left (option_copied l.left)
