use Rattle.std.specs.Prelude.{◌≡◌, vec_len}
use Rattle.dev_drivers.specs.Lines.{Kept, channels_of}
use Rattle.dev_drivers.proofs.rows.pop_first.Given as goal

abbrev pub invariant-devices : goal.invariant-devices
invariant-devices g l = Kept l.initial.lines.items l.lines.items × (channels_of l.lines.items ≡ channels_of l.initial.lines.items) × (vec_len l.lines ≡ vec_len l.initial.lines)
