use Rattle.std.specs.Prelude.{◌≡◌, vec_len}
use Rattle.dev_drivers.specs.Lines.{AllFlushed}
use Rattle.dev_drivers.proofs.rows.flush_all.Given as goal

abbrev pub invariant-devices : goal.invariant-devices
invariant-devices g l = AllFlushed l.initial.lines.items l.lines.items × (vec_len l.lines ≡ vec_len l.initial.lines)
