use Rattle.std.specs.Prelude.{ℕ, ◌≡◌, ◌≤◌, ◌-◌, ◌+◌, vec_len, vec_capacity}
use Rattle.dev_drivers.specs.Closings.{Closing}
use Rattle.dev_drivers.specs.Lines.{channels_of}
use Rattle.dev_drivers.proofs.closing.close_all.Given as goal

abbrev pub invariant-devices : goal.invariant-devices
invariant-devices g l = record {
  closing : Closing g.P.Started.job_of (channels_of l.fn.lines.items) l.kept.items l.left.items;
  running : g.P.Started.running l.spawner - vec_len l.left ≡ g.P.Started.running l.fn.spawner - vec_len l.fn.lines;
  starts : g.P.Started.start_count l.fn.spawner ≤ g.P.Started.start_count l.spawner;
  refusals : g.P.Started.refusal_count l.fn.spawner ≤ g.P.Started.refusal_count l.spawner;
  room : vec_len l.kept + vec_len l.left ≤ vec_capacity l.kept;
}

abbrev pub decreases-devices : goal.decreases-devices
decreases-devices g l = vec_len l.left
