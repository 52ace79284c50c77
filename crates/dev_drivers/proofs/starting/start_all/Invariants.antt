use Rattle.std.specs.Prelude.{◌≡◌, ◌≤◌, ◌+◌, vec_len, vec_capacity}
use Rattle.dev_drivers.specs.Starts.{AreStarted, HasGrown}
use Rattle.dev_drivers.proofs.starting.start_all.Given as goal

abbrev pub invariant-devices : goal.invariant-devices
invariant-devices g l = record {
  started : AreStarted g.P.Started.job_of l.fn.devices l.lines.items;
  many : vec_len l.lines ≡ l.i;
  capacity : vec_capacity l.lines ≡ vec_capacity l.fn.lines;
  running : g.P.Started.running l.spawner ≡ g.P.Started.running l.fn.spawner + l.i;
  grown : HasGrown (g.P.Started.start_count l.fn.spawner) (g.P.Started.start_count l.spawner) l.i;
  starts : g.P.Started.start_count l.fn.spawner ≤ g.P.Started.start_count l.spawner;
  refusals : g.P.Started.refusal_count l.fn.spawner ≤ g.P.Started.refusal_count l.spawner;
}
