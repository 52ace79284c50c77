use Rattle.std.proofs.Common.{◌-◌, ◌<◌}
use Rattle.td_hooks.specs.Kinds.{exists}
use Rattle.td_hooks.specs.Seen.{seen}
use Rattle.td_hooks.proofs.Written.{AreListed}
use Rattle.td_hooks.proofs.listing.write_existing.Given as goal

-- those of lesser IDs are counted and written
abbrev pub invariant-ids : goal.invariant-ids
invariant-ids l = record {
  listed : AreListed (exists (seen l.base l.views) l.kind) l.fn.memory l.memory l.place.address l.place.most l.count (l.id - 1);
  few : l.count < l.id;
}
