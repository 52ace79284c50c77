use Rattle.std.proofs.Common.{◌≡◌, ◌+◌, ◌-◌, length}
use Rattle.std.specs.List.{fold}
use Rattle.std.specs.Prelude.{filter}
use Rattle.device_model.specs.Devices.Calls.{aborted, wish_is_of}
use Rattle.device_model.specs.Devices.Tables.{wish_of}
use Rattle.dev_layer.specs.Closing.{waits_at}
use Rattle.dev_layer.specs.Parts.{AreQueued}
use Rattle.dev_layer.proofs.closing.abort_waits.Given as goal

-- what is left to end comes to what all comes to, and those that are left queue in their order
abbrev pub invariant-waits : goal.invariant-waits
invariant-waits l = record {
  all : fold aborted l.base (filter (waits_at (584 + (l.descriptor - 1)) (575 + l.device) (λ t. wish_is_of l.descriptor (wish_of l.table t)) l.base) l.base.since)
      ≡ fold aborted l.fn.base (filter (waits_at (584 + (l.descriptor - 1)) (575 + l.device) (λ t. wish_is_of l.descriptor (wish_of l.table t)) l.fn.base) l.fn.base.since);
  queued : AreQueued l.base;
  made : l.base.made ≡ l.fn.base.made;
  time : l.base.time ≡ l.fn.base.time;
}

-- each turn ends one
abbrev pub decreases-waits : goal.decreases-waits
decreases-waits l = length (filter (waits_at (584 + (l.descriptor - 1)) (575 + l.device) (λ t. wish_is_of l.descriptor (wish_of l.table t)) l.base) l.base.since)
