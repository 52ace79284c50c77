use Rattle.std.proofs.Common.{arith, refl}
use Rattle.dev_drivers.proofs.Lines.{flushed_all_none, flushed_all_on, flushed_at}
use Rattle.dev_drivers.proofs.rows.flush_all.Goals as goal

pub devices-init : goal.devices-init
devices-init g c = (flushed_all_none c.args.lines.now.items, refl)

pub devices-preserved : goal.devices-preserved
devices-preserved g c = (
  flushed_all_on _ _ _ c.devices.invariant.0
      (flushed_at c.devices.lines.items c.devices.i c.index_mut.result.now _ (omega arith) c.index_mut.ensures.value c.flush.ensures.flushed refl),
  c.devices.invariant.1,
)
