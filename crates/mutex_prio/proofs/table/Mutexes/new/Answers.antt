use Rattle.mutex_prio.proofs.Tables.{fit_at_start}
use Rattle.mutex_prio.proofs.table.Mutexes.new.Goals as goal

pub invariant_of-result : goal.invariant_of-result
invariant_of-result c = fit_at_start c.in_ok-free_slots.field-0.items c.in_ok-none.field-0 c.in_ok-free_slots.ensures c.in_ok-none.ensures
