use Rattle.std.proofs.Common.{◌≡◌, ◌<◌, ◌-◌, ℕ, get_or}
use Rattle.object_model.specs.Mutexes.Priority.{next_in_chain}
use Rattle.mutex_prio.specs.Lent.{reached}
use Rattle.mutex_prio.proofs.lent.carry.Given as goal

-- what is left of the chain brings each task to what the whole chain brings it to
abbrev pub invariant-chain : goal.invariant-chain
invariant-chain l = (t : ℕ) → t < 256 →
    reached (next_in_chain l.base l.table) t (255 - l._passed) l.at l.pri (get_or l.all t 0) ≡ reached (next_in_chain l.base l.table) t 255 l.from l.pri (get_or l.fn.all t 0)
