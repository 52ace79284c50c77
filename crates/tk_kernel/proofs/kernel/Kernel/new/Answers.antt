use Rattle.step_lemmas.proofs.Starting.{started}
use Rattle.tk_kernel.proofs.kernel.Kernel.new.Goals as goal

pub returns : goal.returns
returns c =
    started c.args.script.now _ _ _ _ _ _ _ _ _ _ _ _ _ _ _ c.new-4.ensures.items c.new-5.ensures.items c.in_ok-devices.ensures c.in_ok-base.ensures c.in_ok-objects.ensures.sem_flags c.in_ok-objects.ensures.mutexes c.in_ok-stores.ensures.mails c.in_ok-stores.ensures.pools c.in_ok-objects.ensures.clocks
    c.in_ok-objects.ensures.contexts c.in_ok-tables.ensures.bodies c.in_ok-tables.ensures.frames c.in_ok-tables.ensures.saved c.in_ok-memory.ensures c.new-3.ensures
