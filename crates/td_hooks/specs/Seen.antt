-- What the calls look at: the base, and the tables beside it.
use Rattle.kernel_model.specs.Tasks.Base.{Base}
use Rattle.context_model.specs.Hooks.Tables.{Views}
use Rattle.td_hooks.specs.declared.views.Views.{Views as Tables}

abbrev pub seen : Base → Tables → Views
seen b v = record { base = b; sem_flags = v.sem_flags.now; mutexes = v.mutexes.now; mails = v.mails.now; pools = v.pools.now; clocks = v.clocks.now; contexts = v.contexts.now }
