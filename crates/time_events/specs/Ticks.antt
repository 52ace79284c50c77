-- What is set again at a tick.
use Rattle.std.specs.Prelude.{Option, Some, None}
use Rattle.tk_types.specs.declared.task.Event.{Event}
use Rattle.kernel_model.specs.Tasks.Base.{Base}
use Rattle.context_model.specs.Clocks.Tables.{Clocks, again}

-- the base where an event fell due, or where none did
abbrev pub again_if : Base → Clocks → Option Event → Base
again_if b c None = b
again_if b c (Some what) = again b c what
