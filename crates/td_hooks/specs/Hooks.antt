-- Which hook a call is about.
use Rattle.std.specs.Prelude.{Bool}
use Rattle.context_model.specs.Hooks.Tables.{Hooks}
use Rattle.td_hooks.specs.declared.hooks.Hook.{Hook}
use Rattle.td_hooks.specs.declared.hooks.Hook.TheVariants.{Calls, Dispatches, Handlers}

-- the hooks with one of them set or not
abbrev pub with_hook : Hooks → Hook → Bool → Hooks
with_hook set Calls is_set = record set { svc = is_set }
with_hook set Dispatches is_set = record set { dsp = is_set }
with_hook set Handlers is_set = record set { int = is_set }
