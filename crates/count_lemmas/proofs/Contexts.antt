-- The calls on interrupts, on what delays dispatching, and on subsystems make no event.
use Rattle.std.proofs.Common.{true, false, List, [], ◌∷◌, Option, Some, None}
use Rattle.tk_types.specs.declared.answer.Who.{Who}
use Rattle.tk_types.specs.declared.calls.ContextCall.{ContextCall}
use Rattle.tk_types.specs.declared.calls.ContextCall.TheVariants as call
use Rattle.tk_types.specs.declared.error_code.Er.{Er}
use Rattle.tk_types.specs.declared.error_code.Er.TheVariants as er
use Rattle.tk_types.specs.declared.task.Flags.{Flags}
use Rattle.kernel_model.specs.declared.marks.Mark.TheVariants.{NeedsTask}
use Rattle.kernel_model.specs.Words.Checks.{Check, ◌otherwise◌, first_error, natural, within}
use Rattle.kernel_model.specs.Tasks.Base.{Base}
use Rattle.kernel_model.specs.Tasks.Marks.{allows}
use Rattle.context_model.specs.Contexts.Tables.{Contexts, has_ssy}
use Rattle.context_model.specs.Contexts.Calls as calls
use Rattle.context_model.specs.Contexts.Calls.{ContextDone, context_call, context_checked, context_refused, flags_changed}
use Rattle.count_lemmas.proofs.Making.{IsMaking, IsQuiet}

refused_quiet : (P : Base → Type 0) (error : Option Er) (b : Base) (c : Contexts) (effect : ContextDone) → P b → P effect.base → P (context_refused error b c effect).base
refused_quiet P (Some error) b c effect has works = has
refused_quiet P None b c effect has works = works

-- a call is refused and leaves the base, or has its effect
checked_quiet : (P : Base → Type 0) (checks : List Check) (b : Base) (c : Contexts) (effect : ContextDone) → P b → P effect.base → P (context_checked checks b c effect).base
checked_quiet P checks b c effect has works = refused_quiet P (first_error checks) b c effect has works

flags_quiet : (P : Base → Type 0) → IsQuiet P → (b : Base) (c : Contexts) (who : Who) (flags : Flags) → P b → P (flags_changed b c who flags).base
flags_quiet P is b c who flags has = checked_quiet P ((allows b.flags who NeedsTask otherwise er.Ctx) ∷ []) b c _ has (is.flagged b flags has)

pub context_calls_make : (P Q : Base → Type 0) → IsMaking P Q → (b : Base) (c : Contexts) (who : Who) (row : ContextCall) → P b → Q (context_call b c who row).base
unfolding context_call calls.define_handler calls.disable_dispatch calls.enable_dispatch calls.disable_interrupts calls.enable_interrupts calls.refer_system calls.define_service calls.refer_service calls.enter_service
context_calls_make P Q is b c who (call.DefInt number body) has = is.more _ (checked_quiet P ((within 1 255 number otherwise er.Par) ∷ []) b c _ has has)
context_calls_make P Q is b c who call.DisDsp has = is.more _ (flags_quiet P is.quiet b c who (record b.flags { dispatch_off = true }) has)
context_calls_make P Q is b c who call.EnaDsp has = is.more _ (flags_quiet P is.quiet b c who (record b.flags { dispatch_off = false }) has)
context_calls_make P Q is b c who call.Di has = is.more _ (flags_quiet P is.quiet b c who (record b.flags { di = true }) has)
context_calls_make P Q is b c who call.Ei has = is.more _ (flags_quiet P is.quiet b c who (record b.flags { di = false }) has)
context_calls_make P Q is b c who call.RefSys has = is.more _ has
context_calls_make P Q is b c who (call.DefSsy number body) has = is.more _ (checked_quiet P (calls.define_service_checks c number body) b c _ has has)
context_calls_make P Q is b c who (call.RefSsy number) has = is.more _ (checked_quiet P ((within 1 255 number otherwise er.Id) ∷ (has_ssy c (natural number) otherwise er.NoExs) ∷ []) b c _ has has)
context_calls_make P Q is b c who (call.Svc number value) has = is.more _ (checked_quiet P (calls.service_checks b c who number value) b c _ has has)
