-- The system calls on interrupts, on what delays dispatching, and on subsystems: the checks of each in their order, and its
-- effect.
use Rattle.std.specs.Prelude.{ℕ, ◌==◌, true, false, not, ◌||◌, nat_lt, if◌then◌else◌, ℤ, pos, int_le, List, [], ◌∷◌, Option, Some, None, unwrap_or}
use Rattle.tk_types.specs.declared.answer.Who.{Who}
use Rattle.tk_types.specs.declared.answer.Outcome.{Outcome}
use Rattle.tk_types.specs.declared.answer.Outcome.TheVariants.{Returned, Entered}
use Rattle.tk_types.specs.declared.error_code.Er.{Er}
use Rattle.tk_types.specs.declared.error_code.Er.TheVariants as er
use Rattle.tk_types.specs.declared.task.Flags.{Flags}
use Rattle.tk_types.specs.declared.calls.ContextCall.{ContextCall}
use Rattle.tk_types.specs.declared.calls.ContextCall.TheVariants as call
use Rattle.kernel_model.specs.declared.marks.Mark.TheVariants.{NeedsTask}
use Rattle.kernel_model.specs.Words.Checks.{Check, ◌otherwise◌, first_error, within, natural, answer, failed, done}
use Rattle.kernel_model.specs.Tasks.Base.{Base, chosen, set_flags}
use Rattle.kernel_model.specs.Tasks.Marks.{allows}
use Rattle.kernel_model.specs.Tasks.Calls.{caller}
use Rattle.context_model.specs.Contexts.Tables.{Contexts, most_nestings, with_handler, service_of, with_service, has_ssy, depth_in, deeper}

-- a base and the table, and what became of the call
pub record ContextDone : Type 0 where
  pub base : Base
  pub table : Contexts
  pub outcome : Outcome

abbrev pub context_refused : Option Er → Base → Contexts → ContextDone → ContextDone
context_refused (Some error) b c effect = record { base = b; table = c; outcome = failed error }
context_refused None b c effect = effect

-- a call is refused with the first error of its checks, and nothing is changed then; else it has its effect
abbrev pub context_checked : List Check → Base → Contexts → ContextDone → ContextDone
context_checked checks b c effect = context_refused (first_error checks) b c effect

-- a call that has done its work and answers 0
abbrev pub acted : Base → Contexts → ContextDone
acted b c = record { base = b; table = c; outcome = done (pos 0) }

-- ---- interrupts

-- `tk_def_int`: a handler is defined for an interrupt in place of the one that it has, or with body 0 undefined
unfoldable pub define_handler : Base → Contexts → ℤ → ℕ → ContextDone
define_handler b c number body = context_checked ((within 1 255 number otherwise er.Par) ∷ []) b c (acted b (with_handler c (natural number) body))

-- ---- what delays dispatching

-- a task changes what delays dispatching; a handler may not
abbrev pub flags_changed : Base → Contexts → Who → Flags → ContextDone
flags_changed b c who flags = context_checked ((allows b.flags who NeedsTask otherwise er.Ctx) ∷ []) b c (acted (set_flags b flags) c)

-- `tk_dis_dsp` and `tk_ena_dsp`: dispatching is disabled or enabled
unfoldable pub disable_dispatch : Base → Contexts → Who → ContextDone
disable_dispatch b c who = flags_changed b c who (record b.flags { dispatch_off = true })

unfoldable pub enable_dispatch : Base → Contexts → Who → ContextDone
enable_dispatch b c who = flags_changed b c who (record b.flags { dispatch_off = false })

-- `DI` and `EI`: interrupts are disabled or enabled, and dispatching with them
unfoldable pub disable_interrupts : Base → Contexts → Who → ContextDone
disable_interrupts b c who = flags_changed b c who (record b.flags { di = true })

unfoldable pub enable_interrupts : Base → Contexts → Who → ContextDone
enable_interrupts b c who = flags_changed b c who (record b.flags { di = false })

-- 3 while a handler runs, else 2 while interrupts are disabled, else 1 while dispatching is, else 0
abbrev pub context_number : Flags → ℕ
context_number flags = if flags.handler then 3 else (if flags.di then 2 else (if flags.dispatch_off then 1 else 0))

-- `tk_ref_sys`: the context, the current task or 0, and the task that dispatching would choose or 0
unfoldable pub refer_system : Base → Contexts → ContextDone
refer_system b c = record { base = b; table = c; outcome = Returned (answer (pos 0) (pos (context_number b.flags) ∷ pos (unwrap_or b.cur 0) ∷ pos (chosen b) ∷ [])) }

-- ---- subsystems

-- a subsystem that is to be undefined is defined, and one that is to be defined isn't
abbrev pub define_service_checks : Contexts → ℤ → ℕ → List Check
define_service_checks c number body =
    (within 1 255 number otherwise er.Id)
    ∷ (not (body == 0) || has_ssy c (natural number) otherwise er.NoExs)
    ∷ (body == 0 || not (has_ssy c (natural number)) otherwise er.Obj)
    ∷ []

-- `tk_def_ssy`: a subsystem is defined, or with body 0 undefined
unfoldable pub define_service : Base → Contexts → ℤ → ℕ → ContextDone
define_service b c number body = context_checked (define_service_checks c number body) b c (acted b (with_service c (natural number) body))

-- `tk_ref_ssy`: whether a subsystem is defined
unfoldable pub refer_service : Base → Contexts → ℤ → ContextDone
refer_service b c number = context_checked ((within 1 255 number otherwise er.Id) ∷ (has_ssy c (natural number) otherwise er.NoExs) ∷ []) b c (acted b c)

abbrev pub service_checks : Base → Contexts → Who → ℤ → ℤ → List Check
service_checks b c who number value =
    (int_le (pos 0) number otherwise er.Par)
    ∷ (int_le (pos 0) value otherwise er.Par)
    ∷ (allows b.flags who NeedsTask otherwise er.Ctx)
    ∷ (has_ssy c (natural number) otherwise er.RsFn)
    ∷ (nat_lt (depth_in c (caller who)) most_nestings otherwise er.Limit)
    ∷ []

-- `svc`: the caller enters the service of a subsystem
unfoldable pub enter_service : Base → Contexts → Who → ℤ → ℤ → ContextDone
enter_service b c who number value = context_checked (service_checks b c who number value) b c
    (record { base = b; table = deeper c (caller who); outcome = Entered (service_of c (natural number)) })

-- a call on contexts by its row
unfoldable pub context_call : Base → Contexts → Who → ContextCall → ContextDone
context_call b c who (call.DefInt number body) = define_handler b c number body
context_call b c who call.DisDsp = disable_dispatch b c who
context_call b c who call.EnaDsp = enable_dispatch b c who
context_call b c who call.Di = disable_interrupts b c who
context_call b c who call.Ei = enable_interrupts b c who
context_call b c who call.RefSys = refer_system b c
context_call b c who (call.DefSsy number body) = define_service b c number body
context_call b c who (call.RefSsy number) = refer_service b c number
context_call b c who (call.Svc number value) = enter_service b c who number value
