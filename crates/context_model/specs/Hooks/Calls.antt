-- The calls of a debugger: those that list objects and queues, and those that set hooks. The checks of each stand in their
-- order. Anybody may make them, and they change nothing but the script's memory or the hooks.
use Rattle.std.specs.Prelude.{ℕ, ◌*◌, ◌==◌, Bool, ℤ, pos, int_le, List, [], ◌∷◌, ◌++◌, length, Option, Some, None}
use Rattle.tk_types.specs.declared.answer.Who.{Who}
use Rattle.tk_types.specs.declared.answer.Outcome.{Outcome}
use Rattle.tk_types.specs.declared.error_code.Er.{Er}
use Rattle.tk_types.specs.declared.error_code.Er.TheVariants as er
use Rattle.tk_types.specs.declared.calls.HookCall.{HookCall}
use Rattle.tk_types.specs.declared.calls.HookCall.TheVariants as call
use Rattle.kernel_model.specs.Words.Checks.{Check, ◌otherwise◌, first_error, within, natural, failed, done}
use Rattle.kernel_model.specs.Tasks.Base.{ready_of}
use Rattle.kernel_model.specs.Tasks.Queues.{queue_at}
use Rattle.kernel_model.specs.SemFlags.Tables.{sem_object, flag_object}
use Rattle.object_model.specs.Mutexes.Tables.{mutex_object, has_mutex}
use Rattle.object_model.specs.Mails.Tables.{box_object, senders_object, receivers_object, has_mbx, has_mbf}
use Rattle.object_model.specs.Mails.Calls.{is_inside}
use Rattle.object_model.specs.Pools.Tables.{fixed_object, variable_object, has_mpf, has_mpl}
use Rattle.context_model.specs.Clocks.Tables.{has_cyc, has_alm}
use Rattle.context_model.specs.Contexts.Tables.{has_ssy}
use Rattle.context_model.specs.Hooks.Tables.{Hooks, Views}
use Rattle.context_model.specs.Hooks.Lists.{existing, has_task, has_sem, has_flag, with_ids}

-- the hooks and the script's memory, and what became of the call
pub record HookDone : Type 0 where
  pub hooks : Hooks
  pub memory : List ℕ
  pub outcome : Outcome

abbrev pub hook_refused : Option Er → Hooks → List ℕ → HookDone → HookDone
hook_refused (Some error) hooks memory effect = record { hooks = hooks; memory = memory; outcome = failed error }
hook_refused None hooks memory effect = effect

-- a call is refused with the first error of its checks, and nothing is changed then; else it has its effect
abbrev pub hook_checked : List Check → Hooks → List ℕ → HookDone → HookDone
hook_checked checks hooks memory effect = hook_refused (first_error checks) hooks memory effect

-- ---- lists and queues

-- a list of so many IDs has its place in the script's memory
abbrev pub place_checks : ℤ → ℤ → List Check
place_checks address most =
    (int_le (pos 0) most otherwise er.Par)
    ∷ (is_inside address (pos (4 * natural most)) otherwise er.Par)
    ∷ []

-- IDs are written as far as their place goes, and the answer is how many there are
abbrev pub listed : Hooks → List ℕ → ℤ → ℤ → List ℕ → HookDone
listed hooks memory address most ids = record { hooks = hooks; memory = with_ids memory (natural address) (natural most) ids; outcome = done (pos (length ids)) }

-- `td_lst_tsk` and the calls like it: the IDs that exist
unfoldable pub list_existing : Hooks → List ℕ → ℤ → ℤ → List ℕ → HookDone
list_existing hooks memory address most ids = hook_checked (place_checks address most) hooks memory (listed hooks memory address most ids)

-- `td_rdy_que`: the ready tasks of a priority, the one of the highest precedence first
unfoldable pub list_ready : Views → Hooks → List ℕ → ℤ → ℤ → ℤ → HookDone
list_ready v hooks memory priority address most =
    hook_checked ((within 1 140 priority otherwise er.Par) ∷ place_checks address most) hooks memory
    (listed hooks memory address most (ready_of v.base (natural priority)))

abbrev pub queue_checks : ℤ → ℤ → ℤ → (ℕ → Bool) → List Check
queue_checks id address most exists =
    (within 1 64 id otherwise er.Id)
    ∷ place_checks address most
    ++ (exists (natural id) otherwise er.NoExs)
    ∷ []

-- `td_sem_que` and the calls like it: the tasks that wait for an object, in the order of its queue
unfoldable pub list_queue : Views → Hooks → List ℕ → ℤ → ℤ → ℤ → (ℕ → Bool) → (ℕ → ℕ) → HookDone
list_queue v hooks memory id address most exists object =
    hook_checked (queue_checks id address most exists) hooks memory
    (listed hooks memory address most (queue_at v.base (object (natural id))))

-- ---- hooks

-- a call that sets a hook or takes it off
unfoldable pub set_hook : Hooks → List ℕ → ℤ → Hooks → HookDone
set_hook hooks memory value changed =
    hook_checked ((within 0 1 value otherwise er.Par) ∷ []) hooks memory (record { hooks = changed; memory = memory; outcome = done (pos 0) })

-- whether a number sets a hook
abbrev pub sets : ℤ → Bool
sets value = natural value == 1

-- a call on lists, queues or hooks by its row
unfoldable pub hook_call : Views → Hooks → List ℕ → Who → HookCall → HookDone
hook_call v hooks memory who (call.LstTsk address most) = list_existing hooks memory address most (existing (has_task v.base) 255)
hook_call v hooks memory who (call.LstSem address most) = list_existing hooks memory address most (existing (has_sem v.sem_flags) 64)
hook_call v hooks memory who (call.LstFlg address most) = list_existing hooks memory address most (existing (has_flag v.sem_flags) 64)
hook_call v hooks memory who (call.LstMbx address most) = list_existing hooks memory address most (existing (has_mbx v.mails) 64)
hook_call v hooks memory who (call.LstMtx address most) = list_existing hooks memory address most (existing (has_mutex v.mutexes) 64)
hook_call v hooks memory who (call.LstMbf address most) = list_existing hooks memory address most (existing (has_mbf v.mails) 64)
hook_call v hooks memory who (call.LstMpf address most) = list_existing hooks memory address most (existing (has_mpf v.pools) 64)
hook_call v hooks memory who (call.LstMpl address most) = list_existing hooks memory address most (existing (has_mpl v.pools) 64)
hook_call v hooks memory who (call.LstCyc address most) = list_existing hooks memory address most (existing (has_cyc v.clocks) 64)
hook_call v hooks memory who (call.LstAlm address most) = list_existing hooks memory address most (existing (has_alm v.clocks) 64)
hook_call v hooks memory who (call.LstSsy address most) = list_existing hooks memory address most (existing (has_ssy v.contexts) 255)
hook_call v hooks memory who (call.RdyQue priority address most) = list_ready v hooks memory priority address most
hook_call v hooks memory who (call.SemQue id address most) = list_queue v hooks memory id address most (has_sem v.sem_flags) sem_object
hook_call v hooks memory who (call.FlgQue id address most) = list_queue v hooks memory id address most (has_flag v.sem_flags) flag_object
hook_call v hooks memory who (call.MbxQue id address most) = list_queue v hooks memory id address most (has_mbx v.mails) box_object
hook_call v hooks memory who (call.MtxQue id address most) = list_queue v hooks memory id address most (has_mutex v.mutexes) mutex_object
hook_call v hooks memory who (call.SmbfQue id address most) = list_queue v hooks memory id address most (has_mbf v.mails) senders_object
hook_call v hooks memory who (call.RmbfQue id address most) = list_queue v hooks memory id address most (has_mbf v.mails) receivers_object
hook_call v hooks memory who (call.MpfQue id address most) = list_queue v hooks memory id address most (has_mpf v.pools) fixed_object
hook_call v hooks memory who (call.MplQue id address most) = list_queue v hooks memory id address most (has_mpl v.pools) variable_object
hook_call v hooks memory who (call.HokSvc value) = set_hook hooks memory value (record hooks { svc = sets value })
hook_call v hooks memory who (call.HokDsp value) = set_hook hooks memory value (record hooks { dsp = sets value })
hook_call v hooks memory who (call.HokInt value) = set_hook hooks memory value (record hooks { int = sets value })
