-- A call that answers an error has changed nothing.
use Rattle.std.proofs.Common.{◌≡◌, ℕ, Bool, true, List, [], ◌∷◌, refl, ◌∙◌, ap, ℤ, pos, arith}
use Rattle.std.specs.Prelude.{nat_lt, int_le, length}
use Rattle.std.specs.Int.{is_negative}
use Rattle.std.proofs.lemmas.Bool.Decides.{nat_tests}
use Rattle.tk_types.specs.declared.answer.Answer.{Answer}
use Rattle.tk_types.specs.declared.answer.Who.{Who}
use Rattle.tk_types.specs.declared.answer.Outcome.{Outcome}
use Rattle.tk_types.specs.declared.answer.Outcome.TheVariants.{Returned, Entered}
use Rattle.tk_types.specs.declared.calls.TimeCall.{TimeCall}
use Rattle.tk_types.specs.declared.calls.TimeCall.TheVariants as time
use Rattle.tk_types.specs.declared.calls.ContextCall.{ContextCall}
use Rattle.tk_types.specs.declared.calls.ContextCall.TheVariants as context
use Rattle.tk_types.specs.declared.calls.HookCall.{HookCall}
use Rattle.tk_types.specs.declared.calls.HookCall.TheVariants as hook
use Rattle.tk_types.specs.declared.error_code.Er.TheVariants as er
use Rattle.kernel_model.specs.declared.marks.Mark.TheVariants.{NeedsTask}
use Rattle.kernel_model.specs.Words.Checks.{Check, ◌otherwise◌, within, natural, done}
use Rattle.kernel_model.specs.Tasks.Base.{Base, ready_of}
use Rattle.kernel_model.specs.Tasks.Marks.{allows}
use Rattle.kernel_model.specs.Tasks.Queues.{queue_at}
use Rattle.kernel_model.specs.SemFlags.Calls.{object_checks}
use Rattle.kernel_model.specs.SemFlags.Tables.{sem_object, flag_object}
use Rattle.object_model.specs.Mutexes.Tables.{mutex_object, has_mutex}
use Rattle.object_model.specs.Mails.Tables.{box_object, senders_object, receivers_object, has_mbx, has_mbf}
use Rattle.object_model.specs.Pools.Tables.{fixed_object, variable_object, has_mpf, has_mpl}
use Rattle.context_model.specs.Hooks.Lists.{existing, has_task, has_sem, has_flag}
use Rattle.context_model.specs.Clocks.Tables.{Clocks, has_cyc, has_alm}
use Rattle.context_model.specs.Clocks.Calls as Time
use Rattle.context_model.specs.Clocks.Calls.{TimeDone, time_checked, time_call, set_time, get_time, get_operating_time, create_cyclic, start_cyclic, stop_cyclic, delete_cyclic, refer_cyclic, create_alarm, start_alarm, stop_alarm, delete_alarm, refer_alarm}
use Rattle.context_model.specs.Contexts.Tables.{Contexts, has_ssy}
use Rattle.context_model.specs.Contexts.Calls.{ContextDone, context_checked, context_call, define_handler, disable_dispatch, enable_dispatch, disable_interrupts, enable_interrupts, refer_system, define_service, define_service_checks, refer_service, enter_service, service_checks}
use Rattle.context_model.specs.Hooks.Tables.{Hooks, Views}
use Rattle.context_model.specs.Hooks.Calls.{HookDone, hook_checked, hook_call, listed, place_checks, queue_checks, list_existing, list_ready, list_queue, set_hook}
use Rattle.context_laws.proofs.Checked.{time_cases, context_cases, hook_cases}

value_in : Outcome → ℤ
value_in (Returned answer) = answer.value
value_in _ = pos 0

-- a number from 0 on is no error
no_error : (n : ℕ) (answer : Answer) → done (pos n) ≡ Returned answer → is_negative answer.value ≡ true → ⊥
unfolding value_in
no_error n answer is error = let none : nat_lt n 0 ≡ true = ap (λ outcome. is_negative (value_in outcome)) is ∙ error in grind (arith, nat_tests, none)

-- ---- time

abbrev pub TimeKept : Base → Clocks → TimeDone → Type 0
TimeKept b c result = (answer : Answer) → result.outcome ≡ Returned answer → is_negative answer.value ≡ true → (result.base ≡ b) × (result.table ≡ c)

-- a call is refused, or it works and answers no error
time_works : (b now : Base) (c after : Clocks) (n : ℕ) (checks : List Check) → TimeKept b c (time_checked checks b c (record { base = now; table = after; outcome = done (pos n) }))
time_works b now c after n checks = time_cases (TimeKept b c) checks b c _ (λ code answer is error. (refl, refl)) (λ none answer is error. absurd (no_error n answer is error))

-- a call that changes nothing may answer what it likes
time_tells : (b : Base) (c : Clocks) (outcome : Outcome) (checks : List Check) → TimeKept b c (time_checked checks b c (record { base = b; table = c; outcome = outcome }))
time_tells b c outcome checks = time_cases (TimeKept b c) checks b c _ (λ code answer is error. (refl, refl)) (λ none answer is error. (refl, refl))

pub refused_time_call : (b : Base) (c : Clocks) (call : TimeCall) → TimeKept b c (time_call b c call)
unfolding time_call set_time get_time get_operating_time create_cyclic start_cyclic stop_cyclic delete_cyclic refer_cyclic create_alarm start_alarm stop_alarm delete_alarm refer_alarm
refused_time_call b c (time.SetTim high low) = time_works b b c _ 0 ((int_le (pos 0) high otherwise er.Par) ∷ [])
refused_time_call b c time.GetTim = λ answer is error. (refl, refl)
refused_time_call b c time.GetOtm = λ answer is error. (refl, refl)
refused_time_call b c (time.CreCyc attributes body period phase) = time_works b _ c _ (Time.free_cyclic c) (Time.create_cyclic_checks c attributes period phase)
refused_time_call b c (time.StaCyc id) = time_works b _ c c 0 (object_checks id (has_cyc c (natural id)) [])
refused_time_call b c (time.StpCyc id) = time_works b _ c c 0 (object_checks id (has_cyc c (natural id)) [])
refused_time_call b c (time.DelCyc id) = time_works b _ c _ 0 (object_checks id (has_cyc c (natural id)) [])
refused_time_call b c (time.RefCyc id) = time_tells b c _ (object_checks id (has_cyc c (natural id)) [])
refused_time_call b c (time.CreAlm attributes body) = time_works b b c _ (Time.free_alarm c) (Time.create_alarm_checks c attributes)
refused_time_call b c (time.StaAlm id delay) = time_works b _ c c 0 (Time.start_alarm_checks c id delay)
refused_time_call b c (time.StpAlm id) = time_works b _ c c 0 (object_checks id (has_alm c (natural id)) [])
refused_time_call b c (time.DelAlm id) = time_works b _ c _ 0 (object_checks id (has_alm c (natural id)) [])
refused_time_call b c (time.RefAlm id) = time_tells b c _ (object_checks id (has_alm c (natural id)) [])

-- ---- contexts

abbrev pub ContextKept : Base → Contexts → ContextDone → Type 0
ContextKept b c result = (answer : Answer) → result.outcome ≡ Returned answer → is_negative answer.value ≡ true → (result.base ≡ b) × (result.table ≡ c)

context_works : (b now : Base) (c after : Contexts) (checks : List Check) → ContextKept b c (context_checked checks b c (record { base = now; table = after; outcome = done (pos 0) }))
context_works b now c after checks = context_cases (ContextKept b c) checks b c _ (λ code answer is error. (refl, refl)) (λ none answer is error. absurd (no_error 0 answer is error))

-- a call that enters a service answers nothing yet
context_enters : (b : Base) (c after : Contexts) (body : ℕ) (checks : List Check) → ContextKept b c (context_checked checks b c (record { base = b; table = after; outcome = Entered body }))
context_enters b c after body checks = context_cases (ContextKept b c) checks b c _ (λ code answer is error. (refl, refl)) (λ none answer is error. absurd (cc is))

pub refused_context_call : (b : Base) (c : Contexts) (who : Who) (call : ContextCall) → ContextKept b c (context_call b c who call)
unfolding context_call define_handler disable_dispatch enable_dispatch disable_interrupts enable_interrupts refer_system define_service refer_service enter_service
refused_context_call b c who (context.DefInt number body) = context_works b b c _ ((within 1 255 number otherwise er.Par) ∷ [])
refused_context_call b c who context.DisDsp = context_works b _ c c ((allows b.flags who NeedsTask otherwise er.Ctx) ∷ [])
refused_context_call b c who context.EnaDsp = context_works b _ c c ((allows b.flags who NeedsTask otherwise er.Ctx) ∷ [])
refused_context_call b c who context.Di = context_works b _ c c ((allows b.flags who NeedsTask otherwise er.Ctx) ∷ [])
refused_context_call b c who context.Ei = context_works b _ c c ((allows b.flags who NeedsTask otherwise er.Ctx) ∷ [])
refused_context_call b c who context.RefSys = λ answer is error. (refl, refl)
refused_context_call b c who (context.DefSsy number body) = context_works b b c _ (define_service_checks c number body)
refused_context_call b c who (context.RefSsy number) = context_works b b c c ((within 1 255 number otherwise er.Id) ∷ (has_ssy c (natural number) otherwise er.NoExs) ∷ [])
refused_context_call b c who (context.Svc number value) = context_enters b c _ _ (service_checks b c who number value)

-- ---- lists, queues and hooks

abbrev pub HookKept : Hooks → List ℕ → HookDone → Type 0
HookKept hooks memory result = (answer : Answer) → result.outcome ≡ Returned answer → is_negative answer.value ≡ true → (result.hooks ≡ hooks) × (result.memory ≡ memory)

hook_works : (hooks now : Hooks) (memory after : List ℕ) (n : ℕ) (checks : List Check) → HookKept hooks memory (hook_checked checks hooks memory (record { hooks = now; memory = after; outcome = done (pos n) }))
hook_works hooks now memory after n checks = hook_cases (HookKept hooks memory) checks hooks memory _ (λ code answer is error. (refl, refl)) (λ none answer is error. absurd (no_error n answer is error))

-- IDs are listed, or nothing is
lists : (hooks : Hooks) (memory ids : List ℕ) (address most : ℤ) (checks : List Check) → HookKept hooks memory (hook_checked checks hooks memory (listed hooks memory address most ids))
lists hooks memory ids address most checks = hook_works hooks hooks memory (listed hooks memory address most ids).memory (length ids) checks

lists_existing : (hooks : Hooks) (memory ids : List ℕ) (address most : ℤ) → HookKept hooks memory (list_existing hooks memory address most ids)
unfolding list_existing
lists_existing hooks memory ids address most = lists hooks memory ids address most (place_checks address most)

lists_queue : (v : Views) (hooks : Hooks) (memory : List ℕ) (id address most : ℤ) (exists : ℕ → Bool) (object : ℕ → ℕ) → HookKept hooks memory (list_queue v hooks memory id address most exists object)
unfolding list_queue
lists_queue v hooks memory id address most exists object = lists hooks memory (queue_at v.base (object (natural id))) address most (queue_checks id address most exists)

sets_hook : (hooks now : Hooks) (memory : List ℕ) (value : ℤ) → HookKept hooks memory (set_hook hooks memory value now)
unfolding set_hook
sets_hook hooks now memory value = hook_works hooks now memory memory 0 ((within 0 1 value otherwise er.Par) ∷ [])

pub refused_hook_call : (v : Views) (hooks : Hooks) (memory : List ℕ) (who : Who) (call : HookCall) → HookKept hooks memory (hook_call v hooks memory who call)
unfolding hook_call list_ready
refused_hook_call v hooks memory who (hook.LstTsk address most) = lists_existing hooks memory (existing (has_task v.base) 255) address most
refused_hook_call v hooks memory who (hook.LstSem address most) = lists_existing hooks memory (existing (has_sem v.sem_flags) 64) address most
refused_hook_call v hooks memory who (hook.LstFlg address most) = lists_existing hooks memory (existing (has_flag v.sem_flags) 64) address most
refused_hook_call v hooks memory who (hook.LstMbx address most) = lists_existing hooks memory (existing (has_mbx v.mails) 64) address most
refused_hook_call v hooks memory who (hook.LstMtx address most) = lists_existing hooks memory (existing (has_mutex v.mutexes) 64) address most
refused_hook_call v hooks memory who (hook.LstMbf address most) = lists_existing hooks memory (existing (has_mbf v.mails) 64) address most
refused_hook_call v hooks memory who (hook.LstMpf address most) = lists_existing hooks memory (existing (has_mpf v.pools) 64) address most
refused_hook_call v hooks memory who (hook.LstMpl address most) = lists_existing hooks memory (existing (has_mpl v.pools) 64) address most
refused_hook_call v hooks memory who (hook.LstCyc address most) = lists_existing hooks memory (existing (has_cyc v.clocks) 64) address most
refused_hook_call v hooks memory who (hook.LstAlm address most) = lists_existing hooks memory (existing (has_alm v.clocks) 64) address most
refused_hook_call v hooks memory who (hook.LstSsy address most) = lists_existing hooks memory (existing (has_ssy v.contexts) 255) address most
refused_hook_call v hooks memory who (hook.RdyQue priority address most) = lists hooks memory (ready_of v.base (natural priority)) address most ((within 1 140 priority otherwise er.Par) ∷ place_checks address most)
refused_hook_call v hooks memory who (hook.SemQue id address most) = lists_queue v hooks memory id address most (has_sem v.sem_flags) sem_object
refused_hook_call v hooks memory who (hook.FlgQue id address most) = lists_queue v hooks memory id address most (has_flag v.sem_flags) flag_object
refused_hook_call v hooks memory who (hook.MbxQue id address most) = lists_queue v hooks memory id address most (has_mbx v.mails) box_object
refused_hook_call v hooks memory who (hook.MtxQue id address most) = lists_queue v hooks memory id address most (has_mutex v.mutexes) mutex_object
refused_hook_call v hooks memory who (hook.SmbfQue id address most) = lists_queue v hooks memory id address most (has_mbf v.mails) senders_object
refused_hook_call v hooks memory who (hook.RmbfQue id address most) = lists_queue v hooks memory id address most (has_mbf v.mails) receivers_object
refused_hook_call v hooks memory who (hook.MpfQue id address most) = lists_queue v hooks memory id address most (has_mpf v.pools) fixed_object
refused_hook_call v hooks memory who (hook.MplQue id address most) = lists_queue v hooks memory id address most (has_mpl v.pools) variable_object
refused_hook_call v hooks memory who (hook.HokSvc value) = sets_hook hooks _ memory value
refused_hook_call v hooks memory who (hook.HokDsp value) = sets_hook hooks _ memory value
refused_hook_call v hooks memory who (hook.HokInt value) = sets_hook hooks _ memory value
