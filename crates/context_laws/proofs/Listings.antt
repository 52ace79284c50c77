-- The calls that list IDs do what a list is.
use Rattle.std.proofs.Common.{◌≡◌, ℕ, ◌+◌, ◌*◌, ◌<◌, ◌≤◌, Bool, true, List, ◌∷◌, ◌⊎◌, None, length, take, refl, sym, subst, ℤ, pos, arith, length-take}
use Rattle.std.specs.Prelude.{int_le, nat_le}
use Rattle.std.proofs.lemmas.Bool.Decides.{nat_tests}
use Rattle.tk_types.specs.declared.answer.Who.{Who}
use Rattle.tk_types.specs.declared.calls.HookCall.{HookCall}
use Rattle.tk_types.specs.declared.calls.HookCall.TheVariants as hook
use Rattle.kernel_model.specs.LawWords.Once.{AreBelow}
use Rattle.kernel_model.specs.Words.Checks.{Check, ◌otherwise◌, first_error, within}
use Rattle.tk_types.specs.declared.error_code.Er.TheVariants as er
use Rattle.kernel_model.specs.Bodies.Statements.{memory_size}
use Rattle.kernel_model.specs.Tasks.Base.{ready_of}
use Rattle.kernel_model.specs.Tasks.Queues.{queue_at}
use Rattle.object_model.specs.Mails.Calls.{is_inside}
use Rattle.context_model.specs.Hooks.Tables.{Hooks, Views}
use Rattle.kernel_model.specs.SemFlags.Tables.{sem_object, flag_object}
use Rattle.object_model.specs.Mutexes.Tables.{mutex_object, has_mutex}
use Rattle.object_model.specs.Mails.Tables.{box_object, senders_object, receivers_object, has_mbx, has_mbf}
use Rattle.object_model.specs.Pools.Tables.{fixed_object, variable_object, has_mpf, has_mpl}
use Rattle.context_model.specs.Clocks.Tables.{has_cyc, has_alm}
use Rattle.context_model.specs.Contexts.Tables.{has_ssy}
use Rattle.context_model.specs.Hooks.Lists.{existing, has_task, has_sem, has_flag, id_bytes}
use Rattle.context_model.specs.Hooks.Calls.{HookDone, hook_checked, hook_call, list_existing, list_queue, list_ready, listed, place_checks, queue_checks}
use Rattle.context_model.specs.Hooks.Readings.{AreListed}
use Rattle.context_laws.proofs.Existing.{existing_below}
use Rattle.context_laws.proofs.Lists.{below_take, bytes_length, other_bytes, same_size, written_ids}
use Rattle.context_laws.proofs.QueueLists.{queue_at_below, ready_below}
use Rattle.context_laws.proofs.Starts.{id_passes}

-- ---- what is written

fewer : (most : ℕ) (ids : List ℕ) → length (take most ids) ≤ most
fewer most ids = rw (length-take most ids) (omega arith)

pub listing : (hooks : Hooks) (memory ids : List ℕ) (address most : ℕ) → address + 4 * most ≤ length memory → AreBelow 4294967296 ids → AreListed ids hooks memory address most (listed hooks memory (pos address) (pos most) ids)
listing hooks memory ids address most inside below =
    let some : List ℕ = take most ids in
    let few : length some ≤ most = fewer most ids in
    let bytes : length (id_bytes some) ≡ 4 * length some = bytes_length some in
    record {
      answer = refl;
      written = written_ids memory address some (omega (arith, inside)) (below_take 4294967296 most ids below);
      others = λ place apart. other_bytes memory (id_bytes some) address place (omega (arith, inside)) (subst (λ (n : ℕ). (place < address) ⊎ (address + n ≤ place)) (sym bytes) apart);
      size = same_size memory (id_bytes some) address (omega (arith, inside, few, bytes));
      same_hooks = refl;
    }

-- ---- the checks

-- a call whose checks hold has its effect
works : (checks : List Check) (hooks : Hooks) (memory : List ℕ) (effect : HookDone) → first_error checks ≡ None → hook_checked checks hooks memory effect ≡ effect
works checks hooks memory effect none = rw none refl

from_zero : (n : ℕ) → int_le (pos 0) (pos n) ≡ true
from_zero n = grind (arith, nat_tests)

inside_passes : (address most : ℕ) → address + 4 * most ≤ 65536 → is_inside (pos address) (pos (4 * most)) ≡ true
inside_passes address most inside = let last : nat_le (address + 4 * most) memory_size ≡ true = grind (arith, nat_tests, inside) in rw (from_zero address, from_zero (4 * most), last) refl

place_passes : (address most : ℕ) → address + 4 * most ≤ 65536 → first_error (place_checks (pos address) (pos most)) ≡ None
place_passes address most inside = rw (from_zero most, inside_passes address most inside) refl

-- ---- the calls

pub existing_listed : (hooks : Hooks) (memory : List ℕ) (address most : ℕ) (exists : ℕ → Bool) (greatest : ℕ) → greatest ≤ 255 → length memory ≡ 65536 → address + 4 * most ≤ 65536 →
    AreListed (existing exists greatest) hooks memory address most (list_existing hooks memory (pos address) (pos most) (existing exists greatest))
unfolding list_existing
existing_listed hooks memory address most exists greatest few size inside =
    subst (λ (result : HookDone). AreListed (existing exists greatest) hooks memory address most result)
    (sym (works (place_checks (pos address) (pos most)) hooks memory (listed hooks memory (pos address) (pos most) (existing exists greatest)) (place_passes address most inside)))
    (listing hooks memory (existing exists greatest) address most (omega (arith, size, inside)) (existing_below exists greatest few))

pub queue_listed : (v : Views) (hooks : Hooks) (memory : List ℕ) (id address most : ℕ) (exists : ℕ → Bool) (object : ℕ → ℕ) → length v.base.tasks ≡ 256 → length memory ≡ 65536 → address + 4 * most ≤ 65536 → 1 ≤ id → id ≤ 64 → exists id ≡ true →
    AreListed (queue_at v.base (object id)) hooks memory address most (list_queue v hooks memory (pos id) (pos address) (pos most) exists object)
unfolding list_queue
queue_listed v hooks memory id address most exists object slots size inside least last is =
    subst (λ (result : HookDone). AreListed (queue_at v.base (object id)) hooks memory address most result)
    (sym (works (queue_checks (pos id) (pos address) (pos most) exists) hooks memory (listed hooks memory (pos address) (pos most) (queue_at v.base (object id))) passes))
    (listing hooks memory (queue_at v.base (object id)) address most (omega (arith, size, inside)) (queue_at_below v.base (object id) slots))
  where
    passes : first_error (queue_checks (pos id) (pos address) (pos most) exists) ≡ None
    passes = rw (id_passes 1 64 id least last, from_zero most, inside_passes address most inside, is) refl

pub ready_listed : (v : Views) (hooks : Hooks) (memory : List ℕ) (who : Who) (priority address most : ℕ) → length v.base.tasks ≡ 256 → length memory ≡ 65536 → address + 4 * most ≤ 65536 → 1 ≤ priority → priority ≤ 140 →
    AreListed (ready_of v.base priority) hooks memory address most (hook_call v hooks memory who (hook.RdyQue (pos priority) (pos address) (pos most)))
unfolding hook_call list_ready
ready_listed v hooks memory who priority address most slots size inside least last =
    subst (λ (result : HookDone). AreListed (ready_of v.base priority) hooks memory address most result)
    (sym (works ((within 1 140 (pos priority) otherwise er.Par) ∷ place_checks (pos address) (pos most)) hooks memory (listed hooks memory (pos address) (pos most) (ready_of v.base priority)) passes))
    (listing hooks memory (ready_of v.base priority) address most (omega (arith, size, inside)) (ready_below v.base priority slots))
  where
    passes : first_error ((within 1 140 (pos priority) otherwise er.Par) ∷ place_checks (pos address) (pos most)) ≡ None
    passes = rw (id_passes 1 140 priority least last, from_zero most, inside_passes address most inside) refl

-- ---- the lists of each kind

abbrev IsLists : Views → (ℕ → Bool) → ℕ → (ℤ → ℤ → HookCall) → Type 0
IsLists v exists greatest call = (hooks : Hooks) (memory : List ℕ) (who : Who) (address most : ℕ) → length memory ≡ 65536 → address + 4 * most ≤ 65536 →
    AreListed (existing exists greatest) hooks memory address most (hook_call v hooks memory who (call (pos address) (pos most)))

abbrev IsQueues : Views → (ℕ → Bool) → (ℕ → ℕ) → (ℤ → ℤ → ℤ → HookCall) → Type 0
IsQueues v exists object call = (hooks : Hooks) (memory : List ℕ) (who : Who) (id address most : ℕ) → length v.base.tasks ≡ 256 → length memory ≡ 65536 → address + 4 * most ≤ 65536 → 1 ≤ id → id ≤ 64 → exists id ≡ true →
    AreListed (queue_at v.base (object id)) hooks memory address most (hook_call v hooks memory who (call (pos id) (pos address) (pos most)))

pub lists_tasks : (v : Views) → IsLists v (has_task v.base) 255 (λ address most. hook.LstTsk address most)
unfolding hook_call
lists_tasks v = λ hooks memory who address most size inside. existing_listed hooks memory address most (has_task v.base) 255 (omega arith) size inside

pub lists_semaphores : (v : Views) → IsLists v (has_sem v.sem_flags) 64 (λ address most. hook.LstSem address most)
unfolding hook_call
lists_semaphores v = λ hooks memory who address most size inside. existing_listed hooks memory address most (has_sem v.sem_flags) 64 (omega arith) size inside

pub lists_flags : (v : Views) → IsLists v (has_flag v.sem_flags) 64 (λ address most. hook.LstFlg address most)
unfolding hook_call
lists_flags v = λ hooks memory who address most size inside. existing_listed hooks memory address most (has_flag v.sem_flags) 64 (omega arith) size inside

pub lists_mailboxes : (v : Views) → IsLists v (has_mbx v.mails) 64 (λ address most. hook.LstMbx address most)
unfolding hook_call
lists_mailboxes v = λ hooks memory who address most size inside. existing_listed hooks memory address most (has_mbx v.mails) 64 (omega arith) size inside

pub lists_mutexes : (v : Views) → IsLists v (has_mutex v.mutexes) 64 (λ address most. hook.LstMtx address most)
unfolding hook_call
lists_mutexes v = λ hooks memory who address most size inside. existing_listed hooks memory address most (has_mutex v.mutexes) 64 (omega arith) size inside

pub lists_buffers : (v : Views) → IsLists v (has_mbf v.mails) 64 (λ address most. hook.LstMbf address most)
unfolding hook_call
lists_buffers v = λ hooks memory who address most size inside. existing_listed hooks memory address most (has_mbf v.mails) 64 (omega arith) size inside

pub lists_fixed_pools : (v : Views) → IsLists v (has_mpf v.pools) 64 (λ address most. hook.LstMpf address most)
unfolding hook_call
lists_fixed_pools v = λ hooks memory who address most size inside. existing_listed hooks memory address most (has_mpf v.pools) 64 (omega arith) size inside

pub lists_variable_pools : (v : Views) → IsLists v (has_mpl v.pools) 64 (λ address most. hook.LstMpl address most)
unfolding hook_call
lists_variable_pools v = λ hooks memory who address most size inside. existing_listed hooks memory address most (has_mpl v.pools) 64 (omega arith) size inside

pub lists_cyclic_handlers : (v : Views) → IsLists v (has_cyc v.clocks) 64 (λ address most. hook.LstCyc address most)
unfolding hook_call
lists_cyclic_handlers v = λ hooks memory who address most size inside. existing_listed hooks memory address most (has_cyc v.clocks) 64 (omega arith) size inside

pub lists_alarm_handlers : (v : Views) → IsLists v (has_alm v.clocks) 64 (λ address most. hook.LstAlm address most)
unfolding hook_call
lists_alarm_handlers v = λ hooks memory who address most size inside. existing_listed hooks memory address most (has_alm v.clocks) 64 (omega arith) size inside

pub lists_subsystems : (v : Views) → IsLists v (has_ssy v.contexts) 255 (λ address most. hook.LstSsy address most)
unfolding hook_call
lists_subsystems v = λ hooks memory who address most size inside. existing_listed hooks memory address most (has_ssy v.contexts) 255 (omega arith) size inside

pub queues_semaphore : (v : Views) → IsQueues v (has_sem v.sem_flags) sem_object (λ id address most. hook.SemQue id address most)
unfolding hook_call
queues_semaphore v = λ hooks memory who id address most slots size inside least last is. queue_listed v hooks memory id address most (has_sem v.sem_flags) sem_object slots size inside least last is

pub queues_flag : (v : Views) → IsQueues v (has_flag v.sem_flags) flag_object (λ id address most. hook.FlgQue id address most)
unfolding hook_call
queues_flag v = λ hooks memory who id address most slots size inside least last is. queue_listed v hooks memory id address most (has_flag v.sem_flags) flag_object slots size inside least last is

pub queues_mailbox : (v : Views) → IsQueues v (has_mbx v.mails) box_object (λ id address most. hook.MbxQue id address most)
unfolding hook_call
queues_mailbox v = λ hooks memory who id address most slots size inside least last is. queue_listed v hooks memory id address most (has_mbx v.mails) box_object slots size inside least last is

pub queues_mutex : (v : Views) → IsQueues v (has_mutex v.mutexes) mutex_object (λ id address most. hook.MtxQue id address most)
unfolding hook_call
queues_mutex v = λ hooks memory who id address most slots size inside least last is. queue_listed v hooks memory id address most (has_mutex v.mutexes) mutex_object slots size inside least last is

pub queues_senders : (v : Views) → IsQueues v (has_mbf v.mails) senders_object (λ id address most. hook.SmbfQue id address most)
unfolding hook_call
queues_senders v = λ hooks memory who id address most slots size inside least last is. queue_listed v hooks memory id address most (has_mbf v.mails) senders_object slots size inside least last is

pub queues_receivers : (v : Views) → IsQueues v (has_mbf v.mails) receivers_object (λ id address most. hook.RmbfQue id address most)
unfolding hook_call
queues_receivers v = λ hooks memory who id address most slots size inside least last is. queue_listed v hooks memory id address most (has_mbf v.mails) receivers_object slots size inside least last is

pub queues_fixed_pool : (v : Views) → IsQueues v (has_mpf v.pools) fixed_object (λ id address most. hook.MpfQue id address most)
unfolding hook_call
queues_fixed_pool v = λ hooks memory who id address most slots size inside least last is. queue_listed v hooks memory id address most (has_mpf v.pools) fixed_object slots size inside least last is

pub queues_variable_pool : (v : Views) → IsQueues v (has_mpl v.pools) variable_object (λ id address most. hook.MplQue id address most)
unfolding hook_call
queues_variable_pool v = λ hooks memory who id address most slots size inside least last is. queue_listed v hooks memory id address most (has_mpl v.pools) variable_object slots size inside least last is
