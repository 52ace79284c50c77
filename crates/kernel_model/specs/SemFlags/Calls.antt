-- The system calls on semaphores and event flags: the checks of each in their order, and its effect up to the first
-- settling.
use Rattle.std.specs.Prelude.{ℕ, zero, suc, length, ◌+◌, ◌==◌, Bool, true, false, not, ◌&&◌, ◌||◌, nat_le, nat_lt, if◌then◌else◌, ℤ, pos, negsuc, int_le, List, [], ◌∷◌, Option, Some, None, drop, slice_set, bit_and, bit_or}
use Rattle.std.specs.Option.{is_some}
use Rattle.std.specs.Ordering.{int_eq}
use Rattle.std.specs.Int.{w32, cast_unsigned, cast_signed}
use Rattle.tk_types.specs.declared.task.Order.{Order}
use Rattle.tk_types.specs.declared.task.Order.TheVariants.{Fifo, Priority}
use Rattle.tk_types.specs.declared.answer.Who.{Who}
use Rattle.tk_types.specs.declared.answer.Outcome.{Outcome}
use Rattle.tk_types.specs.declared.answer.Outcome.TheVariants.{Returned, Blocked}
use Rattle.tk_types.specs.declared.error_code.Er.{Er}
use Rattle.tk_types.specs.declared.error_code.Er.TheVariants as er
use Rattle.tk_types.specs.declared.modes.Attributes.{Attributes}
use Rattle.tk_types.specs.declared.modes.FlagMode.{FlagMode}
use Rattle.tk_types.specs.declared.calls.SemFlagCall.{SemFlagCall}
use Rattle.tk_types.specs.declared.calls.SemFlagCall.TheVariants as call
use Rattle.tk_types.specs.Codes.{code_of}
use Rattle.kernel_model.specs.declared.marks.Mark.TheVariants.{MayWait}
use Rattle.kernel_model.specs.declared.objects.Semaphore.{Semaphore}
use Rattle.kernel_model.specs.declared.objects.EventFlag.{EventFlag}
use Rattle.kernel_model.specs.declared.objects.FlagWish.{FlagWish}
use Rattle.kernel_model.specs.Words.Orders.{free_from, head_or_zero}
use Rattle.kernel_model.specs.Words.Checks.{Check, ◌otherwise◌, first_error, within, natural, answer, plain, failed, done}
use Rattle.kernel_model.specs.Tasks.Base.{Base, current, make_wait, queue, release}
use Rattle.kernel_model.specs.Tasks.Marks.{allows}
use Rattle.kernel_model.specs.Tasks.Calls.{caller}
use Rattle.kernel_model.specs.SemFlags.Tables.{SemFlags, sem_at, flag_at, sem_object, flag_object, with_sem, with_flag, sem_waiters, flag_waiters, taken_from_sem, cleared_flag, has_bits, flag_answer}

-- a base and the tables, and what became of the call
pub record SemFlagDone : Type 0 where
  pub base : Base
  pub table : SemFlags
  pub outcome : Outcome

abbrev pub refused_with : Option Er → Base → SemFlags → SemFlagDone → SemFlagDone
refused_with (Some error) b s effect = record { base = b; table = s; outcome = failed error }
refused_with None b s effect = effect

-- a call is refused with the first error of its checks, and nothing is changed then; else it has its effect
abbrev pub sem_flag_checked : List Check → Base → SemFlags → SemFlagDone → SemFlagDone
sem_flag_checked checks b s effect = refused_with (first_error checks) b s effect

-- a call that changes the tables alone and answers a value
abbrev pub tables_changed : Base → SemFlags → ℤ → SemFlagDone
tables_changed b s value = record { base = b; table = s; outcome = done value }

-- ---- attributes

-- not both of a group
abbrev pub not_both : Bool → Bool → Bool
not_both first second = not (first && second)

-- beside those without an effect a semaphore has its order, and who is served
abbrev pub has_sem_attributes : Attributes → Bool
has_sem_attributes a =
    not (a.ta_wsgl || a.ta_wmul || a.ta_mfifo || a.ta_mpri || a.ta_inherit || a.ta_ceiling || a.ta_sta || a.ta_phs)
    && (not_both a.ta_tfifo a.ta_tpri && not_both a.ta_first a.ta_cnt)

-- and a flag its order, and whether more than one may wait
abbrev pub has_flag_attributes : Attributes → Bool
has_flag_attributes a =
    not (a.ta_first || a.ta_cnt || a.ta_mfifo || a.ta_mpri || a.ta_inherit || a.ta_ceiling || a.ta_sta || a.ta_phs)
    && (not_both a.ta_tfifo a.ta_tpri && not_both a.ta_wsgl a.ta_wmul)

-- the first of a group is the default
abbrev pub order_of : Attributes → Order
order_of a = if a.ta_tpri then Priority else Fifo

-- ---- making and deleting

abbrev pub free_sem : SemFlags → ℕ
free_sem s = free_from 1 (drop 1 s.sems)

abbrev pub free_flag : SemFlags → ℕ
free_flag s = free_from 1 (drop 1 s.flags)

abbrev pub create_sem_checks : SemFlags → Attributes → ℤ → ℤ → List Check
create_sem_checks s attributes count most =
    (has_sem_attributes attributes otherwise er.RsAtr)
    ∷ (within 1 65535 most otherwise er.Par)
    ∷ (int_le (pos 0) count && int_le count most otherwise er.Par)
    ∷ (not (free_sem s == 0) otherwise er.Limit)
    ∷ []

-- `tk_cre_sem`: a semaphore with the least free ID
unfoldable pub create_sem : Base → SemFlags → Attributes → ℤ → ℤ → SemFlagDone
create_sem b s attributes count most = sem_flag_checked (create_sem_checks s attributes count most) b s
    (tables_changed b (with_sem s (free_sem s) (Some (record { order = order_of attributes; any_place = attributes.ta_cnt; count = natural count; most = natural most }))) (pos (free_sem s)))

abbrev pub create_flag_checks : SemFlags → Attributes → List Check
create_flag_checks s attributes =
    (has_flag_attributes attributes otherwise er.RsAtr)
    ∷ (not (free_flag s == 0) otherwise er.Limit)
    ∷ []

-- `tk_cre_flg`: an event flag with the least free ID
unfoldable pub create_flag : Base → SemFlags → Attributes → ℤ → SemFlagDone
create_flag b s attributes pattern = sem_flag_checked (create_flag_checks s attributes) b s
    (tables_changed b (with_flag s (free_flag s) (Some (record { order = order_of attributes; many = attributes.ta_wmul; pattern = cast_unsigned w32 pattern }))) (pos (free_flag s)))

-- checks of a call on an object that exists
abbrev pub object_checks : ℤ → Bool → List Check → List Check
object_checks id exists rest = (within 1 64 id otherwise er.Id) ∷ (exists otherwise er.NoExs) ∷ rest

abbrev pub has_sem : SemFlags → ℤ → Bool
has_sem s id = is_some (sem_at s (natural id))

abbrev pub has_flag : SemFlags → ℤ → Bool
has_flag s id = is_some (flag_at s (natural id))

-- the wait of the first of these ends with E_DLT
abbrev pub first_ended : List ℕ → Base → Base
first_ended [] b = b
first_ended (t ∷ rest) b = release b t (plain (code_of er.Dlt))

-- the first of a queue ends its wait, so many times
unfoldable pub end_first : ℕ → Order → ℕ → Base → Base
end_first zero order object b = b
end_first (suc left) order object b = end_first left order object (first_ended (queue order b object) b)

-- all waits for an object end with E_DLT, in the order of its queue
abbrev pub end_waits : Order → ℕ → Base → Base
end_waits order object b = end_first (length (queue order b object)) order object b

abbrev pub sem_waits_ended : Base → ℕ → Option Semaphore → Base
sem_waits_ended b id None = b
sem_waits_ended b id (Some k) = end_waits k.order (sem_object id) b

abbrev pub flag_waits_ended : Base → ℕ → Option EventFlag → Base
flag_waits_ended b id None = b
flag_waits_ended b id (Some k) = end_waits k.order (flag_object id) b

-- `tk_del_sem` and `tk_del_flg`: the object is gone, and its waiters' waits end in queue order
unfoldable pub delete_sem : Base → SemFlags → ℤ → SemFlagDone
delete_sem b s id = sem_flag_checked (object_checks id (has_sem s id) []) b s
    (record { base = sem_waits_ended b (natural id) (sem_at s (natural id)); table = with_sem s (natural id) None; outcome = done (pos 0) })

unfoldable pub delete_flag : Base → SemFlags → ℤ → SemFlagDone
delete_flag b s id = sem_flag_checked (object_checks id (has_flag s id) []) b s
    (record { base = flag_waits_ended b (natural id) (flag_at s (natural id)); table = with_flag s (natural id) None; outcome = done (pos 0) })

-- ---- asking

abbrev pub sem_shown : Base → ℕ → Option Semaphore → Outcome
sem_shown b id None = failed er.NoExs
sem_shown b id (Some k) = Returned (answer (pos 0) (pos k.count ∷ pos (head_or_zero (sem_waiters b k id)) ∷ []))

-- `tk_ref_sem`: the count, and the first waiter or 0
unfoldable pub refer_sem : Base → SemFlags → ℤ → SemFlagDone
refer_sem b s id = sem_flag_checked (object_checks id (has_sem s id) []) b s (record { base = b; table = s; outcome = sem_shown b (natural id) (sem_at s (natural id)) })

abbrev pub flag_shown : Base → ℕ → Option EventFlag → Outcome
flag_shown b id None = failed er.NoExs
flag_shown b id (Some k) = Returned (answer (pos 0) (cast_signed w32 k.pattern ∷ pos (head_or_zero (flag_waiters b k id)) ∷ []))

-- `tk_ref_flg`: the pattern, and the first waiter or 0
unfoldable pub refer_flag : Base → SemFlags → ℤ → SemFlagDone
refer_flag b s id = sem_flag_checked (object_checks id (has_flag s id) []) b s (record { base = b; table = s; outcome = flag_shown b (natural id) (flag_at s (natural id)) })

-- ---- signalling

-- whether a count has room for more
abbrev pub sem_has_room : ℕ → Option Semaphore → Bool
sem_has_room n None = false
sem_has_room n (Some k) = nat_le (k.count + n) k.most

abbrev pub signalled : SemFlags → ℕ → ℕ → Option Semaphore → SemFlags
signalled s id n None = s
signalled s id n (Some k) = with_sem s id (Some (record k { count = k.count + n }))

abbrev pub signal_checks : SemFlags → ℤ → ℤ → List Check
signal_checks s id count =
    (within 1 64 id otherwise er.Id)
    ∷ (int_le (pos 1) count otherwise er.Par)
    ∷ (has_sem s id otherwise er.NoExs)
    ∷ (sem_has_room (natural count) (sem_at s (natural id)) otherwise er.QOvr)
    ∷ []

-- `tk_sig_sem`: adds to the count
unfoldable pub signal_sem : Base → SemFlags → ℤ → ℤ → SemFlagDone
signal_sem b s id count = sem_flag_checked (signal_checks s id count) b s
    (tables_changed b (signalled s (natural id) (natural count) (sem_at s (natural id))) (pos 0))

abbrev pub repatterned : SemFlags → ℕ → (ℕ → ℕ) → Option EventFlag → SemFlags
repatterned s id change None = s
repatterned s id change (Some k) = with_flag s id (Some (record k { pattern = change k.pattern }))

-- `tk_set_flg`: sets bits
unfoldable pub set_flag : Base → SemFlags → ℤ → ℤ → SemFlagDone
set_flag b s id pattern = sem_flag_checked (object_checks id (has_flag s id) []) b s
    (tables_changed b (repatterned s (natural id) (λ old. bit_or old (cast_unsigned w32 pattern)) (flag_at s (natural id))) (pos 0))

-- `tk_clr_flg`: keeps only these bits
unfoldable pub clear_flag : Base → SemFlags → ℤ → ℤ → SemFlagDone
clear_flag b s id pattern = sem_flag_checked (object_checks id (has_flag s id) []) b s
    (tables_changed b (repatterned s (natural id) (λ old. bit_and old (cast_unsigned w32 pattern)) (flag_at s (natural id))) (pos 0))

-- ---- waiting

-- whether a task that joined a queue would stand first
abbrev pub would_be_first : Order → Base → ℕ → List ℕ → Bool
would_be_first order b t [] = true
would_be_first Fifo b t (first ∷ rest) = false
would_be_first Priority b t (first ∷ rest) = nat_lt (current b t) (current b first)

-- with a time-out of 0 a wait that isn't served is over at once, and nothing has happened; else the task waits
abbrev pub waits_or_ends : Base → SemFlags → ℕ → ℕ → Order → ℤ → SemFlags → SemFlagDone
waits_or_ends b s t object order timeout asked =
    if int_eq timeout (pos 0)
    then record { base = b; table = s; outcome = failed er.TmOut }
    else record { base = make_wait b t object order timeout; table = asked; outcome = Blocked }

-- whether a semaphore serves a task at once: its count is there, and nobody stands before it who would have to be served
-- first
abbrev pub serves_at_once : Base → Semaphore → ℕ → ℕ → ℕ → Bool
serves_at_once b k id t n = nat_le n k.count && (k.any_place || would_be_first k.order b t (sem_waiters b k id))

abbrev pub waited_for_sem : Base → SemFlags → ℕ → ℕ → ℕ → ℤ → Option Semaphore → SemFlagDone
waited_for_sem b s t id n timeout None = record { base = b; table = s; outcome = failed er.NoExs }
waited_for_sem b s t id n timeout (Some k) =
    if serves_at_once b k id t n
    then tables_changed b (taken_from_sem s id k n) (pos 0)
    else waits_or_ends b s t (sem_object id) k.order timeout (record s { counts = slice_set s.counts t n })

abbrev pub is_within_most : ℕ → Option Semaphore → Bool
is_within_most n None = false
is_within_most n (Some k) = nat_le n k.most

abbrev pub wait_sem_checks : Base → SemFlags → Who → ℤ → ℤ → ℤ → List Check
wait_sem_checks b s who id count timeout =
    (within 1 64 id otherwise er.Id)
    ∷ (int_le (pos 1) count otherwise er.Par)
    ∷ (int_le (negsuc 0) timeout otherwise er.Par)
    ∷ (allows b.flags who MayWait otherwise er.Ctx)
    ∷ (has_sem s id otherwise er.NoExs)
    ∷ (is_within_most (natural count) (sem_at s (natural id)) otherwise er.Par)
    ∷ []

-- `tk_wai_sem`: takes from the count, or waits
unfoldable pub wait_sem : Base → SemFlags → Who → ℤ → ℤ → ℤ → SemFlagDone
wait_sem b s who id count timeout = sem_flag_checked (wait_sem_checks b s who id count timeout) b s
    (waited_for_sem b s (caller who) (natural id) (natural count) timeout (sem_at s (natural id)))

-- one of two words and not the other
abbrev pub either : Bool → Bool → Bool
either first second = (first || second) && not_both first second

-- a mode has one of the two conditions, and not both clears
abbrev pub is_mode : FlagMode → Bool
is_mode mode = either mode.twf_andw mode.twf_orw && not_both mode.twf_clr mode.twf_bitclr

-- a flag for one waiter has none yet
abbrev pub may_join : Base → ℕ → Option EventFlag → Bool
may_join b id None = false
may_join b id (Some k) = k.many || head_or_zero (flag_waiters b k id) == 0

abbrev pub waited_for_flag : Base → SemFlags → ℕ → ℕ → FlagWish → ℤ → Option EventFlag → SemFlagDone
waited_for_flag b s t id wish timeout None = record { base = b; table = s; outcome = failed er.NoExs }
waited_for_flag b s t id wish timeout (Some k) =
    if has_bits k.pattern wish
    then record { base = b; table = cleared_flag s id k wish; outcome = Returned (flag_answer k) }
    else waits_or_ends b s t (flag_object id) k.order timeout (record s { wishes = slice_set s.wishes t wish })

abbrev pub wait_flag_checks : Base → SemFlags → Who → ℤ → ℤ → FlagMode → ℤ → List Check
wait_flag_checks b s who id bits mode timeout =
    (within 1 64 id otherwise er.Id)
    ∷ (not (int_eq bits (pos 0)) otherwise er.Par)
    ∷ (is_mode mode otherwise er.Par)
    ∷ (int_le (negsuc 0) timeout otherwise er.Par)
    ∷ (allows b.flags who MayWait otherwise er.Ctx)
    ∷ (has_flag s id otherwise er.NoExs)
    ∷ (may_join b (natural id) (flag_at s (natural id)) otherwise er.Obj)
    ∷ []

-- `tk_wai_flg`: answers the pattern once it has the bits, or waits
unfoldable pub wait_flag : Base → SemFlags → Who → ℤ → ℤ → FlagMode → ℤ → SemFlagDone
wait_flag b s who id bits mode timeout = sem_flag_checked (wait_flag_checks b s who id bits mode timeout) b s
    (waited_for_flag b s (caller who) (natural id) (record { bits = cast_unsigned w32 bits; mode = mode }) timeout (flag_at s (natural id)))

-- a call on semaphores and flags by its row
unfoldable pub sem_flag_call : Base → SemFlags → Who → SemFlagCall → SemFlagDone
sem_flag_call b s who (call.CreSem attributes count most) = create_sem b s attributes count most
sem_flag_call b s who (call.SigSem id count) = signal_sem b s id count
sem_flag_call b s who (call.WaiSem id count timeout) = wait_sem b s who id count timeout
sem_flag_call b s who (call.RefSem id) = refer_sem b s id
sem_flag_call b s who (call.CreFlg attributes pattern) = create_flag b s attributes pattern
sem_flag_call b s who (call.SetFlg id pattern) = set_flag b s id pattern
sem_flag_call b s who (call.ClrFlg id pattern) = clear_flag b s id pattern
sem_flag_call b s who (call.WaiFlg id bits mode timeout) = wait_flag b s who id bits mode timeout
sem_flag_call b s who (call.RefFlg id) = refer_flag b s id
sem_flag_call b s who (call.DelSem id) = delete_sem b s id
sem_flag_call b s who (call.DelFlg id) = delete_flag b s id
