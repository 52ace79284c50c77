-- Every call on semaphores and event flags, and every serving, leaves their tables short.
use Rattle.std.proofs.Common.{ℕ, ◌≤◌, length, Bool, true, false, cond, List, [], ◌∷◌, Option, Some, None, ℤ, pos}
use Rattle.std.specs.Prelude.{bit_and, bit_or, drop}
use Rattle.std.specs.Int.{w32, cast_unsigned}
use Rattle.std.specs.Ordering.{int_eq}
use Rattle.tk_types.specs.declared.answer.Who.{Who}
use Rattle.tk_types.specs.declared.calls.SemFlagCall.{SemFlagCall}
use Rattle.tk_types.specs.declared.calls.SemFlagCall.TheVariants as call
use Rattle.kernel_model.specs.declared.objects.EventFlag.{EventFlag}
use Rattle.kernel_model.specs.declared.objects.FlagWish.{FlagWish}
use Rattle.kernel_model.specs.declared.objects.Semaphore.{Semaphore}
use Rattle.kernel_model.specs.Words.Checks.{Check, natural}
use Rattle.kernel_model.specs.Words.Orders.{taken_from}
use Rattle.kernel_model.specs.Tasks.Base.{Base}
use Rattle.kernel_model.specs.Tasks.Calls.{caller}
use Rattle.kernel_model.specs.SemFlags.Tables.{SemFlags, SemFlagParts, first_served, flag_at, flag_served, has_bits, or_else, sem_at, sem_served, serve_flag, serve_flag_at, serve_flag_of, serve_sem, serve_sem_at, serve_sem_flag, serve_sem_of, with_flag, with_sem}
use Rattle.kernel_model.specs.SemFlags.Calls as calls
use Rattle.kernel_model.specs.SemFlags.Calls.{SemFlagDone, has_flag, has_sem, object_checks, repatterned, sem_flag_call, sem_flag_checked, serves_at_once, signalled, waited_for_flag, waited_for_sem}
use Rattle.call_lemmas.proofs.Checked.{sem_flag_cases}
use Rattle.table_lemmas.proofs.Slots.{IfServed, set_short}

-- the tables of semaphores and flags have no more slots than those have numbers
pub record SemFlagsShort (s : SemFlags) : Type 0 where
  pub sems : length s.sems ≤ 65
  pub flags : length s.flags ≤ 65

abbrev DoneShort : SemFlagDone → Type 0
DoneShort done = SemFlagsShort done.table

abbrev PartsShort : SemFlagParts → Type 0
PartsShort q = SemFlagsShort q.table

sem_short : (s : SemFlags) (id : ℕ) (slot : Option Semaphore) → SemFlagsShort s → SemFlagsShort (with_sem s id slot)
sem_short s id slot has = record { sems = set_short s.sems id slot has.sems; flags = has.flags }

flag_short : (s : SemFlags) (id : ℕ) (slot : Option EventFlag) → SemFlagsShort s → SemFlagsShort (with_flag s id slot)
flag_short s id slot has = record { sems = has.sems; flags = set_short s.flags id slot has.flags }

-- ---- calls

checked_short : (s : SemFlags) (checks : List Check) (b : Base) (effect : SemFlagDone) → SemFlagsShort s → DoneShort effect → DoneShort (sem_flag_checked checks b s effect)
checked_short s checks b effect has works = sem_flag_cases DoneShort checks b s effect (λ code. has) (λ none. works)

either_short : (test : Bool) (one other : SemFlagDone) → DoneShort one → DoneShort other → DoneShort (cond {A = SemFlagDone} test one other)
either_short true one other first second = first
either_short false one other first second = second

sem_waited : (s : SemFlags) (b : Base) (t id n : ℕ) (timeout : ℤ) (slot : Option Semaphore) → SemFlagsShort s → DoneShort (waited_for_sem b s t id n timeout slot)
sem_waited s b t id n timeout None has = has
sem_waited s b t id n timeout (Some k) has =
    either_short (serves_at_once b k id t n) _ _ (sem_short s id _ has)
    (either_short (int_eq timeout (pos 0)) _ _ has (record { sems = has.sems; flags = has.flags }))

flag_waited : (s : SemFlags) (b : Base) (t id : ℕ) (wish : FlagWish) (timeout : ℤ) (slot : Option EventFlag) → SemFlagsShort s → DoneShort (waited_for_flag b s t id wish timeout slot)
flag_waited s b t id wish timeout None has = has
flag_waited s b t id wish timeout (Some k) has =
    either_short (has_bits k.pattern wish) _ _ (flag_short s id _ has)
    (either_short (int_eq timeout (pos 0)) _ _ has (record { sems = has.sems; flags = has.flags }))

sem_signalled : (s : SemFlags) (id n : ℕ) (slot : Option Semaphore) → SemFlagsShort s → SemFlagsShort (signalled s id n slot)
sem_signalled s id n None has = has
sem_signalled s id n (Some k) has = sem_short s id _ has

flag_changed : (s : SemFlags) (id : ℕ) (change : ℕ → ℕ) (slot : Option EventFlag) → SemFlagsShort s → SemFlagsShort (repatterned s id change slot)
flag_changed s id change None has = has
flag_changed s id change (Some k) has = flag_short s id _ has

-- every call on semaphores and event flags leaves their tables short
pub sem_flag_calls_short : (s : SemFlags) (b : Base) (who : Who) (c : SemFlagCall) → SemFlagsShort s → SemFlagsShort (sem_flag_call b s who c).table
unfolding sem_flag_call calls.create_sem calls.create_flag calls.delete_sem calls.delete_flag calls.signal_sem calls.set_flag calls.clear_flag calls.refer_sem calls.refer_flag calls.wait_sem calls.wait_flag
sem_flag_calls_short s b who (call.CreSem attributes count most) has = checked_short s (calls.create_sem_checks s attributes count most) b _ has (sem_short s _ _ has)
sem_flag_calls_short s b who (call.SigSem id count) has =
    checked_short s (calls.signal_checks s id count) b _ has (sem_signalled s (natural id) (natural count) (sem_at s (natural id)) has)
sem_flag_calls_short s b who (call.WaiSem id count timeout) has =
    checked_short s (calls.wait_sem_checks b s who id count timeout) b _ has (sem_waited s b (caller who) (natural id) (natural count) timeout (sem_at s (natural id)) has)
sem_flag_calls_short s b who (call.RefSem id) has = checked_short s (object_checks id (has_sem s id) []) b _ has has
sem_flag_calls_short s b who (call.CreFlg attributes pattern) has = checked_short s (calls.create_flag_checks s attributes) b _ has (flag_short s _ _ has)
sem_flag_calls_short s b who (call.SetFlg id pattern) has =
    checked_short s (object_checks id (has_flag s id) []) b _ has (flag_changed s (natural id) (λ old. bit_or old (cast_unsigned w32 pattern)) (flag_at s (natural id)) has)
sem_flag_calls_short s b who (call.ClrFlg id pattern) has =
    checked_short s (object_checks id (has_flag s id) []) b _ has (flag_changed s (natural id) (λ old. bit_and old (cast_unsigned w32 pattern)) (flag_at s (natural id)) has)
sem_flag_calls_short s b who (call.WaiFlg id bits mode timeout) has =
    checked_short s (calls.wait_flag_checks b s who id bits mode timeout) b _ has
    (flag_waited s b (caller who) (natural id) (record { bits = cast_unsigned w32 bits; mode = mode }) timeout (flag_at s (natural id)) has)
sem_flag_calls_short s b who (call.RefFlg id) has = checked_short s (object_checks id (has_flag s id) []) b _ has has
sem_flag_calls_short s b who (call.DelSem id) has = checked_short s (object_checks id (has_sem s id) []) b _ has (sem_short s (natural id) None has)
sem_flag_calls_short s b who (call.DelFlg id) has = checked_short s (object_checks id (has_flag s id) []) b _ has (flag_short s (natural id) None has)

-- ---- servings

sem_of : (b : Base) (s : SemFlags) (id : ℕ) (k : Semaphore) (picked : Option ℕ) → SemFlagsShort s → IfServed PartsShort (serve_sem_of b s id k picked)
sem_of b s id k None has = tt
sem_of b s id k (Some t) has = sem_short s id _ has

sem_in : (b : Base) (s : SemFlags) (id : ℕ) (slot : Option Semaphore) → SemFlagsShort s → IfServed PartsShort (serve_sem_at b s id slot)
sem_in b s id None has = tt
sem_in b s id (Some k) has = sem_of b s id k (sem_served s k b id) has

sem_serving : (b : Base) (s : SemFlags) (id : ℕ) → SemFlagsShort s → IfServed PartsShort (serve_sem b s id)
unfolding serve_sem
sem_serving b s id has = sem_in b s id (sem_at s id) has

flag_of : (b : Base) (s : SemFlags) (id : ℕ) (k : EventFlag) (picked : Option ℕ) → SemFlagsShort s → IfServed PartsShort (serve_flag_of b s id k picked)
flag_of b s id k None has = tt
flag_of b s id k (Some t) has = flag_short s id _ has

flag_in : (b : Base) (s : SemFlags) (id : ℕ) (slot : Option EventFlag) → SemFlagsShort s → IfServed PartsShort (serve_flag_at b s id slot)
flag_in b s id None has = tt
flag_in b s id (Some k) has = flag_of b s id k (flag_served s k b id) has

flag_serving : (b : Base) (s : SemFlags) (id : ℕ) → SemFlagsShort s → IfServed PartsShort (serve_flag b s id)
unfolding serve_flag
flag_serving b s id has = flag_in b s id (flag_at s id) has

one_served : (one other : Option SemFlagParts) → IfServed PartsShort one → IfServed PartsShort other → IfServed PartsShort (or_else one other)
one_served None other first second = second
one_served (Some q) other first second = first

first_short : (serve : ℕ → Option SemFlagParts) (ids : List ℕ) → ((id : ℕ) → IfServed PartsShort (serve id)) → IfServed PartsShort (first_served serve ids)
unfolding first_served
first_short serve [] each = tt
first_short serve (id ∷ ids) each = one_served (serve id) (first_served serve ids) (each id) (first_short serve ids each)

-- a serving of a semaphore or an event flag leaves their tables short
pub sem_flag_served_short : (b : Base) (s : SemFlags) → SemFlagsShort s → IfServed (λ (q : SemFlagParts). SemFlagsShort q.table) (serve_sem_flag b s)
unfolding serve_sem_flag
sem_flag_served_short b s has =
    one_served (first_served (serve_sem b s) (taken_from 1 (drop 1 s.sems))) (first_served (serve_flag b s) (taken_from 1 (drop 1 s.flags)))
    (first_short (serve_sem b s) (taken_from 1 (drop 1 s.sems)) (λ id. sem_serving b s id has))
    (first_short (serve_flag b s) (taken_from 1 (drop 1 s.flags)) (λ id. flag_serving b s id has))
