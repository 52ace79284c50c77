-- Semaphores and event flags: their tables, who can be served, and what serving does.
use Rattle.std.specs.Prelude.{ℕ, ◌+◌, ◌-◌, ◌==◌, Bool, true, false, not, nat_le, if◌then◌else◌, pos, List, [], ◌∷◌, Option, Some, None, replicate, slice_set, slice_index, bit_and, bit_xor, drop}
use Rattle.std.specs.List.{find, slice_index_or}
use Rattle.std.specs.Int.{w32, cast_signed}
use Rattle.tk_types.specs.declared.answer.Answer.{Answer}
use Rattle.kernel_model.specs.declared.objects.Semaphore.{Semaphore}
use Rattle.kernel_model.specs.declared.objects.EventFlag.{EventFlag}
use Rattle.kernel_model.specs.declared.objects.FlagWish.{FlagWish}
use Rattle.kernel_model.specs.Words.Orders.{entry}
use Rattle.kernel_model.specs.Words.Checks.{answer, plain}
use Rattle.kernel_model.specs.Tasks.Base.{Base, queue, release}
use Rattle.kernel_model.specs.Words.Orders.{taken_from}

pub record SemFlags : Type 0 where
  pub sems : List (Option Semaphore)  -- by ID, 65 slots
  pub flags : List (Option EventFlag)  -- by ID, 65 slots
  pub counts : List ℕ  -- by task: the count that it asked for when it last waited for a semaphore
  pub wishes : List FlagWish  -- by task: what it asked for when it last waited for a flag

-- a base and the tables beside it
pub record SemFlagParts : Type 0 where
  pub base : Base
  pub table : SemFlags

-- the numbers of the objects
abbrev pub sem_object : ℕ → ℕ
sem_object id = 63 + id

abbrev pub flag_object : ℕ → ℕ
flag_object id = 127 + id

abbrev pub sem_at : SemFlags → ℕ → Option Semaphore
sem_at s id = entry s.sems id

abbrev pub flag_at : SemFlags → ℕ → Option EventFlag
flag_at s id = entry s.flags id

abbrev pub with_sem : SemFlags → ℕ → Option Semaphore → SemFlags
with_sem s id slot = record s { sems = slice_set s.sems id slot }

abbrev pub with_flag : SemFlags → ℕ → Option EventFlag → SemFlags
with_flag s id slot = record s { flags = slice_set s.flags id slot }

-- ---- semaphores

-- the count that a task asks for
abbrev pub count_of : SemFlags → ℕ → ℕ
count_of s t = slice_index s.counts t

-- whether a semaphore's count is there for a waiter
abbrev pub is_there : SemFlags → Semaphore → ℕ → Bool
is_there s k t = nat_le (count_of s t) k.count

-- the first of a queue, if it passes
abbrev pub first_if : (ℕ → Bool) → List ℕ → Option ℕ
first_if passes [] = None
first_if passes (t ∷ ts) = if passes t then Some t else None

-- the waiter that is served: the first whose count is there, or only the first of the queue
abbrev pub sem_pick : Bool → (ℕ → Bool) → List ℕ → Option ℕ
sem_pick true passes waiters = find passes waiters
sem_pick false passes waiters = first_if passes waiters

abbrev pub sem_waiters : Base → Semaphore → ℕ → List ℕ
sem_waiters b k id = queue k.order b (sem_object id)

abbrev pub sem_served : SemFlags → Semaphore → Base → ℕ → Option ℕ
sem_served s k b id = sem_pick k.any_place (is_there s k) (sem_waiters b k id)

-- a semaphore with less of its count
abbrev pub taken_from_sem : SemFlags → ℕ → Semaphore → ℕ → SemFlags
taken_from_sem s id k n = with_sem s id (Some (record k { count = k.count - n }))

-- the waiter's wait ends with 0, and its count is taken
abbrev pub serve_sem_of : Base → SemFlags → ℕ → Semaphore → Option ℕ → Option SemFlagParts
serve_sem_of b s id k None = None
serve_sem_of b s id k (Some t) = Some (record { base = release b t (plain (pos 0)); table = taken_from_sem s id k (count_of s t) })

abbrev pub serve_sem_at : Base → SemFlags → ℕ → Option Semaphore → Option SemFlagParts
serve_sem_at b s id None = None
serve_sem_at b s id (Some k) = serve_sem_of b s id k (sem_served s k b id)

-- one waiter of a semaphore is served, where one can be
unfoldable pub serve_sem : Base → SemFlags → ℕ → Option SemFlagParts
serve_sem b s id = serve_sem_at b s id (sem_at s id)

-- ---- event flags

-- the wish of a task; the one that no task has is empty
abbrev pub no_wish : FlagWish
no_wish = record { bits = 0; mode = record { twf_andw = false; twf_orw = false; twf_clr = false; twf_bitclr = false } }

abbrev pub wish_of : SemFlags → ℕ → FlagWish
wish_of s t = slice_index_or s.wishes t no_wish

-- whether a pattern has all bits of a wish, or one of them
abbrev pub has_bits : ℕ → FlagWish → Bool
has_bits pattern wish =
    if wish.mode.twf_andw then bit_and pattern wish.bits == wish.bits else not (bit_and pattern wish.bits == 0)

-- what a clear leaves of a pattern: nothing, the bits that weren't asked for, or all
abbrev pub cleared_by : FlagWish → ℕ → ℕ
cleared_by wish pattern =
    if wish.mode.twf_clr then 0 else (if wish.mode.twf_bitclr then bit_xor pattern (bit_and pattern wish.bits) else pattern)

abbrev pub is_fulfilled : SemFlags → EventFlag → ℕ → Bool
is_fulfilled s k t = has_bits k.pattern (wish_of s t)

abbrev pub flag_waiters : Base → EventFlag → ℕ → List ℕ
flag_waiters b k id = queue k.order b (flag_object id)

-- the waiter that is served: the first whose condition holds
abbrev pub flag_served : SemFlags → EventFlag → Base → ℕ → Option ℕ
flag_served s k b id = find (is_fulfilled s k) (flag_waiters b k id)

-- the answer of a wait for a flag: 0, with the pattern before its clear
abbrev pub flag_answer : EventFlag → Answer
flag_answer k = answer (pos 0) (cast_signed w32 k.pattern ∷ [])

-- a flag with what a clear leaves
abbrev pub cleared_flag : SemFlags → ℕ → EventFlag → FlagWish → SemFlags
cleared_flag s id k wish = with_flag s id (Some (record k { pattern = cleared_by wish k.pattern }))

-- the waiter gets the pattern, and then its clear acts
abbrev pub serve_flag_of : Base → SemFlags → ℕ → EventFlag → Option ℕ → Option SemFlagParts
serve_flag_of b s id k None = None
serve_flag_of b s id k (Some t) = Some (record { base = release b t (flag_answer k); table = cleared_flag s id k (wish_of s t) })

abbrev pub serve_flag_at : Base → SemFlags → ℕ → Option EventFlag → Option SemFlagParts
serve_flag_at b s id None = None
serve_flag_at b s id (Some k) = serve_flag_of b s id k (flag_served s k b id)

-- one waiter of a flag is served, where one can be
unfoldable pub serve_flag : Base → SemFlags → ℕ → Option SemFlagParts
serve_flag b s id = serve_flag_at b s id (flag_at s id)

-- ---- the first object that can serve one

abbrev pub or_else : Option SemFlagParts → Option SemFlagParts → Option SemFlagParts
or_else (Some parts) later = Some parts
or_else None later = later

-- the first of these IDs at which one can be served
unfoldable pub first_served : (ℕ → Option SemFlagParts) → List ℕ → Option SemFlagParts
first_served serve [] = None
first_served serve (id ∷ ids) = let later = first_served serve ids in or_else (serve id) later

-- the first semaphore by ID that can serve a waiter serves one, and where none can, the first flag
unfoldable pub serve_sem_flag : Base → SemFlags → Option SemFlagParts
serve_sem_flag b s =
    let flags = first_served (serve_flag b s) (taken_from 1 (drop 1 s.flags)) in
    or_else (first_served (serve_sem b s) (taken_from 1 (drop 1 s.sems))) flags

-- the start: no semaphore and no flag
abbrev pub sem_flags_start : SemFlags
sem_flags_start = record { sems = replicate 65 None; flags = replicate 65 None; counts = replicate 256 0; wishes = replicate 256 no_wish }
