-- A semaphore or an event flag that could serve nobody can't with its queue as it stood, and with a count or a pattern that lets
-- no more pass.
use Rattle.std.proofs.Common.{◌≡◌, ℕ, ◌≤◌, false, Option, Some, None, refl, ◌∙◌, ap, arith}
use Rattle.std.specs.Prelude.{nat_le}
use Rattle.std.specs.List.{find}
use Rattle.std.specs.Option.{option_map}
use Rattle.std.proofs.lemmas.Bool.Decides.{nat_tests}
use Rattle.kernel_model.specs.declared.objects.Semaphore.{Semaphore}
use Rattle.kernel_model.specs.declared.objects.EventFlag.{EventFlag}
use Rattle.kernel_model.specs.declared.objects.FlagWish.{FlagWish}
use Rattle.kernel_model.specs.Tasks.Base.{Base, waits_for, queue}
use Rattle.kernel_model.specs.SemFlags.Tables.{SemFlags, sem_object, flag_object, sem_at, flag_at, count_of, wish_of, is_there, is_fulfilled, has_bits, sem_pick, sem_served, flag_served, serve_sem, serve_sem_at, serve_sem_of, serve_flag, serve_flag_at, serve_flag_of}
use Rattle.call_lemmas.proofs.Picks.{find_no_more, pick_no_more}
use Rattle.call_lemmas.proofs.Serving.{queue_absent}
use Rattle.call_lemmas.proofs.Trial.{sem_unserved, flag_unserved}
use Rattle.paragraph_laws.proofs.Still.{SameQueue}

-- ---- semaphores

-- a semaphore with another count
abbrev pub counted : (ℕ → ℕ) → Semaphore → Semaphore
counted change k = record k { count = change k.count }

lower_fails : (asked count lower : ℕ) → lower ≤ count → nat_le asked count ≡ false → nat_le asked lower ≡ false
lower_fails asked count lower less fails = grind (arith, nat_tests, less, fails)

sem_still_at : (b c : Base) (s now : SemFlags) (t id : ℕ) (change : ℕ → ℕ) (slot : Option Semaphore) → SameQueue b c (sem_object id) → waits_for b (sem_object id) t ≡ false →
    ((u : ℕ) → (u ≡ t → ⊥) → count_of now u ≡ count_of s u) → ((count : ℕ) → change count ≤ count) → serve_sem_at b s id slot ≡ None → serve_sem_at c now id (option_map (counted change) slot) ≡ None
sem_still_at b c s now t id change None queues idle counts lower none = refl
sem_still_at b c s now t id change (Some k) queues idle counts lower none =
    ap (λ waiters. serve_sem_of c now id (counted change k) (sem_pick k.any_place (is_there now (counted change k)) waiters)) (queues k.order)
    ∙ ap (serve_sem_of c now id (counted change k))
    (pick_no_more k.any_place (is_there s k) (is_there now (counted change k)) t (queue k.order b (sem_object id))
    (λ u apart fails. ap (λ count. nat_le count (change k.count)) (counts u apart) ∙ lower_fails (count_of s u) k.count (change k.count) (lower k.count) fails)
    (queue_absent k.order b t (sem_object id) idle) (sem_unserved b s id k (sem_served s k b id) none))

-- a semaphore that could serve nobody can't with its queue as it stood and no more of its count
pub sem_still : (b c : Base) (s now : SemFlags) (t id : ℕ) (change : ℕ → ℕ) → SameQueue b c (sem_object id) → waits_for b (sem_object id) t ≡ false →
    ((u : ℕ) → (u ≡ t → ⊥) → count_of now u ≡ count_of s u) → ((count : ℕ) → change count ≤ count) → sem_at now id ≡ option_map (counted change) (sem_at s id) →
    serve_sem b s id ≡ None → serve_sem c now id ≡ None
unfolding serve_sem
sem_still b c s now t id change queues idle counts lower at none = ap (serve_sem_at c now id) at ∙ sem_still_at b c s now t id change (sem_at s id) queues idle counts lower none

-- ---- event flags

-- a flag with another pattern
abbrev pub patterned : (ℕ → ℕ) → EventFlag → EventFlag
patterned change k = record k { pattern = change k.pattern }

-- a change after which a pattern has no bits of a wish that it hadn't before
abbrev pub GivesNoBits : (ℕ → ℕ) → Type 0
GivesNoBits change = (pattern : ℕ) (wish : FlagWish) → has_bits pattern wish ≡ false → has_bits (change pattern) wish ≡ false

flag_still_at : (b c : Base) (s now : SemFlags) (t id : ℕ) (change : ℕ → ℕ) (slot : Option EventFlag) → SameQueue b c (flag_object id) → waits_for b (flag_object id) t ≡ false →
    ((u : ℕ) → (u ≡ t → ⊥) → wish_of now u ≡ wish_of s u) → GivesNoBits change → serve_flag_at b s id slot ≡ None → serve_flag_at c now id (option_map (patterned change) slot) ≡ None
flag_still_at b c s now t id change None queues idle wishes fewer none = refl
flag_still_at b c s now t id change (Some k) queues idle wishes fewer none =
    ap (λ waiters. serve_flag_of c now id (patterned change k) (find (is_fulfilled now (patterned change k)) waiters)) (queues k.order)
    ∙ ap (serve_flag_of c now id (patterned change k))
    (find_no_more (is_fulfilled s k) (is_fulfilled now (patterned change k)) t (queue k.order b (flag_object id))
    (λ u apart fails. ap (has_bits (change k.pattern)) (wishes u apart) ∙ fewer k.pattern (wish_of s u) fails)
    (queue_absent k.order b t (flag_object id) idle) (flag_unserved b s id k (flag_served s k b id) none))

-- a flag that could serve nobody can't with its queue as it stood and no further bits
pub flag_still : (b c : Base) (s now : SemFlags) (t id : ℕ) (change : ℕ → ℕ) → SameQueue b c (flag_object id) → waits_for b (flag_object id) t ≡ false →
    ((u : ℕ) → (u ≡ t → ⊥) → wish_of now u ≡ wish_of s u) → GivesNoBits change → flag_at now id ≡ option_map (patterned change) (flag_at s id) →
    serve_flag b s id ≡ None → serve_flag c now id ≡ None
unfolding serve_flag
flag_still b c s now t id change queues idle wishes fewer at none = ap (serve_flag_at c now id) at ∙ flag_still_at b c s now t id change (flag_at s id) queues idle wishes fewer none
