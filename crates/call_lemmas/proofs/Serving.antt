-- What one serving does: it ends the wait of a task that stands in the queue, and leaves the answer in the record.
use Rattle.std.proofs.Common.{◌≡◌, ℕ, ◌+◌, Bool, true, false, not, List, [], ◌∷◌, ◌++◌, Option, Some, None, refl, cond, ◌∙◌, ap, sym}
use Rattle.std.specs.Prelude.{filter}
use Rattle.std.specs.Bool.{◌==◌}
use Rattle.std.specs.List.{find}
use Rattle.std.specs.Option.{option_map}
use Rattle.tk_types.specs.declared.answer.Answer.{Answer}
use Rattle.tk_types.specs.declared.task.Order.{Order}
use Rattle.tk_types.specs.declared.task.Order.TheVariants.{Fifo, Priority}
use Rattle.tk_types.specs.declared.task.Task.{Task}
use Rattle.tk_types.specs.declared.task.Phase.{Phase}
use Rattle.tk_types.specs.declared.task.Phase.TheVariants.{Dormant, Ready, Waiting}
use Rattle.tk_types.specs.declared.task.Release.{Release}
use Rattle.kernel_model.specs.declared.objects.Semaphore.{Semaphore}
use Rattle.kernel_model.specs.declared.objects.EventFlag.{EventFlag}
use Rattle.kernel_model.specs.LawWords.Once.{times}
use Rattle.kernel_model.specs.Words.Orders.{without}
use Rattle.kernel_model.specs.Tasks.Base.{Base, task_at, is_waiting_phase, waits_in, waits_somewhere, is_waiting, waiting_in, waits_for, queue, release}
use Rattle.kernel_model.specs.SemFlags.Tables.{SemFlags, SemFlagParts, sem_object, flag_object, sem_at, flag_at, is_there, is_fulfilled, sem_pick, sem_served, flag_served, serve_sem, serve_sem_at, serve_sem_of, serve_flag, serve_flag_at, serve_flag_of}
use Rattle.kernel_model.specs.SemFlags.Trial.{ended_with}
use Rattle.kernel_model.specs.LawWords.Waiters.{waiting_count}
use Rattle.kernel_lemmas.proofs.Once.{times_without}
use Rattle.kernel_lemmas.proofs.Tables.{itself, entry_split}
use Rattle.kernel_lemmas.proofs.Queues.{fifo_absent, priority_absent}
use Rattle.kernel_lemmas.proofs.Releases.{release_over, release_ends_one}
use Rattle.call_lemmas.proofs.Picks.{apart_from_first, apart_from_rest}

-- ---- who stands in a queue

absent_from : (t : ℕ) (ids : List ℕ) → without t ids ≡ ids → times t ids ≡ 0
absent_from t ids same = ap (times t) (sym same) ∙ times_without t ids

-- a task that doesn't wait for an object stands nowhere in its queue
pub queue_absent : (order : Order) (b : Base) (t object : ℕ) → waits_for b object t ≡ false → times t (queue order b object) ≡ 0
queue_absent Fifo b t object idle = absent_from t (queue Fifo b object) (fifo_absent b t object idle)
queue_absent Priority b t object idle = absent_from t (queue Priority b object) (priority_absent b t object idle)

first_stands_if : (t id : ℕ) (later : Option ℕ) (test : Bool) → (id ≡ t → ⊥) → (later ≡ Some t → ⊥) → cond test (Some id) later ≡ Some t → ⊥
first_stands_if t id later true apart behind found = apart (cc found)
first_stands_if t id later false apart behind found = behind found

none_found : (t : ℕ) → None ≡ Some t → ⊥
none_found t found = absurd (cc found)

-- what isn't in a list isn't found in it
found_stands : (passes : ℕ → Bool) (t : ℕ) (ids : List ℕ) → times t ids ≡ 0 → find passes ids ≡ Some t → ⊥
found_stands passes t [] absent = none_found t
found_stands passes t (id ∷ ids) absent =
    first_stands_if t id (find passes ids) (passes id) (apart_from_first t id ids absent) (found_stands passes t ids (apart_from_rest t id ids absent))

picked_stands : (any_place : Bool) (passes : ℕ → Bool) (t : ℕ) (ids : List ℕ) → times t ids ≡ 0 → sem_pick any_place passes ids ≡ Some t → ⊥
picked_stands true passes t ids absent = found_stands passes t ids absent
picked_stands false passes t [] absent = none_found t
picked_stands false passes t (id ∷ ids) absent = first_stands_if t id None (passes id) (apart_from_first t id ids absent) (none_found t)

waits_phase : (object : ℕ) (phase : Phase) → waits_in object phase ≡ true → is_waiting_phase phase ≡ true
waits_phase object Ready waits = absurd (cc waits)
waits_phase object Dormant waits = absurd (cc waits)
waits_phase object (Waiting other) waits = refl

waits_row : (object : ℕ) (o : Option Task) → waiting_in object o ≡ true → waits_somewhere o ≡ true
waits_row object None waits = absurd (cc waits)
waits_row object (Some k) waits = waits_phase object k.phase waits

-- a task that waits for an object waits
pub waits_for_waits : (b : Base) (t object : ℕ) → waits_for b object t ≡ true → is_waiting b t ≡ true
waits_for_waits b t object waits = waits_row object (task_at b t) waits

waits_if : (b : Base) (t object : ℕ) (test : Bool) → waits_for b object t ≡ test → (waits_for b object t ≡ false → ⊥) → waits_for b object t ≡ true
waits_if b t object true is stands = is
waits_if b t object false is stands = absurd (stands is)

-- a task that stands in the queue of an object waits for it
stands_waiting : (b : Base) (t object : ℕ) → (waits_for b object t ≡ false → ⊥) → waits_for b object t ≡ true
stands_waiting b t object stands = waits_if b t object (waits_for b object t) refl stands

pub sem_served_waits : (b : Base) (s : SemFlags) (id : ℕ) (k : Semaphore) (t : ℕ) → sem_served s k b id ≡ Some t → waits_for b (sem_object id) t ≡ true
sem_served_waits b s id k t served = stands_waiting b t (sem_object id)
    (λ idle. picked_stands k.any_place (is_there s k) t (queue k.order b (sem_object id)) (queue_absent k.order b t (sem_object id) idle) served)

pub flag_served_waits : (b : Base) (s : SemFlags) (id : ℕ) (k : EventFlag) (t : ℕ) → flag_served s k b id ≡ Some t → waits_for b (flag_object id) t ≡ true
flag_served_waits b s id k t served = stands_waiting b t (flag_object id)
    (λ idle. found_stands (is_fulfilled s k) t (queue k.order b (flag_object id)) (queue_absent k.order b t (flag_object id) idle) served)

-- ---- one wait ends

ends_one : (b : Base) (t : ℕ) (result : Answer) (left parts : SemFlagParts) → left.base ≡ release b t result → Some left ≡ Some parts → is_waiting b t ≡ true → waiting_count b ≡ waiting_count parts.base + 1
ends_one b t result left parts released served waits =
    let same : left ≡ parts = cc served in
    release_ends_one b t result waits ∙ ap (λ now. waiting_count now + 1) (sym released ∙ ap (λ (now : SemFlagParts). now.base) same)

sem_ends_of : (b : Base) (s : SemFlags) (id : ℕ) (k : Semaphore) (parts : SemFlagParts) (o : Option ℕ) → sem_served s k b id ≡ o → serve_sem_of b s id k o ≡ Some parts → waiting_count b ≡ waiting_count parts.base + 1
sem_ends_of b s id k parts None picked served = absurd (cc served)
sem_ends_of b s id k parts (Some t) picked served = ends_one b t _ _ parts refl served (waits_for_waits b t (sem_object id) (sem_served_waits b s id k t picked))

sem_ends_at : (b : Base) (s : SemFlags) (id : ℕ) (parts : SemFlagParts) (slot : Option Semaphore) → serve_sem_at b s id slot ≡ Some parts → waiting_count b ≡ waiting_count parts.base + 1
sem_ends_at b s id parts None served = absurd (cc served)
sem_ends_at b s id parts (Some k) served = sem_ends_of b s id k parts (sem_served s k b id) refl served

-- a serving of a semaphore ends one wait
pub sem_ends_one : (b : Base) (s : SemFlags) (id : ℕ) (parts : SemFlagParts) → serve_sem b s id ≡ Some parts → waiting_count b ≡ waiting_count parts.base + 1
unfolding serve_sem
sem_ends_one b s id parts served = sem_ends_at b s id parts (sem_at s id) served

flag_ends_of : (b : Base) (s : SemFlags) (id : ℕ) (k : EventFlag) (parts : SemFlagParts) (o : Option ℕ) → flag_served s k b id ≡ o → serve_flag_of b s id k o ≡ Some parts → waiting_count b ≡ waiting_count parts.base + 1
flag_ends_of b s id k parts None picked served = absurd (cc served)
flag_ends_of b s id k parts (Some t) picked served = ends_one b t _ _ parts refl served (waits_for_waits b t (flag_object id) (flag_served_waits b s id k t picked))

flag_ends_at : (b : Base) (s : SemFlags) (id : ℕ) (parts : SemFlagParts) (slot : Option EventFlag) → serve_flag_at b s id slot ≡ Some parts → waiting_count b ≡ waiting_count parts.base + 1
flag_ends_at b s id parts None served = absurd (cc served)
flag_ends_at b s id parts (Some k) served = flag_ends_of b s id k parts (flag_served s k b id) refl served

-- and so does one of an event flag
pub flag_ends_one : (b : Base) (s : SemFlags) (id : ℕ) (parts : SemFlagParts) → serve_flag b s id ≡ Some parts → waiting_count b ≡ waiting_count parts.base + 1
unfolding serve_flag
flag_ends_one b s id parts served = flag_ends_at b s id parts (flag_at s id) served

-- ---- the record of a wait's end

found_if : {A : Type 0} → (found : A) (rest : Option A) (test : Bool) → test ≡ true → cond test (Some found) rest ≡ Some found
found_if found rest true is = refl
found_if found rest false is = absurd (cc is)

found_last_if : {A : Type 0} → (p : A → Bool) (first last : A) (kept : List A) (test : Bool) → p first ≡ test → find p (kept ++ last ∷ []) ≡ Some last → find p (cond (not test) (first ∷ kept) kept ++ last ∷ []) ≡ Some last
found_last_if p first last kept true is found = found
found_last_if p first last kept false is found = ap (λ test. cond test (Some first) (find p (kept ++ last ∷ []))) is ∙ found

-- what passes is found behind all that fails
found_last : {A : Type 0} → (p : A → Bool) (last : A) (xs : List A) → p last ≡ true → find p (filter (λ x. not (p x)) xs ++ last ∷ []) ≡ Some last
found_last p last [] is = found_if last None (p last) is
found_last p last (x ∷ xs) is = found_last_if p x last (filter (λ x. not (p x)) xs) (p x) refl (found_last p last xs is)

found_recorded : (b c : Base) (t : ℕ) (result : Answer) (waits : Bool) → waits ≡ true → find (λ (ended : Release). ended.task == t) c.released ≡ Some (record { task = t; answer = result }) →
    find (λ (ended : Release). ended.task == t) (cond waits c b).released ≡ Some (record { task = t; answer = result })
found_recorded b c t result true waits found = found
found_recorded b c t result false waits found = absurd (cc waits)

-- a task whose wait ends has a record with its answer
release_recorded : (b : Base) (t : ℕ) (result : Answer) → is_waiting b t ≡ true → find (λ (ended : Release). ended.task == t) (release b t result).released ≡ Some (record { task = t; answer = result })
release_recorded b t result waits = entry_split (λ c. find (λ (ended : Release). ended.task == t) c.released ≡ Some (record { task = t; answer = result })) (task_at b t) b _
    (λ none. let idle = ap waits_somewhere none in absurd (cc (idle, waits)))
    (λ k at. found_recorded b _ t result (is_waiting_phase k.phase) (ap waits_somewhere (sym at) ∙ waits) (found_last (λ (ended : Release). ended.task == t) (record { task = t; answer = result }) b.released (itself t)))

-- and that is what its call is answered
pub release_answers : (b : Base) (t : ℕ) (result : Answer) (table : SemFlags) → is_waiting b t ≡ true → ended_with t (record { base = release b t result; table = table }) ≡ Some result
release_answers b t result table waits =
    ap (λ waits_on. cond waits_on None (option_map (λ (ended : Release). ended.answer) (find (λ (ended : Release). ended.task == t) (release b t result).released))) (release_over b t result)
    ∙ ap (λ found. option_map (λ (ended : Release). ended.answer) found) (release_recorded b t result waits)
