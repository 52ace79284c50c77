-- What a task that joins a queue, and one that was served then, leave of the others: their queues stand as they stood, and so
-- does each priority.
use Rattle.std.proofs.Common.{◌≡◌, ℕ, zero, suc, ◌+◌, ◌-◌, ◌&&◌, Bool, true, false, not, cond, List, [], ◌∷◌, ◌++◌, append-nil, Option, Some, None, refl, ◌∙◌, ap, sym, ℤ, pos, negsuc, arith}
use Rattle.std.specs.Bool.{◌==◌}
use Rattle.std.specs.Prelude.{drop, nat_le, nat_lt, slice_set}
use Rattle.std.proofs.lemmas.Bool.Decides.{nat_tests}
use Rattle.std.proofs.lemmas.List.Elements.{filter-append}
use Rattle.tk_types.specs.declared.answer.Answer.{Answer}
use Rattle.tk_types.specs.declared.task.Order.{Order}
use Rattle.tk_types.specs.declared.task.Order.TheVariants.{Fifo, Priority}
use Rattle.tk_types.specs.declared.task.Phase.TheVariants.{Ready, Waiting}
use Rattle.tk_types.specs.declared.task.Task.{Task}
use Rattle.kernel_model.specs.Words.Orders.{entry, taken_from, without}
use Rattle.kernel_model.specs.Tasks.Base.{Base, give_bytes, base_in, current, current_in, is_dormant_phase, queue, task_at, make_wait, release, waits_for}
use Rattle.kernel_model.specs.SemFlags.Trial.{MayWait}
use Rattle.kernel_lemmas.proofs.Filters.{apart_of}
use Rattle.kernel_lemmas.proofs.Queues.{fifo_absent, fifo_wait_elsewhere, priority_absent, priority_wait_elsewhere, queue_release}
use Rattle.kernel_lemmas.proofs.Sorting.{filter_insert_left, not_here}
use Rattle.kernel_lemmas.proofs.Tables.{entry_at, entry_each, entry_there, itself}
use Rattle.call_lemmas.proofs.Picks.{joined}
use Rattle.call_lemmas.proofs.Trial.{queue_joined, ready_for_none}
use Rattle.object_model.specs.Mutexes.Priority.{is_alive}
use Rattle.object_model.specs.Mutexes.Tables.{Mutexes, awaited_in, awaited_in_phase}
use Rattle.mutex_laws.proofs.Alike.{IsLike, current_alike, like_then}
use Rattle.machine_model.specs.Events.Rest.{AreUpToDate}
use Rattle.paragraph_laws.proofs.Still.{SameQueue}

-- ---- the queues

-- the queue of each other object stands as it stood
abbrev pub AwayFrom : Base → Base → ℕ → Type 0
AwayFrom b c object = (other : ℕ) → (other ≡ object → ⊥) → SameQueue b c other

-- while a task waits for an object
pub queue_elsewhere : (b : Base) (t object : ℕ) (order : Order) (timeout : ℤ) → MayWait b t → AwayFrom b (make_wait b t object order timeout) object
queue_elsewhere b t object order timeout may other apart Fifo = fifo_wait_elsewhere b t object other order timeout apart (ready_for_none b t other may)
queue_elsewhere b t object order timeout may other apart Priority = priority_wait_elsewhere b t object other order timeout apart (ready_for_none b t other may)

-- a task that doesn't wait for an object isn't in its queue
pub absent_of : (order : Order) (b : Base) (t object : ℕ) → waits_for b object t ≡ false → without t (queue order b object) ≡ queue order b object
absent_of Fifo b t object idle = fifo_absent b t object idle
absent_of Priority b t object idle = priority_absent b t object idle

-- a task joined a queue, and left it
joined_left : (order : Order) (key : ℕ → ℕ) (t : ℕ) (ids : List ℕ) → without t ids ≡ ids → without t (joined order key t ids) ≡ ids
joined_left Fifo key t ids absent =
    filter-append (λ u. not (u == t)) ids (t ∷ [])
    ∙ ap (λ last. without t ids ++ last) (not_here (not (t == t)) t [] (ap not (itself t)))
    ∙ append-nil (without t ids)
    ∙ absent
joined_left Priority key t ids absent = filter_insert_left (λ u. not (u == t)) key t ids (ap not (itself t)) ∙ absent

waited_if : (b : Base) (t object other : ℕ) (order by : Order) (timeout : ℤ) (same : Bool) → (other == object) ≡ same → MayWait b t →
    without t (queue order (make_wait b t object by timeout) other) ≡ queue order b other
waited_if b t object other order by timeout true is may =
    let e : other ≡ object = grind (arith, nat_tests, is) in
    ap (λ at. without t (queue order (make_wait b t object by timeout) at)) e
    ∙ ap (without t) (queue_joined order b t object by timeout may)
    ∙ joined_left order (current b) t (queue order b object) (absent_of order b t object (ready_for_none b t object may))
    ∙ ap (queue order b) (sym e)
waited_if b t object other order by timeout false is may =
    ap (without t) (queue_elsewhere b t object by timeout may other (apart_of other object is) order)
    ∙ absent_of order b t other (ready_for_none b t other may)

-- and once a task that joined has been served, the queue of every object does
pub queue_rejoined : (b : Base) (t object : ℕ) (order : Order) (timeout : ℤ) (result : Answer) → MayWait b t → (other : ℕ) →
    SameQueue b (release (make_wait b t object order timeout) t result) other
queue_rejoined b t object order timeout result may other by =
    queue_release by (make_wait b t object order timeout) t other result
    ∙ waited_if b t object other by order timeout (other == object) refl may

-- ---- the priorities

-- what a current priority looks at is as before, and so is each current priority
abbrev pub KeepsPriorities : Base → Base → Type 0
KeepsPriorities b c = IsLike b c × ((u : ℕ) → current c u ≡ current b u)

taken_written : (from place : ℕ) (slots : List (Option Task)) (k now : Task) → entry slots place ≡ Some k →
    taken_from from (slice_set slots place (Some now)) ≡ taken_from from slots
taken_written from place [] k now at = absurd (cc at)
taken_written from zero (None ∷ slots) k now at = absurd (cc at)
taken_written from zero (Some other ∷ slots) k now at = refl
taken_written from (suc place) (None ∷ slots) k now at = taken_written (from + 1) place slots k now at
taken_written from (suc place) (Some other ∷ slots) k now at = ap (λ ids. from ∷ ids) (taken_written (from + 1) place slots k now at)

-- the IDs that are taken are the same
pub ids_written : (t : ℕ) (tasks : List (Option Task)) (k now : Task) → entry tasks t ≡ Some k → taken_from 1 (drop 1 (slice_set tasks t (Some now))) ≡ taken_from 1 (drop 1 tasks)
ids_written t [] k now at = absurd (cc at)
ids_written zero (slot ∷ tasks) k now at = refl
ids_written (suc place) (slot ∷ tasks) k now at = taken_written 1 place tasks k now at

-- what a row shows is the same where one is written that shows the same
pub same_at : {A : Type 0} → (of : Option Task → A) (b c : Base) (t : ℕ) (k now : Task) → c.tasks ≡ slice_set b.tasks t (Some now) → task_at b t ≡ Some k →
    of (Some now) ≡ of (Some k) → (u : ℕ) → of (task_at c u) ≡ of (task_at b u)
same_at of b c t k now written at same u =
    ap (λ tasks. of (entry tasks u)) written
    ∙ entry_each (λ v o. of o ≡ of (task_at b v)) b.tasks t (Some now) (ap of (entry_there b.tasks t k (Some now) at) ∙ same ∙ ap of (sym at)) (λ v apart. refl) u

-- a row that is alive as before, with the priorities that it had, and that waits for the mutex that it did, if any
pub written_keeps : (b c : Base) (t : ℕ) (k now : Task) → c.tasks ≡ slice_set b.tasks t (Some now) → task_at b t ≡ Some k → is_dormant_phase now.phase ≡ is_dormant_phase k.phase →
    now.base ≡ k.base → now.current ≡ k.current →
    awaited_in_phase now.phase ≡ awaited_in_phase k.phase → KeepsPriorities b c
written_keeps b c t k now written at lives bases currents awaits = (
  record {
    lives = same_at is_alive b c t k now written at (ap not lives);
    bases = same_at base_in b c t k now written at bases;
    awaits = same_at awaited_in b c t k now written at awaits;
    ids = ap (λ tasks. taken_from 1 (drop 1 tasks)) written ∙ ids_written t b.tasks k now at;
  },
  same_at current_in b c t k now written at currents,
)

-- the number of an object that is no mutex
abbrev pub IsNoMutex : ℕ → Type 0
IsNoMutex object = (nat_le 256 object && nat_lt object 320) ≡ false

awaits_none : (object : ℕ) → IsNoMutex object → awaited_in_phase (Waiting object) ≡ 0
awaits_none object none = ap (λ test. cond test (object - 255) 0) none

-- a task that joins the waiters of an object that is no mutex changes no priority
pub joined_keeps : (b : Base) (t object : ℕ) (order : Order) (timeout : ℤ) → MayWait b t → IsNoMutex object → KeepsPriorities b (make_wait b t object order timeout)
joined_keeps b t object order (pos n) may none =
    entry_at (KeepsPriorities b) (task_at b t) may.row b _ may.there
    (written_keeps b _ t may.row (record may.row { phase = Waiting object; queue = order }) refl may.there (ap is_dormant_phase (sym may.ready)) refl refl (awaits_none object none ∙ ap awaited_in_phase (sym may.ready)))
joined_keeps b t object order (negsuc n) may none =
    entry_at (KeepsPriorities b) (task_at b t) may.row b _ may.there
    (written_keeps b _ t may.row (record may.row { phase = Waiting object; queue = order }) refl may.there (ap is_dormant_phase (sym may.ready)) refl refl (awaits_none object none ∙ ap awaited_in_phase (sym may.ready)))

left_keeps : (b c : Base) (t object : ℕ) (order : Order) (result : Answer) (row : Task) → task_at b t ≡ Some row →
    c.tasks ≡ slice_set b.tasks t (Some (record row { phase = Waiting object; queue = order })) → IsNoMutex object → KeepsPriorities c (release c t result)
left_keeps b c t object order result row at written none =
    let waits : Task = record row { phase = Waiting object; queue = order } in
    let stands : task_at c t ≡ Some waits = ap (λ tasks. entry tasks t) written ∙ entry_there b.tasks t row (Some waits) at in
    entry_at (KeepsPriorities c) (task_at c t) waits c _ stands
    (written_keeps c _ t waits (record waits { phase = Ready }) refl stands refl refl refl (sym (awaits_none object none)))

-- and no priority is another once it was served
pub served_keeps : (b : Base) (t object : ℕ) (order : Order) (timeout : ℤ) (result : Answer) → MayWait b t → IsNoMutex object →
    KeepsPriorities (make_wait b t object order timeout) (release (make_wait b t object order timeout) t result)
served_keeps b t object order (pos n) result may none =
    entry_at (λ c. KeepsPriorities c (release c t result)) (task_at b t) may.row b _ may.there (left_keeps b _ t object order result may.row may.there refl none)
served_keeps b t object order (negsuc n) result may none =
    entry_at (λ c. KeepsPriorities c (release c t result)) (task_at b t) may.row b _ may.there (left_keeps b _ t object order result may.row may.there refl none)

-- so they are those of their definitions
pub kept_up_to_date : (b c : Base) (m : Mutexes) → KeepsPriorities b c → AreUpToDate b m → AreUpToDate c m
kept_up_to_date b c m keeps is = record { each = λ u one. keeps.1 u ∙ is.each u one ∙ sym (current_alike b c m u keeps.0) }

-- one change after another
pub kept_then : (b c d : Base) → KeepsPriorities b c → KeepsPriorities c d → KeepsPriorities b d
kept_then b c d first later = (like_then b c d first.0 later.0, λ u. later.1 u ∙ first.1 u)

-- bytes that are given back are nothing that a priority looks at
pub given_keeps : (b : Base) (n : ℕ) → KeepsPriorities b (give_bytes b n)
given_keeps b n = (record { lives = λ u. refl; bases = λ u. refl; awaits = λ u. refl; ids = refl }, λ u. refl)
