-- How the queue of an object changes when a task joins it, leaves it, or takes another priority.
use Rattle.std.proofs.Common.{◌≡◌, ℕ, Bool, true, false, not, ◌&&◌, List, [], ◌∷◌, ◌++◌, Option, Some, None, refl, cond, ◌∙◌, ap, sym, ℤ, pos, negsuc, arith}
use Rattle.std.specs.Prelude.{filter, slice_set}
use Rattle.std.specs.Bool.{◌==◌}
use Rattle.std.proofs.lemmas.Bool.Decides.{nat_tests}
use Rattle.tk_types.specs.declared.answer.Answer.{Answer}
use Rattle.tk_types.specs.declared.task.Order.{Order}
use Rattle.tk_types.specs.declared.task.Order.TheVariants.{Fifo, Priority}
use Rattle.tk_types.specs.declared.task.Task.{Task}
use Rattle.tk_types.specs.declared.task.Phase.{Phase}
use Rattle.tk_types.specs.declared.task.Phase.TheVariants.{Dormant, Ready, Waiting}
use Rattle.kernel_model.specs.Words.Orders.{entry, without, to_back, insert_behind, sort_by}
use Rattle.kernel_model.specs.Tasks.Base.{Base, task_at, is_ready, is_ready_phase, is_waiting_phase, may_run, current, current_in, waits_in, waiting_in, waits_for, fifo_queue, priority_queue, queue, with_task, drop_wait, recorded, make_wait, release, make_dormant, set_current}
use Rattle.kernel_lemmas.proofs.Sorting.{alike_filter, filter_sort, sort_alike, sort_behind}
use Rattle.kernel_lemmas.proofs.Filters.{AreSameBut, apart_of, filter_back, filter_gone, filter_fails, filter_absent, filter_alike}
use Rattle.kernel_lemmas.proofs.Tables.{itself, entry_other, entry_same, entry_there, entry_each, entry_at, entry_cases, entry_split}

-- ---- two bases that are the same but for one row

-- every other task's row is as it was
abbrev pub OthersStay : ℕ → Base → Base → Type 0
OthersStay t b c = (u : ℕ) → (u ≡ t → ⊥) → task_at c u ≡ task_at b u

waits_alike : (t object : ℕ) (b c : Base) → OthersStay t b c → AreSameBut t (waits_for b object) (waits_for c object)
waits_alike t object b c others = λ u apart. ap (waiting_in object) (others u apart)

not_same : (u t : ℕ) (test : Bool) → (u == t) ≡ test → not test ≡ true → u ≡ t → ⊥
not_same u t true is other = absurd (cc other)
not_same u t false is other = apart_of u t is

sorted_without : (t : ℕ) (b c : Base) (ids : List ℕ) → OthersStay t b c → sort_by (current c) (without t ids) ≡ without t (sort_by (current b) ids)
sorted_without t b c ids others =
    sort_alike (current c) (current b) (without t ids) (alike_filter (λ u. not (u == t)) (current c) (current b) ids (λ u is. ap current_in (others u (not_same u t (u == t) refl is))))
    ∙ sym (filter_sort (λ u. not (u == t)) (current b) ids)

-- the task joins, the last by the beginning of its wait
pub fifo_joined : (t object : ℕ) (b c : Base) → OthersStay t b c → waits_for c object t ≡ true → c.since ≡ to_back t b.since → fifo_queue c object ≡ without t (fifo_queue b object) ++ t ∷ []
fifo_joined t object b c others is last = ap (filter (waits_for c object)) last ∙ filter_back (waits_for b object) (waits_for c object) t b.since (waits_alike t object b c others) is

-- the task joins or takes a new place, the last of its priority
pub priority_joined : (t object : ℕ) (b c : Base) → OthersStay t b c → waits_for c object t ≡ true → c.order ≡ to_back t b.order → priority_queue c object ≡ insert_behind (current c) t (without t (priority_queue b object))
priority_joined t object b c others is last =
    ap (λ ids. sort_by (current c) ids) (ap (filter (waits_for c object)) last ∙ filter_back (waits_for b object) (waits_for c object) t b.order (waits_alike t object b c others) is)
    ∙ sort_behind (current c) t (without t (filter (waits_for b object) b.order))
    ∙ ap (insert_behind (current c) t) (sorted_without t b c (filter (waits_for b object) b.order) others)

-- the task leaves, and keeps its place in the order of stamps or takes the last one
pub fifo_left : (t object : ℕ) (b c : Base) → OthersStay t b c → waits_for c object t ≡ false → c.since ≡ b.since → fifo_queue c object ≡ without t (fifo_queue b object)
fifo_left t object b c others is same = ap (filter (waits_for c object)) same ∙ filter_fails (waits_for b object) (waits_for c object) t b.since (waits_alike t object b c others) is

pub fifo_passed : (t object : ℕ) (b c : Base) → OthersStay t b c → waits_for c object t ≡ false → c.since ≡ to_back t b.since → fifo_queue c object ≡ without t (fifo_queue b object)
fifo_passed t object b c others is last = ap (filter (waits_for c object)) last ∙ filter_gone (waits_for b object) (waits_for c object) t b.since (waits_alike t object b c others) is

pub priority_left : (t object : ℕ) (b c : Base) → OthersStay t b c → waits_for c object t ≡ false → c.order ≡ b.order → priority_queue c object ≡ without t (priority_queue b object)
priority_left t object b c others is same =
    ap (λ ids. sort_by (current c) ids) (ap (filter (waits_for c object)) same ∙ filter_fails (waits_for b object) (waits_for c object) t b.order (waits_alike t object b c others) is)
    ∙ sorted_without t b c (filter (waits_for b object) b.order) others

pub priority_passed : (t object : ℕ) (b c : Base) → OthersStay t b c → waits_for c object t ≡ false → c.order ≡ to_back t b.order → priority_queue c object ≡ without t (priority_queue b object)
priority_passed t object b c others is last =
    ap (λ ids. sort_by (current c) ids) (ap (filter (waits_for c object)) last ∙ filter_gone (waits_for b object) (waits_for c object) t b.order (waits_alike t object b c others) is)
    ∙ sorted_without t b c (filter (waits_for b object) b.order) others

-- a task that doesn't wait for an object stands nowhere in its queue
pub fifo_absent : (b : Base) (t object : ℕ) → waits_for b object t ≡ false → without t (fifo_queue b object) ≡ fifo_queue b object
fifo_absent b t object idle = filter_absent (waits_for b object) t b.since idle

pub priority_absent : (b : Base) (t object : ℕ) → waits_for b object t ≡ false → without t (priority_queue b object) ≡ priority_queue b object
priority_absent b t object idle = filter_sort (λ u. not (u == t)) (current b) (filter (waits_for b object) b.order) ∙ ap (sort_by (current b)) (filter_absent (waits_for b object) t b.order idle)

-- ---- the rows of the moves

-- a row and the orders are written
abbrev written : Base → ℕ → Option Task → List ℕ → List ℕ → Base
written b t o order since = record b { tasks = slice_set b.tasks t o; order = order; since = since }

others_of : (b : Base) (t : ℕ) (o : Option Task) → (u : ℕ) → (u ≡ t → ⊥) → entry (slice_set b.tasks t o) u ≡ task_at b u
others_of b t o u apart = entry_other b.tasks t u o apart

now_waits : (b : Base) (t object : ℕ) (order : Order) (k : Task) → task_at b t ≡ Some k → waiting_in object (entry (slice_set b.tasks t (Some (record k { phase = Waiting object; queue = order }))) t) ≡ true
now_waits b t object order k at = ap (waiting_in object) (entry_there b.tasks t k (Some (record k { phase = Waiting object; queue = order })) at) ∙ itself object

never_waits : (b : Base) (t object : ℕ) (o : Option Task) → waiting_in object o ≡ false → waiting_in object (entry (slice_set b.tasks t o) t) ≡ false
never_waits b t object o idle = entry_same (λ now. waiting_in object now ≡ false) b.tasks t o idle refl

other_object : (object other : ℕ) → (other ≡ object → ⊥) → (object == other) ≡ false
other_object object other apart = grind (arith, nat_tests, apart)

-- a row that keeps the current priority
same_priority : (b : Base) (t : ℕ) (k : Task) (o : Option Task) → task_at b t ≡ Some k → current_in o ≡ k.current → (u : ℕ) → current_in (entry (slice_set b.tasks t o) u) ≡ current b u
same_priority b t k o at same = entry_each (λ u now. current_in now ≡ current b u) b.tasks t o (ap current_in (entry_there b.tasks t k o at) ∙ same ∙ ap current_in (sym at)) (λ u apart. refl)

idle_phase : (phase : Phase) (object : ℕ) → is_waiting_phase phase ≡ false → waits_in object phase ≡ false
idle_phase Ready object idle = refl
idle_phase Dormant object idle = refl
idle_phase (Waiting other) object idle = absurd (cc idle)

ready_phase : (phase : Phase) (free : Bool) (object : ℕ) → (is_ready_phase phase && free) ≡ true → waits_in object phase ≡ false
ready_phase Ready free object ready = refl
ready_phase Dormant free object ready = refl
ready_phase (Waiting other) free object ready = absurd (cc ready)

ready_row : (o : Option Task) (object : ℕ) → may_run o ≡ true → waiting_in object o ≡ false
ready_row None object ready = refl
ready_row (Some k) object ready = ready_phase k.phase (k.suspensions == 0) object ready

-- a task that is ready waits for nothing
pub ready_waits_for_none : (b : Base) (t object : ℕ) → is_ready b t ≡ true → waits_for b object t ≡ false
ready_waits_for_none b t object ready = ready_row (task_at b t) object ready

-- ---- a task begins to wait

fifo_at : (b : Base) (t object : ℕ) (order : Order) (timeout : ℤ) (k : Task) → task_at b t ≡ Some k → fifo_queue (make_wait b t object order timeout) object ≡ without t (fifo_queue b object) ++ t ∷ []
fifo_at b t object order (pos n) k at = entry_at (λ c. fifo_queue c object ≡ without t (fifo_queue b object) ++ t ∷ []) (task_at b t) k b _ at
    (fifo_joined t object b (written b t (Some (record k { phase = Waiting object; queue = order })) (to_back t b.order) (to_back t b.since)) (others_of b t (Some (record k { phase = Waiting object; queue = order }))) (now_waits b t object order k at) refl)
fifo_at b t object order (negsuc n) k at = entry_at (λ c. fifo_queue c object ≡ without t (fifo_queue b object) ++ t ∷ []) (task_at b t) k b _ at
    (fifo_joined t object b (written b t (Some (record k { phase = Waiting object; queue = order })) (to_back t b.order) (to_back t b.since)) (others_of b t (Some (record k { phase = Waiting object; queue = order }))) (now_waits b t object order k at) refl)

-- in the order of the waits a task joins as the last
pub fifo_wait : (b : Base) (t object : ℕ) (order : Order) (timeout : ℤ) (k : Task) → task_at b t ≡ Some k → waits_for b object t ≡ false → fifo_queue (make_wait b t object order timeout) object ≡ fifo_queue b object ++ t ∷ []
fifo_wait b t object order timeout k at idle = fifo_at b t object order timeout k at ∙ ap (λ front. front ++ t ∷ []) (fifo_absent b t object idle)

insert_alike : (key other : ℕ → ℕ) (t : ℕ) (ids : List ℕ) → ((u : ℕ) → key u ≡ other u) → insert_behind key t ids ≡ insert_behind other t ids
insert_alike key other t [] same = refl
insert_alike key other t (id ∷ ids) same =
    let here = same t in
    let there = same id in
    let more = insert_alike key other t ids same in
    rw (here, there, more) refl

priority_at : (b : Base) (t object : ℕ) (order : Order) (timeout : ℤ) (k : Task) → task_at b t ≡ Some k → priority_queue (make_wait b t object order timeout) object ≡ insert_behind (current b) t (without t (priority_queue b object))
priority_at b t object order (pos n) k at = entry_at (λ c. priority_queue c object ≡ insert_behind (current b) t (without t (priority_queue b object))) (task_at b t) k b _ at
    (let o : Option Task = Some (record k { phase = Waiting object; queue = order }) in
    priority_joined t object b (written b t o (to_back t b.order) (to_back t b.since)) (others_of b t o) (now_waits b t object order k at) refl ∙ insert_alike (current (written b t o (to_back t b.order) (to_back t b.since))) (current b) t (without t (priority_queue b object)) (same_priority b t k o at refl))
priority_at b t object order (negsuc n) k at = entry_at (λ c. priority_queue c object ≡ insert_behind (current b) t (without t (priority_queue b object))) (task_at b t) k b _ at
    (let o : Option Task = Some (record k { phase = Waiting object; queue = order }) in
    priority_joined t object b (written b t o (to_back t b.order) (to_back t b.since)) (others_of b t o) (now_waits b t object order k at) refl ∙ insert_alike (current (written b t o (to_back t b.order) (to_back t b.since))) (current b) t (without t (priority_queue b object)) (same_priority b t k o at refl))

-- by priority it joins behind its equals
pub priority_wait : (b : Base) (t object : ℕ) (order : Order) (timeout : ℤ) (k : Task) → task_at b t ≡ Some k → waits_for b object t ≡ false → priority_queue (make_wait b t object order timeout) object ≡ insert_behind (current b) t (priority_queue b object)
priority_wait b t object order timeout k at idle = priority_at b t object order timeout k at ∙ ap (insert_behind (current b) t) (priority_absent b t object idle)

-- where it waits for another object, this one's queue stays
pub fifo_wait_elsewhere : (b : Base) (t object other : ℕ) (order : Order) (timeout : ℤ) → (other ≡ object → ⊥) → waits_for b other t ≡ false → fifo_queue (make_wait b t object order timeout) other ≡ fifo_queue b other
fifo_wait_elsewhere b t object other order (pos n) apart idle = entry_cases (λ c. fifo_queue c other ≡ fifo_queue b other) (task_at b t) b _ refl
    (λ k at. let o : Option Task = Some (record k { phase = Waiting object; queue = order }) in
    fifo_passed t other b (written b t o (to_back t b.order) (to_back t b.since)) (others_of b t o) (never_waits b t other o (other_object object other apart)) refl ∙ fifo_absent b t other idle)
fifo_wait_elsewhere b t object other order (negsuc n) apart idle = entry_cases (λ c. fifo_queue c other ≡ fifo_queue b other) (task_at b t) b _ refl
    (λ k at. let o : Option Task = Some (record k { phase = Waiting object; queue = order }) in
    fifo_passed t other b (written b t o (to_back t b.order) (to_back t b.since)) (others_of b t o) (never_waits b t other o (other_object object other apart)) refl ∙ fifo_absent b t other idle)

pub priority_wait_elsewhere : (b : Base) (t object other : ℕ) (order : Order) (timeout : ℤ) → (other ≡ object → ⊥) → waits_for b other t ≡ false → priority_queue (make_wait b t object order timeout) other ≡ priority_queue b other
priority_wait_elsewhere b t object other order (pos n) apart idle = entry_cases (λ c. priority_queue c other ≡ priority_queue b other) (task_at b t) b _ refl
    (λ k at. let o : Option Task = Some (record k { phase = Waiting object; queue = order }) in
    priority_passed t other b (written b t o (to_back t b.order) (to_back t b.since)) (others_of b t o) (never_waits b t other o (other_object object other apart)) refl ∙ priority_absent b t other idle)
priority_wait_elsewhere b t object other order (negsuc n) apart idle = entry_cases (λ c. priority_queue c other ≡ priority_queue b other) (task_at b t) b _ refl
    (λ k at. let o : Option Task = Some (record k { phase = Waiting object; queue = order }) in
    priority_passed t other b (written b t o (to_back t b.order) (to_back t b.since)) (others_of b t o) (never_waits b t other o (other_object object other apart)) refl ∙ priority_absent b t other idle)

-- ---- a task leaves

none_waits : (o : Option Task) (object : ℕ) → o ≡ None → waiting_in object o ≡ false
none_waits o object none = ap (waiting_in object) none

idle_row : (o : Option Task) (object : ℕ) (k : Task) → o ≡ Some k → is_waiting_phase k.phase ≡ false → waiting_in object o ≡ false
idle_row o object k at idle = ap (waiting_in object) at ∙ idle_phase k.phase object idle

fifo_release_if : (b : Base) (t object : ℕ) (result : Answer) (k : Task) (waits : Bool) → is_waiting_phase k.phase ≡ waits → task_at b t ≡ Some k →
    fifo_queue (cond waits (record (with_task (drop_wait b t) t (record k { phase = Ready })) { order = cond (k.suspensions == 0) (to_back t b.order) b.order; released = recorded t result b.released }) b) object ≡ without t (fifo_queue b object)
fifo_release_if b t object result k false waits at = sym (fifo_absent b t object (idle_row (task_at b t) object k at waits))
fifo_release_if b t object result k true waits at = fifo_left t object b (written b t (Some (record k { phase = Ready })) b.order b.since) (others_of b t (Some (record k { phase = Ready }))) (never_waits b t object (Some (record k { phase = Ready })) refl) refl

-- a task whose wait ends is in no queue, and all others stand as they stood
pub fifo_release : (b : Base) (t object : ℕ) (result : Answer) → fifo_queue (release b t result) object ≡ without t (fifo_queue b object)
fifo_release b t object result = entry_split (λ c. fifo_queue c object ≡ without t (fifo_queue b object)) (task_at b t) b _
    (λ none. sym (fifo_absent b t object (none_waits (task_at b t) object none)))
    (λ k at. fifo_release_if b t object result k (is_waiting_phase k.phase) refl at)

priority_release_to : (b : Base) (t object : ℕ) (result : Answer) (k : Task) (free : Bool) →
    priority_queue (record (with_task (drop_wait b t) t (record k { phase = Ready })) { order = cond free (to_back t b.order) b.order; released = recorded t result b.released }) object ≡ without t (priority_queue b object)
priority_release_to b t object result k false = priority_left t object b (written b t (Some (record k { phase = Ready })) b.order b.since) (others_of b t (Some (record k { phase = Ready }))) (never_waits b t object (Some (record k { phase = Ready })) refl) refl
priority_release_to b t object result k true = priority_passed t object b (written b t (Some (record k { phase = Ready })) (to_back t b.order) b.since) (others_of b t (Some (record k { phase = Ready }))) (never_waits b t object (Some (record k { phase = Ready })) refl) refl

priority_release_if : (b : Base) (t object : ℕ) (result : Answer) (k : Task) (waits : Bool) → is_waiting_phase k.phase ≡ waits → task_at b t ≡ Some k →
    priority_queue (cond waits (record (with_task (drop_wait b t) t (record k { phase = Ready })) { order = cond (k.suspensions == 0) (to_back t b.order) b.order; released = recorded t result b.released }) b) object ≡ without t (priority_queue b object)
priority_release_if b t object result k false waits at = sym (priority_absent b t object (idle_row (task_at b t) object k at waits))
priority_release_if b t object result k true waits at = priority_release_to b t object result k (k.suspensions == 0)

pub priority_release : (b : Base) (t object : ℕ) (result : Answer) → priority_queue (release b t result) object ≡ without t (priority_queue b object)
priority_release b t object result = entry_split (λ c. priority_queue c object ≡ without t (priority_queue b object)) (task_at b t) b _
    (λ none. sym (priority_absent b t object (none_waits (task_at b t) object none)))
    (λ k at. priority_release_if b t object result k (is_waiting_phase k.phase) refl at)

-- the same in the order that the object's attribute says
pub queue_release : (order : Order) (b : Base) (t object : ℕ) (result : Answer) → queue order (release b t result) object ≡ without t (queue order b object)
queue_release Fifo b t object result = fifo_release b t object result
queue_release Priority b t object result = priority_release b t object result

-- and so is one that ends
pub fifo_dormant : (b : Base) (t object : ℕ) → fifo_queue (make_dormant b t) object ≡ without t (fifo_queue b object)
fifo_dormant b t object = entry_split (λ c. fifo_queue c object ≡ without t (fifo_queue b object)) (task_at b t) b _
    (λ none. sym (fifo_absent b t object (none_waits (task_at b t) object none)))
    (λ k at. let o : Option Task = Some (record k { phase = Dormant; base = k.initial; current = k.initial; wakeups = 0; suspensions = 0 }) in fifo_left t object b (written b t o b.order b.since) (others_of b t o) (never_waits b t object o refl) refl)

pub priority_dormant : (b : Base) (t object : ℕ) → priority_queue (make_dormant b t) object ≡ without t (priority_queue b object)
priority_dormant b t object = entry_split (λ c. priority_queue c object ≡ without t (priority_queue b object)) (task_at b t) b _
    (λ none. sym (priority_absent b t object (none_waits (task_at b t) object none)))
    (λ k at. let o : Option Task = Some (record k { phase = Dormant; base = k.initial; current = k.initial; wakeups = 0; suspensions = 0 }) in priority_left t object b (written b t o b.order b.since) (others_of b t o) (never_waits b t object o refl) refl)

-- ---- a current priority changes

same_waits : (b : Base) (t object : ℕ) (k : Task) (o : Option Task) → task_at b t ≡ Some k → waiting_in object o ≡ waits_in object k.phase → (u : ℕ) → waiting_in object (entry (slice_set b.tasks t o) u) ≡ waits_for b object u
same_waits b t object k o at same = entry_each (λ u now. waiting_in object now ≡ waits_for b object u) b.tasks t o (ap (waiting_in object) (entry_there b.tasks t k o at) ∙ same ∙ ap (waiting_in object) (sym at)) (λ u apart. refl)

-- the order of the waits doesn't know of priorities
pub fifo_current : (b : Base) (t priority object : ℕ) → fifo_queue (set_current b t priority) object ≡ fifo_queue b object
fifo_current b t priority object = entry_cases (λ c. fifo_queue c object ≡ fifo_queue b object) (task_at b t) b _ refl
    (λ k at. filter_alike (waits_for b object) (waits_for (written b t (Some (record k { current = priority })) b.order b.since) object) b.since (same_waits b t object k (Some (record k { current = priority })) at refl))

-- in a queue by priority the task goes behind its new equals
pub priority_current : (b : Base) (t priority object : ℕ) → waits_for b object t ≡ true → priority_queue (set_current b t priority) object ≡ insert_behind (current (set_current b t priority)) t (without t (priority_queue b object))
priority_current b t priority object waits = entry_split (λ c. priority_queue c object ≡ insert_behind (current c) t (without t (priority_queue b object))) (task_at b t) b _
    (λ none. let idle = none_waits (task_at b t) object none in absurd (cc (waits, idle)))
    (λ k at. let o : Option Task = Some (record k { current = priority }) in priority_joined t object b (written b t o (to_back t b.order) b.since) (others_of b t o) (same_waits b t object k o at refl t ∙ waits) refl)

-- every other object's queue stays
pub priority_elsewhere : (b : Base) (t priority object : ℕ) → waits_for b object t ≡ false → priority_queue (set_current b t priority) object ≡ priority_queue b object
priority_elsewhere b t priority object idle = entry_cases (λ c. priority_queue c object ≡ priority_queue b object) (task_at b t) b _ refl
    (λ k at. let o : Option Task = Some (record k { current = priority }) in priority_passed t object b (written b t o (to_back t b.order) b.since) (others_of b t o) (same_waits b t object k o at refl t ∙ idle) refl ∙ priority_absent b t object idle)
