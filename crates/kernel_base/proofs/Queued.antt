-- The queue of the ready tasks is that of the table and the order after every change of a slot.
use Rattle.std.proofs.Common.{◌≡◌, ◌≢◌, ℕ, ◌<◌, Bool, true, false, not, ◌||◌, cond, List, [], ◌∷◌, length, Option, None, map, refl, arith, ap, subst, sym, ◌∙◌, nat_lt}
use Rattle.std.specs.Bool.{◌==◌}
use Rattle.std.specs.Prelude.{slice_set, replicate}
use Rattle.std.proofs.lemmas.Bool.Decides.{nat_tests}
use Rattle.std.proofs.lemmas.List.Elements.{All-set, All-replicate}
use Rattle.std.proofs.lemmas.List.{length-replicate}
use Rattle.tk_types.specs.declared.task.Task.{Task}
use Rattle.ready_queue.specs.declared.places.ReadyTask.{ReadyTask}
use Rattle.ready_queue.specs.Queue.{holds_task, put_behind, without_task}
use Rattle.ready_queue.proofs.Keyed.{gone}
use Rattle.kernel_model.specs.Words.Orders.{entry, insert_behind, to_back, without}
use Rattle.kernel_model.specs.Tasks.Base.{current_in, may_run, ready_in}
use Rattle.kernel_lemmas.proofs.ReadyLists.{AreSameBut, alike_at, deleted_from, entry_written, priority_in, same_but_written, stopped_in_place, stopped_to_last, written_alike, written_last}
use Rattle.kernel_base.specs.Ready.{IsQueued, fits_slot, place_in, places_in, requeued}

-- ---- lists of IDs and of places

map_cond : {A B : Type 0} (f : A → B) (b : Bool) (xs ys : List A) → map f (cond b xs ys) ≡ cond b (map f xs) (map f ys)
map_cond f true xs ys = refl
map_cond f false xs ys = refl

cond_same : {A : Type 0} (b : Bool) (x y z : A) → y ≡ z → cond b x y ≡ cond b x z
cond_same true x y z same = refl
cond_same false x y z same = same

pub place_put : (tasks : List (Option Task)) (t : ℕ) (ids : List ℕ) → map (place_in tasks) (insert_behind (priority_in tasks) t ids) ≡ put_behind (place_in tasks t) (map (place_in tasks) ids)
place_put tasks t [] = refl
place_put tasks t (first ∷ rest) =
    map_cond (place_in tasks) (nat_lt (priority_in tasks t) (priority_in tasks first)) (t ∷ first ∷ rest) (first ∷ insert_behind (priority_in tasks) t rest)
    ∙ cond_same (nat_lt (priority_in tasks t) (priority_in tasks first)) (map (place_in tasks) (t ∷ first ∷ rest)) (place_in tasks first ∷ map (place_in tasks) (insert_behind (priority_in tasks) t rest)) (place_in tasks first ∷ put_behind (place_in tasks t) (map (place_in tasks) rest)) (ap (λ list. place_in tasks first ∷ list) (place_put tasks t rest))

left_step : (b : Bool) (first : ReadyTask) (id : ℕ) (rest : List ReadyTask) (left : List ℕ) (tasks : List (Option Task)) → first ≡ place_in tasks id → map (place_in tasks) left ≡ rest → map (place_in tasks) (cond b (id ∷ left) left) ≡ cond b (first ∷ rest) rest
left_step true first id rest left tasks is same = rw (is, same) refl
left_step false first id rest left tasks is same = same

pub place_left : (tasks : List (Option Task)) (t : ℕ) (ids : List ℕ) → map (place_in tasks) (without t ids) ≡ without_task t (map (place_in tasks) ids)
place_left tasks t [] = refl
place_left tasks t (id ∷ ids) = left_step (not (id == t)) (place_in tasks id) id (without_task t (map (place_in tasks) ids)) (without t ids) tasks refl (place_left tasks t ids)

elsewhere_step : (b : Bool) (id t : ℕ) (left : List ℕ) (tasks changed : List (Option Task)) → (id == t) ≡ b → AreSameBut t tasks changed → map (place_in changed) left ≡ map (place_in tasks) left → map (place_in changed) (cond (not b) (id ∷ left) left) ≡ map (place_in tasks) (cond (not b) (id ∷ left) left)
elsewhere_step true id t left tasks changed is same more = more
elsewhere_step false id t left tasks changed is same more =
    let differs : id ≢ t = λ equal. grind (arith, nat_tests, is, equal) in
    let here = same.elsewhere id differs in
    rw (here, more) refl

pub place_elsewhere : (t : ℕ) (ids : List ℕ) (tasks changed : List (Option Task)) → AreSameBut t tasks changed → map (place_in changed) (without t ids) ≡ map (place_in tasks) (without t ids)
place_elsewhere t [] tasks changed same = refl
place_elsewhere t (id ∷ ids) tasks changed same = elsewhere_step (id == t) id t (without t ids) tasks changed refl same (place_elsewhere t ids tasks changed same)

-- the places of the others stay
others_left : (t : ℕ) (tasks changed : List (Option Task)) (order : List ℕ) → AreSameBut t tasks changed → map (place_in changed) (without t (ready_in tasks order)) ≡ without_task t (places_in tasks order)
others_left t tasks changed order same = place_elsewhere t (ready_in tasks order) tasks changed same ∙ place_left tasks t (ready_in tasks order)

-- ---- a slot is written

places_stopped : (t : ℕ) (tasks changed : List (Option Task)) (order list : List ℕ) → AreSameBut t tasks changed → list ≡ without t (ready_in tasks order) → map (place_in changed) list ≡ without_task t (places_in tasks order)
places_stopped t tasks changed order list same is = ap (map (place_in changed)) is ∙ others_left t tasks changed order same

last_by : (b : Bool) (t : ℕ) (slot : Option Task) (tasks changed : List (Option Task)) (order : List ℕ) → may_run slot ≡ b → entry changed t ≡ slot → AreSameBut t tasks changed →
    places_in changed (to_back t order) ≡ cond b (put_behind (record { task = t; priority = current_in slot }) (without_task t (places_in tasks order))) (without_task t (places_in tasks order))
last_by true t slot tasks changed order runs is same =
    ap (map (place_in changed)) (written_last t tasks changed order same (ap may_run is ∙ runs))
    ∙ (place_put changed t (without t (ready_in tasks order))
    ∙ (ap (put_behind (place_in changed t)) (others_left t tasks changed order same)
    ∙ ap (λ (at : Option Task). put_behind (record { task = t; priority = current_in at }) (without_task t (places_in tasks order))) is))
last_by false t slot tasks changed order stops is same =
    places_stopped t tasks changed order (ready_in changed (to_back t order)) same (stopped_to_last t tasks changed order same (ap may_run is ∙ stops))

pub places_last : (t : ℕ) (slot : Option Task) (tasks changed : List (Option Task)) (order : List ℕ) → entry changed t ≡ slot → AreSameBut t tasks changed → places_in changed (to_back t order) ≡ requeued t slot (places_in tasks order)
places_last t slot tasks changed order is same = last_by (may_run slot) t slot tasks changed order refl is same

stays_out : (t : ℕ) (slot : Option Task) (ready : List ReadyTask) → may_run slot ≡ false → requeued t slot ready ≡ without_task t ready
stays_out t slot ready stops = rw stops refl

-- ---- the facts of the base

-- a slot is written, and its task takes the last place
pub queued_last : (t : ℕ) (slot : Option Task) (tasks : List (Option Task)) (order moved : List ℕ) (ready requeue : List ReadyTask) → t < length tasks → fits_slot slot ≡ true → IsQueued tasks order ready → requeue ≡ requeued t slot ready → moved ≡ to_back t order → IsQueued (slice_set tasks t slot) moved requeue
queued_last t slot tasks order moved ready requeue within fits is put back = record {
  priorities = All-set (λ at. fits_slot at ≡ true) tasks t slot fits is.priorities;
  places = put ∙ (ap (requeued t slot) is.places ∙ (sym (places_last t slot tasks (slice_set tasks t slot) order (entry_written t slot tasks within) (same_but_written t slot tasks)) ∙ ap (places_in (slice_set tasks t slot)) (sym back)));
}

-- a row that may not run is written
pub queued_stopped : (t : ℕ) (slot : Option Task) (tasks : List (Option Task)) (order : List ℕ) (ready requeue : List ReadyTask) → t < length tasks → fits_slot slot ≡ true → may_run slot ≡ false → IsQueued tasks order ready → requeue ≡ requeued t slot ready → IsQueued (slice_set tasks t slot) order requeue
queued_stopped t slot tasks order ready requeue within fits stops is put = record {
  priorities = All-set (λ at. fits_slot at ≡ true) tasks t slot fits is.priorities;
  places = put ∙ (stays_out t slot ready stops ∙ (ap (without_task t) is.places
      ∙ sym (places_stopped t tasks (slice_set tasks t slot) order (ready_in (slice_set tasks t slot) order) (same_but_written t slot tasks) (stopped_in_place t tasks (slice_set tasks t slot) order (same_but_written t slot tasks) (ap may_run (entry_written t slot tasks within) ∙ stops)))));
}

-- a slot is free again, and its task has no place
pub queued_erased : (t : ℕ) (tasks : List (Option Task)) (order left : List ℕ) (ready requeue : List ReadyTask) → IsQueued tasks order ready → requeue ≡ requeued t None ready → left ≡ without t order → IsQueued (slice_set tasks t None) left requeue
queued_erased t tasks order left ready requeue is put out = record {
  priorities = All-set (λ at. fits_slot at ≡ true) tasks t None refl is.priorities;
  places = put ∙ (ap (without_task t) is.places
      ∙ (sym (places_stopped t tasks (slice_set tasks t None) order (ready_in (slice_set tasks t None) (without t order)) (same_but_written t None tasks) (deleted_from t tasks (slice_set tasks t None) order (same_but_written t None tasks)))
      ∙ ap (places_in (slice_set tasks t None)) (sym out)));
}

same_places : (t : ℕ) (ids : List ℕ) (tasks changed : List (Option Task)) → ((n : ℕ) → current_in (entry changed n) ≡ current_in (entry tasks n)) → map (place_in changed) ids ≡ map (place_in tasks) ids
same_places t [] tasks changed same = refl
same_places t (id ∷ ids) tasks changed same = let here = same id in let more = same_places t ids tasks changed same in rw (here, more) refl

-- a row that may run as before, with the current priority of before, is written
pub queued_alike : (t : ℕ) (slot : Option Task) (tasks : List (Option Task)) (order : List ℕ) (ready : List ReadyTask) → t < length tasks → fits_slot slot ≡ true → may_run slot ≡ may_run (entry tasks t) → current_in slot ≡ current_in (entry tasks t) → IsQueued tasks order ready → IsQueued (slice_set tasks t slot) order ready
queued_alike t slot tasks order ready within fits runs current is =
    let changed : List (Option Task) = slice_set tasks t slot in
    let same : AreSameBut t tasks changed = same_but_written t slot tasks in
    let at : entry changed t ≡ slot = entry_written t slot tasks within in
    record {
      priorities = All-set (λ at. fits_slot at ≡ true) tasks t slot fits is.priorities;
      places = is.places ∙ sym (ap (map (place_in changed)) (written_alike t tasks changed order same (ap may_run at ∙ runs) (ap current_in at ∙ current))
          ∙ same_places t (ready_in tasks order) tasks changed (λ n. alike_at current_in t tasks changed n (n == t) refl same (ap current_in at ∙ current)));
    }

-- a task takes the last place, and its slot stays
pub queued_moved : (t : ℕ) (tasks : List (Option Task)) (order moved : List ℕ) (ready requeue : List ReadyTask) → IsQueued tasks order ready → requeue ≡ requeued t (entry tasks t) ready → moved ≡ to_back t order → IsQueued tasks moved requeue
queued_moved t tasks order moved ready requeue is put back = record {
  priorities = is.priorities;
  places = put ∙ (ap (requeued t (entry tasks t)) is.places ∙ (sym (places_last t (entry tasks t) tasks tasks order refl (record { elsewhere = λ n differs. refl })) ∙ ap (places_in tasks) (sym back)));
}

-- no task, and none is ready
queued_none : (n : ℕ) → IsQueued (replicate n None) [] []
queued_none n = record { priorities = All-replicate (λ at. fits_slot at ≡ true) n None refl; places = refl }

-- the first task
pub queued_start : (slot : Option Task) (tasks : List (Option Task)) (order : List ℕ) (none ready : List ReadyTask) → tasks ≡ replicate 256 None → fits_slot slot ≡ true → none ≡ [] → ready ≡ requeued 1 slot none → order ≡ 1 ∷ [] → IsQueued (slice_set tasks 1 slot) order ready
queued_start slot tasks order none ready free fits empty put one =
    let long : 1 < length tasks = omega (arith, ap length free, length-replicate {A = Option Task} 256 None) in
    let was : IsQueued tasks [] [] = subst (λ (table : List (Option Task)). IsQueued table [] []) (sym free) (queued_none 256) in
    queued_last 1 slot tasks [] order [] ready long fits was (put ∙ ap (requeued 1 slot) empty) one

-- ---- calls of the queue

outside_step : (b c : Bool) (first : ReadyTask) (rest left : List ReadyTask) → (b || c) ≡ false → (c ≡ false → rest ≡ left) → first ∷ rest ≡ cond (not b) (first ∷ left) left
outside_step true c first rest left outside more = absurd (cc outside)
outside_step false c first rest left outside more = ap (λ list. first ∷ list) (more outside)

-- a task that isn't inside is left out of nothing
pub not_inside : (t : ℕ) (ready : List ReadyTask) → holds_task t ready ≡ false → ready ≡ without_task t ready
not_inside t [] outside = refl
not_inside t (first ∷ rest) outside = outside_step (first.task == t) (holds_task t rest) first rest (without_task t rest) outside (not_inside t rest)

pub taken_out : (t : ℕ) (ready left : List ReadyTask) → left ≡ without_task t ready → holds_task t left ≡ false
taken_out t ready left is = ap (holds_task t) is ∙ gone (λ (place : ReadyTask). place.task) t ready
