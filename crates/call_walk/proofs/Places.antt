-- Each task that waits keeps its places among the stamps, through every move.
use Rattle.std.proofs.Common.{◌≡◌, ℕ, ◌+◌, ◌-◌, ◌≤◌, Bool, true, false, not, cond, List, [], ◌∷◌, Option, Some, None, refl, ◌∙◌, ap, sym, subst, arith, ℤ, pos, negsuc}
use Rattle.std.specs.Bool.{◌==◌}
use Rattle.std.specs.Prelude.{slice_set}
use Rattle.std.proofs.lemmas.Bool.Decides.{nat_tests}
use Rattle.tk_types.specs.declared.answer.Answer.{Answer}
use Rattle.tk_types.specs.declared.task.Order.{Order}
use Rattle.tk_types.specs.declared.task.Phase.{Phase}
use Rattle.tk_types.specs.declared.task.Phase.TheVariants.{Dormant, Ready, Waiting}
use Rattle.tk_types.specs.declared.task.Task.{Task}
use Rattle.kernel_model.specs.LawWords.Once.{times}
use Rattle.kernel_model.specs.Words.Orders.{entry, to_back, without}
use Rattle.kernel_model.specs.Tasks.Base.{Base, becomes_ready, create, delete, has_room, is_waiting_phase, limited, make_dormant, make_ready, make_wait, move_wait, release, resume, resumed, set_base, set_current, set_wakeups, suspend, task_at, waiting_in, waits_in}
use Rattle.kernel_model.specs.Tasks.Waits.{HavePlaces}
use Rattle.kernel_lemmas.proofs.Once.{times_append}
use Rattle.kernel_lemmas.proofs.ReadyLists.{times_filter_is}
use Rattle.kernel_lemmas.proofs.Tables.{entry_cases, entry_each, entry_same, itself}
use Rattle.call_walk.proofs.BaseMoves.{IsBaseProof, either_base}

-- ---- orders

abbrev Stands : List ℕ → ℕ → Type 0
Stands ids u = 1 ≤ times u ids

-- all but one stand in an order that stood in another one
abbrev OthersStand : ℕ → List ℕ → List ℕ → Type 0
OthersStand t ids now = (u : ℕ) → (u ≡ t → ⊥) → Stands ids u → Stands now u

same_others : (t : ℕ) (ids : List ℕ) → OthersStand t ids ids
same_others t ids u apart stands = stands

out_others : (t : ℕ) (ids : List ℕ) → OthersStand t ids (without t ids)
out_others t ids u apart stands =
    let test : (u == t) ≡ false = grind (arith, nat_tests, apart) in
    let kept : times u (without t ids) ≡ times u ids = times_filter_is (λ v. not (v == t)) u ids ∙ ap (λ is. cond (not is) (times u ids) 0) test in
    omega (arith, kept, stands)

back_others : (t : ℕ) (ids : List ℕ) → OthersStand t ids (to_back t ids)
back_others t ids u apart stands =
    let out : Stands (without t ids) u = out_others t ids u apart stands in
    let whole = times_append u (without t ids) (t ∷ []) in
    omega (arith, out, whole)

back_own : (t : ℕ) (ids : List ℕ) → Stands (to_back t ids) t
back_own t ids =
    let own : times t (t ∷ []) ≡ 1 = ap (λ is. cond is 1 0 + 0) (itself t) in
    let whole = times_append t (without t ids) (t ∷ []) in
    omega (arith, own, whole)

back_if : (t u : ℕ) (ids : List ℕ) (same : Bool) → (u == t) ≡ same → Stands ids u → Stands (to_back t ids) u
back_if t u ids true is stands = let e : t ≡ u = grind (arith, nat_tests, is) in subst (λ v. Stands (to_back t ids) v) e (back_own t ids)
back_if t u ids false is stands = back_others t ids u (λ e. grind (arith, nat_tests, is, e)) stands

-- who stands in an order stands in it once another one, or itself, has taken the last place
back_all : (t : ℕ) (ids : List ℕ) (u : ℕ) → Stands ids u → Stands (to_back t ids) u
back_all t ids u stands = back_if t u ids (u == t) refl stands

either_all : (test : Bool) (t : ℕ) (ids : List ℕ) (u : ℕ) → Stands ids u → Stands (cond test (to_back t ids) ids) u
either_all true t ids u stands = back_all t ids u stands
either_all false t ids u stands = stands

-- ---- rows

-- the task of a row has its places where it waits
abbrev IsPlaced : List ℕ → List ℕ → ℕ → Option Task → Type 0
IsPlaced order since t o = (object : ℕ) → waiting_in object o ≡ true → Stands order t × Stands since t

placed_at : (b : Base) (t : ℕ) → HavePlaces b → IsPlaced b.order b.since t (task_at b t)
placed_at b t has object waits = (has.ranks t object waits, has.stands t object waits)

all_placed : (b : Base) → ((t : ℕ) → IsPlaced b.order b.since t (task_at b t)) → HavePlaces b
all_placed b each = record {
  ranks = λ t object waits. (each t object waits).0;
  stands = λ t object waits. (each t object waits).1;
}

-- one row and the orders are written
written : (b c : Base) (t : ℕ) (o : Option Task) → c.tasks ≡ slice_set b.tasks t o → IsPlaced c.order c.since t o → OthersStand t b.order c.order → OthersStand t b.since c.since → HavePlaces b → HavePlaces c
written b c t o is own ranks stands has = all_placed c
    (subst (λ (tasks : List (Option Task)). (u : ℕ) → IsPlaced c.order c.since u (entry tasks u)) (sym is)
    (entry_each (λ u now. IsPlaced c.order c.since u now) b.tasks t o (entry_same (IsPlaced c.order c.since t) b.tasks t o own (λ object none. absurd (cc none)))
    (λ u apart object waits. (ranks u apart (has.ranks u object waits), stands u apart (has.stands u object waits)))))

-- a row is written, and the orders stay
row_written : (b c : Base) (t : ℕ) (o : Option Task) → c.tasks ≡ slice_set b.tasks t o → c.order ≡ b.order → c.since ≡ b.since → IsPlaced b.order b.since t o → HavePlaces b → HavePlaces c
row_written b c t o is order since own has =
    written b c t o is
    (subst (λ (ids : List ℕ). IsPlaced ids c.since t o) (sym order) (subst (λ (ids : List ℕ). IsPlaced b.order ids t o) (sym since) own))
    (subst (OthersStand t b.order) (sym order) (same_others t b.order))
    (subst (OthersStand t b.since) (sym since) (same_others t b.since))
    has

-- the orders grow, and the rows stay
grown : (b c : Base) → c.tasks ≡ b.tasks → ((u : ℕ) → Stands b.order u → Stands c.order u) → c.since ≡ b.since → HavePlaces b → HavePlaces c
grown b c is ranks since has = all_placed c
    (subst (λ (tasks : List (Option Task)). (u : ℕ) → IsPlaced c.order c.since u (entry tasks u)) (sym is)
    (λ u object waits. (ranks u (has.ranks u object waits), subst (λ (ids : List ℕ). Stands ids u) (sym since) (has.stands u object waits))))

-- the row of a task that is there
there : (b : Base) (t : ℕ) (k : Task) → task_at b t ≡ Some k → HavePlaces b → IsPlaced b.order b.since t (Some k)
there b t k at has = subst (IsPlaced b.order b.since t) at (placed_at b t has)

some_object : (object : ℕ) (phase : Phase) → waits_in object phase ≡ true → is_waiting_phase phase ≡ true
some_object object Ready waits = absurd (cc waits)
some_object object Dormant waits = absurd (cc waits)
some_object object (Waiting other) waits = refl

-- a task that waits for something has its places
waits_there : (order since : List ℕ) (t : ℕ) (phase : Phase) → ((object : ℕ) → waits_in object phase ≡ true → Stands order t × Stands since t) → is_waiting_phase phase ≡ true → Stands order t × Stands since t
waits_there order since t Ready has waits = absurd (cc waits)
waits_there order since t Dormant has waits = absurd (cc waits)
waits_there order since t (Waiting object) has waits = has object (itself object)

-- ---- moves

create_places : (b : Base) (t priority stack : ℕ) → HavePlaces b → HavePlaces (create b t priority stack)
create_places b t priority stack has = written b _ t _ refl (λ object waits. absurd (cc waits)) (back_others t b.order) (back_others t b.since) has

delete_places : (b : Base) (t : ℕ) → HavePlaces b → HavePlaces (delete b t)
delete_places b t has = entry_cases HavePlaces (task_at b t) b _ has (λ k at. written b _ t None refl (λ object waits. absurd (cc waits)) (out_others t b.order) (out_others t b.since) has)

ready_places : (b : Base) (t : ℕ) → HavePlaces b → HavePlaces (make_ready b t)
ready_places b t has = entry_cases HavePlaces (task_at b t) b _ has (λ k at. written b _ t _ refl (λ object waits. absurd (cc waits)) (back_others t b.order) (same_others t b.since) has)

dormant_places : (b : Base) (t : ℕ) → HavePlaces b → HavePlaces (make_dormant b t)
dormant_places b t has = entry_cases HavePlaces (task_at b t) b _ has (λ k at. row_written b _ t _ refl refl refl (λ object waits. absurd (cc waits)) has)

suspend_places : (b : Base) (t : ℕ) → HavePlaces b → HavePlaces (suspend b t)
suspend_places b t has = entry_cases HavePlaces (task_at b t) b _ has (λ k at. row_written b _ t _ refl refl refl (there b t k at has) has)

resumed_places : (b : Base) (t left : ℕ) (k : Task) → task_at b t ≡ Some k → HavePlaces b → HavePlaces (resumed b t left k)
resumed_places b t left k at has = written b _ t _ refl
    (λ object waits. (either_all (becomes_ready k.phase left) t b.order t (there b t k at has object waits).0, (there b t k at has object waits).1))
    (λ u apart stands. either_all (becomes_ready k.phase left) t b.order u stands) (same_others t b.since) has

resume_places : (b : Base) (t : ℕ) (all : Bool) → HavePlaces b → HavePlaces (resume b t all)
resume_places b t all has = entry_cases HavePlaces (task_at b t) b _ has
    (λ k at. either_base HavePlaces (k.suspensions == 0) b (resumed b t (cond all 0 (k.suspensions - 1)) k) has (resumed_places b t (cond all 0 (k.suspensions - 1)) k at has))

base_places : (b : Base) (t priority : ℕ) → HavePlaces b → HavePlaces (set_base b t priority)
base_places b t priority has = entry_cases HavePlaces (task_at b t) b _ has (λ k at. row_written b _ t _ refl refl refl (there b t k at has) has)

current_places : (b : Base) (t priority : ℕ) → HavePlaces b → HavePlaces (set_current b t priority)
current_places b t priority has = entry_cases HavePlaces (task_at b t) b _ has
    (λ k at. written b _ t _ refl (λ object waits. (back_own t b.order, (there b t k at has object waits).1)) (back_others t b.order) (same_others t b.since) has)

wakeups_places : (b : Base) (t n : ℕ) → HavePlaces b → HavePlaces (set_wakeups b t n)
wakeups_places b t n has = entry_cases HavePlaces (task_at b t) b _ has (λ k at. row_written b _ t _ refl refl refl (there b t k at has) has)

limited_places : (timeout : ℤ) (t : ℕ) (b : Base) → HavePlaces b → HavePlaces (limited timeout t b)
limited_places (pos n) t b has = record { ranks = has.ranks; stands = has.stands }
limited_places (negsuc n) t b has = has

wait_places : (b : Base) (t object : ℕ) (order : Order) (timeout : ℤ) → HavePlaces b → HavePlaces (make_wait b t object order timeout)
wait_places b t object order timeout has = entry_cases HavePlaces (task_at b t) b _ has
    (λ k at. limited_places timeout t _ (written b _ t _ refl (λ other waits. (back_own t b.order, back_own t b.since)) (back_others t b.order) (back_others t b.since) has))

moved_places : (b c : Base) (t : ℕ) (k k' : Task) (waits : Bool) → is_waiting_phase k.phase ≡ waits → task_at b t ≡ Some k → c.tasks ≡ slice_set b.tasks t (Some k') → c.order ≡ b.order → c.since ≡ b.since → HavePlaces b → HavePlaces (cond {A = Base} waits c b)
moved_places b c t k k' true waits at is order since has = row_written b c t (Some k') is order since (λ object on. waits_there b.order b.since t k.phase (there b t k at has) waits) has
moved_places b c t k k' false waits at is order since has = has

move_places : (b : Base) (t object : ℕ) (order : Order) → HavePlaces b → HavePlaces (move_wait b t object order)
move_places b t object order has = entry_cases HavePlaces (task_at b t) b _ has
    (λ k at. moved_places b _ t k (record k { phase = Waiting object; queue = order }) (is_waiting_phase k.phase) refl at refl refl refl has)

release_places : (b : Base) (t : ℕ) (answer : Answer) → HavePlaces b → HavePlaces (release b t answer)
release_places b t answer has = entry_cases HavePlaces (task_at b t) b _ has
    (λ k at. either_base HavePlaces (is_waiting_phase k.phase) _ b
    (written b _ t _ refl (λ object waits. absurd (cc waits)) (λ u apart stands. either_all (k.suspensions == 0) t b.order u stands) (same_others t b.since) has)
    has)

placed_places : (b : Base) (t : ℕ) → HavePlaces b → HavePlaces (record b { order = to_back t b.order })
placed_places b t has = grown b _ refl (back_all t b.order) refl has

-- nothing that tells who waits, and where, is written
apart_places : (b c : Base) → c.tasks ≡ b.tasks → c.order ≡ b.order → c.since ≡ b.since → HavePlaces b → HavePlaces c
apart_places b c is order since has = grown b c is (λ u stands. subst (λ (ids : List ℕ). Stands ids u) (sym order) stands) since has

-- each task that waits has its places
pub places_kept : IsBaseProof HavePlaces
places_kept = record {
  created = create_places;
  deleted = delete_places;
  readied = ready_places;
  ended = dormant_places;
  suspended = suspend_places;
  resumed = resume_places;
  based = base_places;
  refreshed = current_places;
  woken = wakeups_places;
  waits = wait_places;
  moved = move_places;
  released = release_places;
  placed = placed_places;
  taken = λ b n has. either_base HavePlaces (has_room b n) _ b (apart_places b _ refl refl refl has) has;
  given = λ b n has. apart_places b _ refl refl refl has;
  added = λ b time what has. apart_places b _ refl refl refl has;
  passed = λ b passes has. apart_places b _ refl refl refl has;
  advanced = λ b has. apart_places b _ refl refl refl has;
  due = λ b has. apart_places b _ refl refl refl has;
  flagged = λ b flags has. apart_places b _ refl refl refl has;
  turned = λ b cur has. apart_places b _ refl refl refl has;
  emptied = λ b has. apart_places b _ refl refl refl has;
}
