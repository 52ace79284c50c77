-- Who is picked of a queue that one more task has joined, where nobody could be picked before.
use Rattle.std.proofs.Common.{◌≡◌, ℕ, ◌+◌, Bool, true, false, ◌&&◌, ◌||◌, List, [], ◌∷◌, ◌++◌, Option, Some, None, refl, cond, ◌∙◌, ap, sym, arith}
use Rattle.std.specs.Prelude.{nat_lt}
use Rattle.std.specs.Bool.{◌==◌}
use Rattle.std.specs.List.{find}
use Rattle.std.proofs.lemmas.Bool.Decides.{nat_tests}
use Rattle.tk_types.specs.declared.task.Order.{Order}
use Rattle.tk_types.specs.declared.task.Order.TheVariants.{Fifo, Priority}
use Rattle.kernel_model.specs.LawWords.Once.{times}
use Rattle.kernel_model.specs.Words.Orders.{insert_behind}
use Rattle.kernel_model.specs.Tasks.Base.{Base, current}
use Rattle.kernel_model.specs.SemFlags.Tables.{first_if, sem_pick}
use Rattle.kernel_model.specs.SemFlags.Calls.{would_be_first}
use Rattle.kernel_lemmas.proofs.Filters.{AreSameBut}

-- the queue once the task has joined: at the end, or behind its equals
abbrev pub joined : Order → (ℕ → ℕ) → ℕ → List ℕ → List ℕ
joined Fifo key t ids = ids ++ t ∷ []
joined Priority key t ids = insert_behind key t ids

-- the task, where it passes
abbrev pub this_if : Bool → ℕ → Option ℕ
this_if passes t = cond passes (Some t) None

-- ---- a task that stands nowhere in a list

apart_if : (t id more : ℕ) (test : Bool) → (id == t) ≡ test → cond test 1 0 + more ≡ 0 → id ≡ t → ⊥
apart_if t id more true is none same = omega (arith, none)
apart_if t id more false is none same = grind (arith, nat_tests, is, same)

pub apart_from_first : (t id : ℕ) (ids : List ℕ) → times t (id ∷ ids) ≡ 0 → id ≡ t → ⊥
apart_from_first t id ids none = apart_if t id (times t ids) (id == t) refl none

pub apart_from_rest : (t id : ℕ) (ids : List ℕ) → times t (id ∷ ids) ≡ 0 → times t ids ≡ 0
apart_from_rest t id ids none = omega (arith, none)

-- ---- a list of which nobody passes

first_fails_if : (id : ℕ) (later : Option ℕ) (test : Bool) → cond test (Some id) later ≡ None → test ≡ false
first_fails_if id later true none = absurd (cc none)
first_fails_if id later false none = refl

later_fail_if : (id : ℕ) (later : Option ℕ) (test : Bool) → cond test (Some id) later ≡ None → later ≡ None
later_fail_if id later true none = absurd (cc none)
later_fail_if id later false none = none

passed_over : (id : ℕ) (later : Option ℕ) (test : Bool) → test ≡ false → cond test (Some id) later ≡ later
passed_over id later true fails = absurd (cc fails)
passed_over id later false fails = refl

-- a test that passes nobody whom another one fails, but for one task
abbrev pub PassesNoMore : ℕ → (ℕ → Bool) → (ℕ → Bool) → Type 0
PassesNoMore t passes passed = (u : ℕ) → (u ≡ t → ⊥) → passes u ≡ false → passed u ≡ false

-- where that task isn't there, it passes nobody either
pub find_no_more : (passes passed : ℕ → Bool) (t : ℕ) (ids : List ℕ) → PassesNoMore t passes passed → times t ids ≡ 0 → find passes ids ≡ None → find passed ids ≡ None
find_no_more passes passed t [] no_more absent none = refl
find_no_more passes passed t (id ∷ ids) no_more absent none =
    passed_over id (find passed ids) (passed id) (no_more id (apart_from_first t id ids absent) (first_fails_if id (find passes ids) (passes id) none))
    ∙ find_no_more passes passed t ids no_more (apart_from_rest t id ids absent) (later_fail_if id (find passes ids) (passes id) none)

-- and picks nobody
pub pick_no_more : (any_place : Bool) (passes passed : ℕ → Bool) (t : ℕ) (ids : List ℕ) → PassesNoMore t passes passed → times t ids ≡ 0 → sem_pick any_place passes ids ≡ None → sem_pick any_place passed ids ≡ None
pick_no_more true passes passed t ids no_more absent none = find_no_more passes passed t ids no_more absent none
pick_no_more false passes passed t [] no_more absent none = refl
pick_no_more false passes passed t (id ∷ ids) no_more absent none =
    passed_over id None (passed id) (no_more id (apart_from_first t id ids absent) (first_fails_if id None (passes id) none))

-- ---- the first that passes

find_behind : (passes passed : ℕ → Bool) (t : ℕ) (ids : List ℕ) → AreSameBut t passes passed → times t ids ≡ 0 → find passes ids ≡ None → find passed (ids ++ t ∷ []) ≡ this_if (passed t) t
find_behind passes passed t [] same absent none = refl
find_behind passes passed t (id ∷ ids) same absent none =
    passed_over id (find passed (ids ++ t ∷ [])) (passed id) (same id (apart_from_first t id ids absent) ∙ first_fails_if id (find passes ids) (passes id) none)
    ∙ find_behind passes passed t ids same (apart_from_rest t id ids absent) (later_fail_if id (find passes ids) (passes id) none)

find_if : (passed : ℕ → Bool) (t id : ℕ) (ids behind : List ℕ) (before : Bool) → find passed (id ∷ ids) ≡ None → find passed (id ∷ behind) ≡ this_if (passed t) t →
    find passed (cond before (t ∷ id ∷ ids) (id ∷ behind)) ≡ this_if (passed t) t
find_if passed t id ids behind true none later = ap (λ more. cond (passed t) (Some t) more) none
find_if passed t id ids behind false none later = later

find_inserted : (passes passed : ℕ → Bool) (key : ℕ → ℕ) (t : ℕ) (ids : List ℕ) → AreSameBut t passes passed → times t ids ≡ 0 → find passes ids ≡ None → find passed (insert_behind key t ids) ≡ this_if (passed t) t
find_inserted passes passed key t [] same absent none = refl
find_inserted passes passed key t (id ∷ ids) same absent none =
    find_if passed t id ids (insert_behind key t ids) (nat_lt (key t) (key id)) (find_no_more passes passed t (id ∷ ids) (λ u apart fails. same u apart ∙ fails) absent none)
    (passed_over id (find passed (insert_behind key t ids)) (passed id) (same id (apart_from_first t id ids absent) ∙ first_fails_if id (find passes ids) (passes id) none)
    ∙ find_inserted passes passed key t ids same (apart_from_rest t id ids absent) (later_fail_if id (find passes ids) (passes id) none))

-- the first of the queue that passes is the task that joined, if it passes
pub find_joined : (order : Order) (passes passed : ℕ → Bool) (key : ℕ → ℕ) (t : ℕ) (ids : List ℕ) → AreSameBut t passes passed → times t ids ≡ 0 → find passes ids ≡ None → find passed (joined order key t ids) ≡ this_if (passed t) t
find_joined Fifo passes passed key t ids same absent none = find_behind passes passed t ids same absent none
find_joined Priority passes passed key t ids same absent none = find_inserted passes passed key t ids same absent none

-- ---- the first of the queue, if it passes

this_both : (t : ℕ) (test other : Bool) → other ≡ true → this_if test t ≡ this_if (test && other) t
this_both t true other holds = ap (λ both. this_if both t) (sym holds)
this_both t false other holds = refl

this_none : (t : ℕ) (test other : Bool) → other ≡ false → None ≡ this_if (test && other) t
this_none t true other fails = ap (λ both. this_if both t) (sym fails)
this_none t false other fails = refl

first_if_inserted : (b : Base) (passed : ℕ → Bool) (t id : ℕ) (ids behind : List ℕ) (before : Bool) → nat_lt (current b t) (current b id) ≡ before → passed id ≡ false →
    first_if passed (cond before (t ∷ id ∷ ids) (id ∷ behind)) ≡ this_if (passed t && before) t
first_if_inserted b passed t id ids behind true is fails = this_both t (passed t) true refl
first_if_inserted b passed t id ids behind false is fails = passed_over id None (passed id) fails ∙ this_none t (passed t) false refl

-- the first of the queue that passes is the task that joined, if it passes and stands first
pub first_joined : (order : Order) (b : Base) (passes passed : ℕ → Bool) (t : ℕ) (ids : List ℕ) → AreSameBut t passes passed → times t ids ≡ 0 → first_if passes ids ≡ None →
    first_if passed (joined order (current b) t ids) ≡ this_if (passed t && would_be_first order b t ids) t
first_joined Fifo b passes passed t [] same absent none = this_both t (passed t) true refl
first_joined Priority b passes passed t [] same absent none = this_both t (passed t) true refl
first_joined Fifo b passes passed t (id ∷ ids) same absent none =
    passed_over id None (passed id) (same id (apart_from_first t id ids absent) ∙ first_fails_if id None (passes id) none) ∙ this_none t (passed t) false refl
first_joined Priority b passes passed t (id ∷ ids) same absent none =
    first_if_inserted b passed t id ids (insert_behind (current b) t ids) (nat_lt (current b t) (current b id)) refl
    (same id (apart_from_first t id ids absent) ∙ first_fails_if id None (passes id) none)

-- who is picked of the queue: the task that joined, if it passes, and if it stands first where only the first counts
pub pick_joined : (any_place : Bool) (order : Order) (b : Base) (passes passed : ℕ → Bool) (t : ℕ) (ids : List ℕ) → AreSameBut t passes passed → times t ids ≡ 0 → sem_pick any_place passes ids ≡ None →
    sem_pick any_place passed (joined order (current b) t ids) ≡ this_if (passed t && (any_place || would_be_first order b t ids)) t
pick_joined true order b passes passed t ids same absent none = find_joined order passes passed (current b) t ids same absent none ∙ this_both t (passed t) true refl
pick_joined false order b passes passed t ids same absent none = first_joined order b passes passed t ids same absent none
