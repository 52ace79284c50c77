-- A task that joined the waiters of a mutex that nobody owns and was served goes on where it was, with the stamp of a new priority.
use Rattle.std.proofs.Common.{◌≡◌, ℕ, zero, suc, ◌+◌, ◌-◌, ◌≤◌, Bool, true, false, not, cond, ◌&&◌, List, [], ◌∷◌, ◌++◌, map, Option, Some, None, refl, ◌∙◌, ap, sym, ℤ, pos, negsuc, arith}
use Rattle.std.specs.Bool.{◌==◌}
use Rattle.std.specs.Prelude.{drop, fold, nat_le, nat_lt, slice_set}
use Rattle.std.proofs.lemmas.Bool.Decides.{nat_tests}
use Rattle.std.proofs.lemmas.List.Elements.{filter-append}
use Rattle.tk_types.specs.declared.answer.Answer.{Answer}
use Rattle.tk_types.specs.declared.task.Order.{Order}
use Rattle.tk_types.specs.declared.task.Phase.TheVariants.{Ready, Waiting}
use Rattle.tk_types.specs.declared.task.Task.{Task}
use Rattle.kernel_model.specs.LawWords.Once.{times}
use Rattle.kernel_model.specs.Tasks.Base.{Base, base_in, current, current_in, is_dormant_phase, release, set_current, task_at}
use Rattle.kernel_model.specs.Words.Orders.{entry, taken_from, to_back, without}
use Rattle.kernel_lemmas.proofs.Tables.{entry_at, entry_there}
use Rattle.object_model.specs.declared.mutexes.Mutex.{Mutex}
use Rattle.object_model.specs.Mutexes.Priority.{capped, current_of, heir_in, is_alive, next_in_chain, refresh}
use Rattle.object_model.specs.Mutexes.Tables.{Mutexes, awaited_in, awaited_in_phase, held, mutex_at, mutex_object}
use Rattle.kernel_model.specs.SemFlags.Trial.{MayWait}
use Rattle.mail_laws.specs.BufferTrial.{MayTry, joins as joins_queue, place_kept}
use Rattle.mail_laws.proofs.Marks.{kept_last}
use Rattle.mail_laws.proofs.Returns.{alone}
use Rattle.mutex_laws.proofs.Alike.{IsLike, current_alike}
use Rattle.machine_model.specs.Events.Rest.{AreUpToDate}
use Rattle.paragraph_laws.specs.Kept.{goes_on as goes_stamped, row_with}
use Rattle.paragraph_laws.proofs.Goings.{ended, goes_as, others, release_is, same_stamp}
use Rattle.paragraph_laws.proofs.Joined.{ids_written, same_at}
use Rattle.paragraph_laws.proofs.Lending.{LendsAlike, current_lent}

-- ---- the caller has joined

set_twice : {A : Type 0} → (xs : List A) (i : ℕ) (first second : A) → slice_set (slice_set xs i first) i second ≡ slice_set xs i second
set_twice [] i first second = refl
set_twice (x ∷ xs) zero first second = refl
set_twice (x ∷ xs) (suc i) first second = ap (λ rest. x ∷ rest) (set_twice xs i first second)

-- its row while it waits, and once it was served
abbrev waiting_row : Task → ℕ → Order → Task
waiting_row row object order = record row { phase = Waiting object; queue = order }

abbrev pub served_row : Task → ℕ → Order → Task
served_row row object order = record (waiting_row row object order) { phase = Ready }

joined_tasks : (b : Base) (t object : ℕ) (order : Order) (timeout : ℤ) (try : MayTry b t) →
    (joins_queue b t object order timeout).tasks ≡ slice_set b.tasks t (Some (waiting_row try.may.row object order))
joined_tasks b t object order (pos n) try =
    entry_at (λ c. c.tasks ≡ slice_set b.tasks t (Some (waiting_row try.may.row object order))) (task_at b t) try.may.row b _ try.may.there refl
joined_tasks b t object order (negsuc n) try =
    entry_at (λ c. c.tasks ≡ slice_set b.tasks t (Some (waiting_row try.may.row object order))) (task_at b t) try.may.row b _ try.may.there refl

joined_row : (b : Base) (t object : ℕ) (order : Order) (timeout : ℤ) (try : MayTry b t) → task_at (joins_queue b t object order timeout) t ≡ Some (waiting_row try.may.row object order)
joined_row b t object order timeout try =
    ap (λ tasks. entry tasks t) (joined_tasks b t object order timeout try) ∙ entry_there b.tasks t try.may.row (Some (waiting_row try.may.row object order)) try.may.there

served_is : (b : Base) (t object : ℕ) (order : Order) (timeout : ℤ) (answer : Answer) (try : MayTry b t) →
    release (joins_queue b t object order timeout) t answer ≡ ended (joins_queue b t object order timeout) t (waiting_row try.may.row object order) answer
served_is b t object order timeout answer try = release_is (joins_queue b t object order timeout) t (waiting_row try.may.row object order) answer (joined_row b t object order timeout try) refl

pub served_tasks : (b : Base) (t object : ℕ) (order : Order) (timeout : ℤ) (answer : Answer) (try : MayTry b t) →
    (release (joins_queue b t object order timeout) t answer).tasks ≡ slice_set b.tasks t (Some (served_row try.may.row object order))
unfolding ended
served_tasks b t object order timeout answer try =
    ap (λ (c : Base). c.tasks) (served_is b t object order timeout answer try)
    ∙ ap (λ tasks. slice_set tasks t (Some (served_row try.may.row object order))) (joined_tasks b t object order timeout try)
    ∙ set_twice b.tasks t (Some (waiting_row try.may.row object order)) (Some (served_row try.may.row object order))

-- what priorities look at is as before once it was served
pub served_like : (b c : Base) (t object : ℕ) (order : Order) (may : MayWait b t) → c.tasks ≡ slice_set b.tasks t (Some (served_row may.row object order)) → IsLike b c
served_like b c t object order may written = record {
  lives = same_at is_alive b c t may.row (served_row may.row object order) written may.there (ap (λ phase. not (is_dormant_phase phase)) (sym may.ready));
  bases = same_at base_in b c t may.row (served_row may.row object order) written may.there refl;
  awaits = same_at awaited_in b c t may.row (served_row may.row object order) written may.there (ap awaited_in_phase (sym may.ready));
  ids = ap (λ tasks. taken_from 1 (drop 1 tasks)) written ∙ ids_written t b.tasks may.row (served_row may.row object order) may.there;
}

pub served_current : (b c : Base) (t object : ℕ) (order : Order) (may : MayWait b t) → c.tasks ≡ slice_set b.tasks t (Some (served_row may.row object order)) → (u : ℕ) → current c u ≡ current b u
served_current b c t object order may written = same_at current_in b c t may.row (served_row may.row object order) written may.there refl

-- ---- priorities while it waits

awaits_id : (id : ℕ) → 1 ≤ id → id ≤ 64 → awaited_in_phase (Waiting (mutex_object id)) ≡ id
awaits_id id one most =
    let inside : (nat_le 256 (255 + id) && nat_lt (255 + id) 320) ≡ true = grind (arith, nat_tests, one, most) in
    ap (λ test. cond test (255 + id - 255) 0) inside ∙ omega arith

no_heir : (inherits : Bool) (owner : ℕ) → owner ≡ 0 → cond inherits owner 0 ≡ 0
no_heir true owner none = none
no_heir false owner none = refl

-- a task that waits for no mutex lends to none
pub idle_next : (b : Base) (m : Mutexes) (t : ℕ) → MayWait b t → mutex_at m 0 ≡ None → next_in_chain b m t ≡ 0
idle_next b m t may none =
    ap (λ o. heir_in (mutex_at m (awaited_in o))) may.there
    ∙ ap (λ phase. heir_in (mutex_at m (awaited_in_phase phase))) may.ready
    ∙ ap heir_in none

joined_lends : (b : Base) (m : Mutexes) (t id : ℕ) (order : Order) (timeout : ℤ) (k : Mutex) (try : MayTry b t) → mutex_at m id ≡ Some k → k.owner ≡ 0 → mutex_at m 0 ≡ None → 1 ≤ id → id ≤ 64 →
    (u : ℕ) → LendsAlike b (joins_queue b t (mutex_object id) order timeout) m m u
joined_lends b m t id order timeout k try at free none one most u =
    let c : Base = joins_queue b t (mutex_object id) order timeout in
    let row : Task = try.may.row in
    let now : Task = waiting_row row (mutex_object id) order in
    let written = joined_tasks b t (mutex_object id) order timeout try in
    let bases = same_at base_in b c t row now written try.may.there refl in
    record {
      lives = same_at is_alive b c t row now written try.may.there (ap (λ phase. not (is_dormant_phase phase)) (sym try.may.ready));
      base = bases u;
      nexts = same_at (λ o. heir_in (mutex_at m (awaited_in o))) b c t row now written try.may.there
          (ap (λ other. heir_in (mutex_at m other)) (awaits_id id one most)
          ∙ ap heir_in at
          ∙ no_heir k.inherits k.owner free
          ∙ sym (ap (λ phase. heir_in (mutex_at m (awaited_in_phase phase))) try.may.ready ∙ ap heir_in none));
      itself = ap (λ base. fold (capped m) base (held m u)) (bases u);
      others = λ v lends. ap (λ base. fold (capped m) base (held m v)) (bases v);
      ids = ap (λ tasks. taken_from 1 (drop 1 tasks)) written ∙ ids_written t b.tasks row now try.may.there;
    }

-- each is still that of its definition
pub joined_fresh : (b : Base) (m : Mutexes) (t id : ℕ) (order : Order) (timeout : ℤ) (k : Mutex) (try : MayTry b t) → mutex_at m id ≡ Some k → k.owner ≡ 0 → mutex_at m 0 ≡ None → 1 ≤ id → id ≤ 64 →
    AreUpToDate b m → AreUpToDate (joins_queue b t (mutex_object id) order timeout) m
joined_fresh b m t id order timeout k try at free none one most up = record {
  each = λ u least.
      same_at current_in b (joins_queue b t (mutex_object id) order timeout) t try.may.row (waiting_row try.may.row (mutex_object id) order) (joined_tasks b t (mutex_object id) order timeout try) try.may.there refl u
      ∙ up.each u least
      ∙ sym (current_lent b (joins_queue b t (mutex_object id) order timeout) m m u (joined_lends b m t id order timeout k try at free none one most u));
}

-- ---- its place

marked_if : (t id : ℕ) (rest : List ℕ) (test : Bool) → (id == t) ≡ test → (id ≡ 0 → ⊥) → without 0 (map (λ u. cond (u == t) 0 u) rest) ≡ without t rest →
    without 0 (cond test 0 id ∷ map (λ u. cond (u == t) 0 u) rest) ≡ cond (not test) (id ∷ without t rest) (without t rest)
marked_if t id rest true is some more = more
marked_if t id rest false is some more = let other : (id == 0) ≡ false = grind (arith, nat_tests, some) in rw other (ap (λ ids. id ∷ ids) more)

first_some : (id : ℕ) (order : List ℕ) → times 0 (id ∷ order) ≡ 0 → id ≡ 0 → ⊥
first_some id order none same = some_if (id == 0) refl none same
  where
    some_if : (test : Bool) → (id == 0) ≡ test → cond test 1 0 + times 0 order ≡ 0 → id ≡ 0 → ⊥
    some_if true is none same = omega (arith, none)
    some_if false is none same = grind (arith, nat_tests, is, same)

rest_none : (id : ℕ) (order : List ℕ) → times 0 (id ∷ order) ≡ 0 → times 0 order ≡ 0
rest_none id order none = omega (arith, none)

marked_out : (t : ℕ) (order : List ℕ) → times 0 order ≡ 0 → without 0 (map (λ u. cond (u == t) 0 u) order) ≡ without t order
marked_out t [] none = refl
marked_out t (id ∷ order) none = marked_if t id order (id == t) refl (first_some id order none) (marked_out t order (rest_none id order none))

last_stays : (t : ℕ) → (t ≡ 0 → ⊥) → without 0 (t ∷ []) ≡ t ∷ []
last_stays t some = let test : (t == 0) ≡ false = grind (arith, nat_tests, some) in rw test refl

-- without what keeps its old place the caller stands last
kept_out : (t : ℕ) (order : List ℕ) → (t ≡ 0 → ⊥) → times 0 order ≡ 0 → without 0 (place_kept t order) ≡ to_back t order
kept_out t order some none =
    filter-append (λ u. not (u == 0)) (map (λ u. cond (u == t) 0 u) order) (t ∷ [])
    ∙ ap (λ last. without 0 (map (λ u. cond (u == t) 0 u) order) ++ last) (last_stays t some)
    ∙ ap (λ front. front ++ t ∷ []) (marked_out t order none)

served_order : (b : Base) (t object : ℕ) (order : Order) (timeout : ℤ) (answer : Answer) → (t ≡ 0 → ⊥) → MayTry b t →
    (release (joins_queue b t object order timeout) t answer).order ≡ place_kept t b.order
unfolding ended
served_order b t object order timeout answer some try =
    ap (λ (c : Base). c.order) (served_is b t object order timeout answer try) ∙ kept_last t (waiting_row try.may.row object order).suspensions b.order some

-- ---- the caller goes on

pub some_caller : (b : Base) (t : ℕ) → MayTry b t → t ≡ 0 → ⊥
some_caller b t try same = let here : task_at b 0 ≡ Some try.may.row = ap (task_at b) (sym same) ∙ try.may.there in let none = try.no_zero in cc (here, none)

abbrev shape : Base → Base → ℕ → List (Option Task) → List ℕ → Base
shape old new t tasks order = record new {
  tasks = tasks;
  order = order;
  since = old.since;
  made = old.made;
  cur = old.cur;
  released = others t new.released;
}

abbrev taken_over : Base → ℕ → Task → ℕ → Base
taken_over b t k priority = record b { tasks = slice_set b.tasks t (Some (record k { current = priority })); order = to_back t b.order }

taken_is : (b : Base) (t : ℕ) (k : Task) (priority : ℕ) → task_at b t ≡ Some k → set_current b t priority ≡ taken_over b t k priority
taken_is b t k priority at = entry_at (λ c. c ≡ taken_over b t k priority) (task_at b t) k b _ at refl

-- with a new priority it has the stamp of its change
changed_stamp : (b : Base) (t object : ℕ) (order : Order) (timeout : ℤ) (answer : Answer) (priority : ℕ) → MayTry b t → (current b t == priority) ≡ false →
    goes_stamped b (set_current (release (joins_queue b t object order timeout) t answer) t priority) t ≡ set_current b t priority
changed_stamp b t object order timeout answer priority try differs =
    let row : Task = try.may.row in
    let q : Base = release (joins_queue b t object order timeout) t answer in
    let rowq : Task = served_row row object order in
    let there : task_at q t ≡ Some rowq = ap (λ tasks. entry tasks t) (served_tasks b t object order timeout answer try) ∙ entry_there b.tasks t row (Some rowq) try.may.there in
    let now : Base = taken_over q t rowq priority in
    let has : current now t ≡ priority = ap current_in (entry_there q.tasks t rowq (Some (record rowq { current = priority })) there) in
    let other : (priority == current b t) ≡ false = grind (arith, nat_tests, differs) in
    let some : t ≡ 0 → ⊥ = some_caller b t try in
    ap (λ c. goes_stamped b c t) (taken_is q t rowq priority there)
    ∙ ap (λ it. goes_as b now t it (it == current b t)) has
    ∙ ap (goes_as b now t priority) other
    ∙ ap (λ tasks. shape b q t tasks (without 0 (to_back t q.order)))
    (ap (slice_set (slice_set q.tasks t (Some (record rowq { current = priority }))) t) (ap (row_with priority) try.may.there)
    ∙ set_twice q.tasks t (Some (record rowq { current = priority })) (Some (record row { current = priority }))
    ∙ sym (set_twice q.tasks t (task_at b t) (Some (record row { current = priority }))))
    ∙ ap (shape b q t (slice_set (slice_set q.tasks t (task_at b t)) t (Some (record row { current = priority }))))
    (ap (λ places. without 0 (to_back t places)) (served_order b t object order timeout answer some try)
    ∙ ap (without 0) (kept_last t 0 b.order some)
    ∙ kept_out t b.order some try.no_place)
    ∙ ap (λ (c : Base). record c { tasks = slice_set c.tasks t (Some (record row { current = priority })); order = to_back t b.order }) (alone b t object order timeout answer try)
    ∙ sym (taken_is b t row priority try.may.there)

stamped_if : (b : Base) (t object : ℕ) (order : Order) (timeout : ℤ) (answer : Answer) (priority : ℕ) (same : Bool) → MayTry b t → (current b t == priority) ≡ same →
    goes_stamped b (cond same (release (joins_queue b t object order timeout) t answer) (set_current (release (joins_queue b t object order timeout) t answer) t priority)) t
    ≡ cond same b (set_current b t priority)
stamped_if b t object order timeout answer priority true try is =
    same_stamp b (release (joins_queue b t object order timeout) t answer) t
    (served_current b (release (joins_queue b t object order timeout) t answer) t object order try.may (served_tasks b t object order timeout answer try) t)
    ∙ alone b t object order timeout answer try
stamped_if b t object order timeout answer priority false try is = changed_stamp b t object order timeout answer priority try is

-- the caller of a mutex that it owns now goes on with its old stamp, or with that of its change
pub stamped_back : (b : Base) (n : Mutexes) (t object : ℕ) (order : Order) (timeout : ℤ) (answer : Answer) → MayTry b t →
    goes_stamped b (refresh n (release (joins_queue b t object order timeout) t answer) t) t ≡ refresh n b t
stamped_back b n t object order timeout answer try =
    let q : Base = release (joins_queue b t object order timeout) t answer in
    let written = served_tasks b t object order timeout answer try in
    ap (λ priority. goes_stamped b (cond (current q t == priority) q (set_current q t priority)) t) (current_alike b q n t (served_like b q t object order try.may written))
    ∙ ap (λ has. goes_stamped b (cond (has == current_of b n t) q (set_current q t (current_of b n t))) t) (served_current b q t object order try.may written t)
    ∙ stamped_if b t object order timeout answer (current_of b n t) (current b t == current_of b n t) try refl
