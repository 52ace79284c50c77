-- Where a caller goes on as if it hadn't joined, others' waits end before that as they would after it, and every queue is the same.
use Rattle.std.proofs.Common.{◌≡◌, ℕ, zero, suc, Bool, true, false, not, cond, List, [], ◌∷◌, ◌++◌, map, Option, Some, None, refl, ◌∙◌, ap, sym, arith}
use Rattle.std.specs.Bool.{◌==◌}
use Rattle.std.specs.List.{find}
use Rattle.std.specs.Option.{option_map}
use Rattle.std.specs.Prelude.{filter, slice_set}
use Rattle.std.proofs.lemmas.Bool.Decides.{nat_tests}
use Rattle.std.proofs.lemmas.List.Elements.{filter-append}
use Rattle.tk_types.specs.declared.answer.Answer.{Answer}
use Rattle.tk_types.specs.declared.task.DueEvent.{DueEvent}
use Rattle.tk_types.specs.declared.task.Order.TheVariants.{Fifo, Priority}
use Rattle.tk_types.specs.declared.task.Phase.TheVariants.{Ready}
use Rattle.tk_types.specs.declared.task.Release.{Release}
use Rattle.tk_types.specs.declared.task.Task.{Task}
use Rattle.kernel_model.specs.Words.Events.{without_wait}
use Rattle.kernel_model.specs.Words.Orders.{sort_by, to_back, without}
use Rattle.kernel_model.specs.Tasks.Base.{Base, back_unless_suspended, current, current_in, drop_wait, is_waiting, is_waiting_phase, recorded, release, task_at, waiting_in, waits_for, waits_somewhere, with_task}
use Rattle.kernel_lemmas.proofs.Filters.{filter_alike, left_out}
use Rattle.kernel_lemmas.proofs.Sorting.{alike_filter, filters_swap, sort_alike}
use Rattle.kernel_lemmas.proofs.Tables.{entry_at, entry_cases, entry_each, entry_other, entry_same, itself}
use Rattle.mail_laws.specs.BufferTrial.{goes_on, place_back}
use Rattle.mail_laws.specs.Trial.{ended_in}
use Rattle.paragraph_laws.specs.Kept.{goes_on as goes_stamped, row_with}
use Rattle.paragraph_laws.proofs.Still.{SameQueue}

-- ---- places

-- 0 is the task again
abbrev as_task : ℕ → ℕ → ℕ
as_task t u = cond (u == 0) t u

map_append : (f : ℕ → ℕ) (xs ys : List ℕ) → map f (xs ++ ys) ≡ map f xs ++ map f ys
map_append f [] ys = refl
map_append f (x ∷ xs) ys = ap (λ more. f x ∷ more) (map_append f xs ys)

other_stays : (t v : ℕ) → (v ≡ t → ⊥) → without t (v ∷ []) ≡ v ∷ []
other_stays t v apart = let test : (v == t) ≡ false = grind (arith, nat_tests, apart) in rw test refl

unmark_step : (t v id : ℕ) (rest more : List ℕ) (none same : Bool) → (id == 0) ≡ none → (id == v) ≡ same → (v ≡ t → ⊥) → (v ≡ 0 → ⊥) →
    map (as_task t) (without v rest) ≡ without v more →
    map (as_task t) (cond (not same) (id ∷ without v rest) (without v rest)) ≡ cond (not (cond none t id == v)) (cond none t id ∷ without v more) (without v more)
unmark_step t v id rest more true true is at apart some less =
    let first : id ≡ 0 = grind (arith, nat_tests, is) in
    let second : id ≡ v = grind (arith, nat_tests, at) in
    absurd (some (sym second ∙ first))
unmark_step t v id rest more true false is at apart some less =
    let back : (t == v) ≡ false = grind (arith, nat_tests, apart) in
    rw (is, back) (ap (λ ids. t ∷ ids) less)
unmark_step t v id rest more false true is at apart some less = rw at less
unmark_step t v id rest more false false is at apart some less = rw (is, at) (ap (λ ids. id ∷ ids) less)

unmark_without : (t v : ℕ) (ids : List ℕ) → (v ≡ t → ⊥) → (v ≡ 0 → ⊥) → map (as_task t) (without v ids) ≡ without v (map (as_task t) ids)
unmark_without t v [] apart some = refl
unmark_without t v (id ∷ ids) apart some =
    unmark_step t v id ids (map (as_task t) ids) (id == 0) (id == v) refl refl apart some (unmark_without t v ids apart some)

-- another task that takes the last place
place_out : (t v : ℕ) (order : List ℕ) → (v ≡ t → ⊥) → (v ≡ 0 → ⊥) → place_back t (to_back v order) ≡ to_back v (place_back t order)
place_out t v order apart some =
    let is_none : (v == 0) ≡ false = grind (arith, nat_tests, some) in
    ap (map (as_task t)) (filter-append (λ u. not (u == t)) (without v order) (v ∷ []) ∙ ap (λ last. without t (without v order) ++ last) (other_stays t v apart))
    ∙ map_append (as_task t) (without t (without v order)) (v ∷ [])
    ∙ ap (λ front. front ++ map (as_task t) (v ∷ []))
    (ap (map (as_task t)) (filters_swap (λ u. not (u == t)) (λ u. not (u == v)) order) ∙ unmark_without t v (without t order) apart some)
    ∙ ap (λ test. without v (map (as_task t) (without t order)) ++ cond test t v ∷ []) is_none

unless_out : (t v : ℕ) (order : List ℕ) (free : Bool) → (v ≡ t → ⊥) → (v ≡ 0 → ⊥) →
    place_back t (cond free (to_back v order) order) ≡ cond free (to_back v (place_back t order)) (place_back t order)
unless_out t v order true apart some = place_out t v order apart some
unless_out t v order false apart some = refl

-- ---- rows and records

rows_swap : (xs : List (Option Task)) (v t : ℕ) (first second : Option Task) → (v ≡ t → ⊥) → slice_set (slice_set xs v first) t second ≡ slice_set (slice_set xs t second) v first
rows_swap [] v t first second apart = refl
rows_swap (x ∷ xs) zero zero first second apart = absurd (apart refl)
rows_swap (x ∷ xs) zero (suc t) first second apart = refl
rows_swap (x ∷ xs) (suc v) zero first second apart = refl
rows_swap (x ∷ xs) (suc v) (suc t) first second apart = ap (λ rest. x ∷ rest) (rows_swap xs v t first second (λ e. apart (ap (λ n. suc n) e)))

abbrev pub others : ℕ → List Release → List Release
others t released = filter (λ (r : Release). not (r.task == t)) released

one_out : (t v : ℕ) (answer : Answer) → (v ≡ t → ⊥) → others t (record { task = v; answer = answer } ∷ []) ≡ record { task = v; answer = answer } ∷ []
one_out t v answer apart = let test : (v == t) ≡ false = grind (arith, nat_tests, apart) in rw test refl

recorded_out : (t v : ℕ) (answer : Answer) (released : List Release) → (v ≡ t → ⊥) → others t (recorded v answer released) ≡ recorded v answer (others t released)
recorded_out t v answer released apart =
    filter-append (λ (r : Release). not (r.task == t)) (others v released) (record { task = v; answer = answer } ∷ [])
    ∙ ap (λ last. others t (others v released) ++ last) (one_out t v answer apart)
    ∙ ap (λ front. front ++ record { task = v; answer = answer } ∷ []) (filters_swap (λ (r : Release). not (r.task == t)) (λ (r : Release). not (r.task == v)) released)

-- ---- the end of another task's wait

-- a task whose wait has ended
unfoldable pub ended : Base → ℕ → Task → Answer → Base
ended b u k result = record (with_task (drop_wait b u) u (record k { phase = Ready })) {
  order = back_unless_suspended u k.suspensions b.order;
  released = recorded u result b.released;
}

when : {A : Type 0} → (test : Bool) (x y : A) → test ≡ true → cond test x y ≡ x
when true x y is = refl
when false x y is = absurd (cc is)

-- the end of a wait, written out
pub release_is : (b : Base) (u : ℕ) (k : Task) (result : Answer) → task_at b u ≡ Some k → is_waiting_phase k.phase ≡ true → release b u result ≡ ended b u k result
unfolding ended
release_is b u k result at waits = entry_at (λ c. c ≡ ended b u k result) (task_at b u) k b _ at (when (is_waiting_phase k.phase) (ended b u k result) b waits)

-- the parts of a base that change
abbrev with_these : Base → Base → List DueEvent → List (Option Task) → List ℕ → List Release → Base
with_these old c events tasks order released = record c {
  tasks = tasks;
  order = order;
  since = old.since;
  events = events;
  made = old.made;
  cur = old.cur;
  released = released;
}

same_these : (old c : Base) (events : List DueEvent) (tasks tasks' : List (Option Task)) (order order' : List ℕ) (released released' : List Release) →
    tasks ≡ tasks' → order ≡ order' → released ≡ released' → with_these old c events tasks order released ≡ with_these old c events tasks' order' released'
same_these old c events tasks tasks' order order' released released' rows places records =
    ap (λ it. with_these old c events it order released) rows
    ∙ ap (λ it. with_these old c events tasks' it released) places
    ∙ ap (with_these old c events tasks' order') records

-- the wait of another task ends before the caller goes on as it does after it
pub goes_released : (old c : Base) (t v : ℕ) (answer : Answer) (k : Task) → (v ≡ t → ⊥) → (v ≡ 0 → ⊥) → task_at c v ≡ Some k → is_waiting_phase k.phase ≡ true →
    goes_on old (release c v answer) t ≡ release (goes_on old c t) v answer
unfolding ended
goes_released old c t v answer k apart some at waits =
    ap (λ d. goes_on old d t) (release_is c v k answer at waits)
    ∙ same_these old c (without_wait v c.events) _ _ _ _ _ _
    (rows_swap c.tasks v t (Some (record k { phase = Ready })) (task_at old t) apart)
    (unless_out t v c.order (k.suspensions == 0) apart some)
    (recorded_out t v answer c.released apart)
    ∙ sym (release_is (goes_on old c t) v k answer (entry_other c.tasks t v (task_at old t) apart ∙ at) waits)

-- ---- the answer of a wait that is over

find_step : (t v : ℕ) (r last : Release) (rest kept : List Release) (same : Bool) → (r.task == v) ≡ same → (v ≡ t → ⊥) →
    find (λ (it : Release). it.task == t) (kept ++ last ∷ []) ≡ find (λ (it : Release). it.task == t) rest →
    find (λ (it : Release). it.task == t) (cond (not same) (r ∷ kept) kept ++ last ∷ []) ≡ find (λ (it : Release). it.task == t) (r ∷ rest)
find_step t v r last rest kept true is apart more =
    let at : r.task ≡ v = grind (arith, nat_tests, is) in
    let test : (r.task == t) ≡ false = grind (arith, nat_tests, at, apart) in
    rw test more
find_step t v r last rest kept false is apart more = ap (λ found. cond (r.task == t) (Some r) found) more

find_recorded : (t v : ℕ) (answer : Answer) (released : List Release) → (v ≡ t → ⊥) →
    find (λ (r : Release). r.task == t) (recorded v answer released) ≡ find (λ (r : Release). r.task == t) released
find_recorded t v answer [] apart = let test : (v == t) ≡ false = grind (arith, nat_tests, apart) in rw test refl
find_recorded t v answer (r ∷ rest) apart =
    find_step t v r (record { task = v; answer = answer }) rest (others v rest) (r.task == v) refl apart (find_recorded t v answer rest apart)

kept_if : (c : Base) (t v : ℕ) (answer : Answer) (k : Task) (waits : Bool) → (v ≡ t → ⊥) → ended_in t (cond waits (ended c v k answer) c) ≡ ended_in t c
unfolding ended
kept_if c t v answer k true apart =
    ap (λ slot. cond (waits_somewhere slot) None (option_map (λ (r : Release). r.answer) (find (λ (r : Release). r.task == t) (recorded v answer c.released))))
    (entry_other c.tasks v t (Some (record k { phase = Ready })) (λ e. apart (sym e)))
    ∙ ap (λ found. cond (is_waiting c t) None (option_map (λ (r : Release). r.answer) found)) (find_recorded t v answer c.released apart)
kept_if c t v answer k false apart = refl

-- the end of another task's wait leaves it
pub ended_kept : (c : Base) (t v : ℕ) (answer : Answer) → (v ≡ t → ⊥) → ended_in t (release c v answer) ≡ ended_in t c
unfolding ended
ended_kept c t v answer apart = entry_cases (λ d. ended_in t d ≡ ended_in t c) (task_at c v) c _ refl (λ k at. kept_if c t v answer k (is_waiting_phase k.phase) apart)

-- ---- queues

-- the caller waits for nothing, neither before nor now, and neither does 0; the beginnings of the others' waits are as before
pub record IsIdle (old c : Base) (t : ℕ) : Type 0 where
  pub before : (object : ℕ) → waits_for old object t ≡ false
  pub now : (object : ℕ) → waits_for c object t ≡ false
  pub none : (object : ℕ) → waits_for c object 0 ≡ false
  pub since : without t c.since ≡ without t old.since

same_waits : (old c : Base) (t object : ℕ) → IsIdle old c t → (u : ℕ) → waits_for (goes_on old c t) object u ≡ waits_for c object u
same_waits old c t object is =
    entry_each (λ u slot. waiting_in object slot ≡ waits_for c object u) c.tasks t (task_at old t)
    (entry_same (λ slot. waiting_in object slot ≡ waits_for c object t) c.tasks t (task_at old t) (is.before object ∙ sym (is.now object)) (sym (is.now object)))
    (λ u apart. refl)

unmarked_step : (passes : ℕ → Bool) (t id : ℕ) (rest more : List ℕ) (none : Bool) → (id == 0) ≡ none → passes t ≡ false → passes 0 ≡ false → filter passes more ≡ filter passes rest →
    filter passes (cond none t id ∷ more) ≡ filter passes (id ∷ rest)
unmarked_step passes t id rest more true is own zero_fails less =
    let first : id ≡ 0 = grind (arith, nat_tests, is) in
    let fails : passes id ≡ false = ap passes first ∙ zero_fails in
    rw (own, fails) less
unmarked_step passes t id rest more false is own zero_fails less = ap (λ kept. cond (passes id) (id ∷ kept) kept) less

filter_unmarked : (passes : ℕ → Bool) (t : ℕ) (ids : List ℕ) → passes t ≡ false → passes 0 ≡ false → filter passes (map (as_task t) ids) ≡ filter passes ids
filter_unmarked passes t [] own zero_fails = refl
filter_unmarked passes t (id ∷ ids) own zero_fails =
    unmarked_step passes t id ids (map (as_task t) ids) (id == 0) refl own zero_fails (filter_unmarked passes t ids own zero_fails)

passes_apart : (passes : ℕ → Bool) (t u : ℕ) → passes t ≡ false → passes u ≡ true → u ≡ t → ⊥
passes_apart passes t u fails is same = let other : passes u ≡ false = ap passes same ∙ fails in cc (is, other)

-- every queue is the same where the caller goes on
pub goes_queue : (old c : Base) (t object : ℕ) → IsIdle old c t → SameQueue c (goes_on old c t) object
goes_queue old c t object is Fifo =
    let passes : ℕ → Bool = waits_for c object in
    filter_alike passes (waits_for (goes_on old c t) object) old.since (same_waits old c t object is)
    ∙ sym (left_out passes t old.since (is.now object))
    ∙ ap (filter passes) (sym is.since)
    ∙ left_out passes t c.since (is.now object)
goes_queue old c t object is Priority =
    let passes : ℕ → Bool = waits_for c object in
    let now : Base = goes_on old c t in
    ap (sort_by (current now))
    (filter_alike passes (waits_for now object) (place_back t c.order) (same_waits old c t object is)
    ∙ filter_unmarked passes t (without t c.order) (is.now object) (is.none object)
    ∙ left_out passes t c.order (is.now object))
    ∙ sort_alike (current now) (current c) (filter passes c.order)
    (alike_filter passes (current now) (current c) c.order
    (λ u waits. ap current_in (entry_other c.tasks t u (task_at old t) (passes_apart passes t u (is.now object) waits))))

-- ---- a priority that stays

row_same : (o : Option Task) → row_with (current_in o) o ≡ o
row_same None = refl
row_same (Some k) = refl

-- the caller with a current priority, which it had or hasn't had
abbrev pub goes_as : Base → Base → ℕ → ℕ → Bool → Base
goes_as old new t priority same = record new {
  tasks = slice_set new.tasks t (row_with priority (task_at old t));
  order = cond same (place_back t new.order) (without 0 new.order);
  since = old.since;
  made = old.made;
  cur = old.cur;
  released = others t new.released;
}

-- where the caller's current priority is as before, it has its old stamp
pub same_stamp : (old new : Base) (t : ℕ) → current new t ≡ current old t → goes_stamped old new t ≡ goes_on old new t
same_stamp old new t same =
    ap (λ priority. goes_as old new t priority (priority == current old t)) same
    ∙ ap (goes_as old new t (current old t)) (itself (current old t))
    ∙ ap (λ row. record new {
      tasks = slice_set new.tasks t row;
      order = place_back t new.order;
      since = old.since;
      made = old.made;
      cur = old.cur;
      released = others t new.released;
    }) (row_same (task_at old t))
