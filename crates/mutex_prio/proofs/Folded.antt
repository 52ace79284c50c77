-- Tasks, looked at ID by ID: the priorities that are lent, and those that are taken over.
use Rattle.std.proofs.Common.{◌≡◌, ℕ, zero, suc, ◌+◌, ◌<◌, ◌≤◌, min, Bool, true, false, not, ◌&&◌, ◌||◌, List, [], ◌∷◌, Option, Some, None, refl, cond, ap, sym, ◌∙◌, subst, arith, drop, length, add-one}
use Rattle.std.specs.Bool.{◌==◌}
use Rattle.std.specs.Option.{is_some}
use Rattle.std.specs.Prelude.{filter, fold, slice_set}
use Rattle.std.proofs.Math.ListN.{length-set}
use Rattle.std.proofs.lemmas.Bool.Decides.{nat_tests}
use Rattle.std.proofs.lemmas.List.{drop_all, drop-set-lt}
use Rattle.tk_types.specs.declared.task.Task.{Task}
use Rattle.kernel_model.specs.Words.Orders.{entry, taken_from}
use Rattle.kernel_model.specs.Tasks.Base.{Base, base_of, current, set_current, task_at}
use Rattle.kernel_lemmas.proofs.Tables.{entry_cases, entry_split}
use Rattle.object_model.specs.declared.mutexes.Mutex.{Mutex}
use Rattle.object_model.specs.Mutexes.Tables.{Mutexes, awaited, mutex_at, owner_in, owner_of}
use Rattle.object_model.specs.Mutexes.Priority.{capped, chain_has, current_of, heir_in, is_alive, lends_to, lowered, next_in_chain, own, refresh}
use Rattle.mutex_prio.specs.Lent.{set_to}

-- ---- one ID further

slot_step : {A B : Type 0} (f : A → ℕ → A) (so_far : A) (id : ℕ) (slot : Option B) (rest : List (Option B)) → (slot ≡ None → f so_far id ≡ so_far) →
    fold f so_far (taken_from id (slot ∷ rest)) ≡ fold f (f so_far id) (taken_from (id + 1) rest)
slot_step f so_far id None rest none = ap (λ now. fold f now (taken_from (id + 1) rest)) (sym (none refl))
slot_step f so_far id (Some k) rest none = refl

place_step : {A B : Type 0} (f : A → ℕ → A) (so_far : A) (slots : List (Option B)) (place id : ℕ) → (entry slots place ≡ None → f so_far id ≡ so_far) →
    fold f so_far (taken_from id (drop place slots)) ≡ fold f (f so_far id) (taken_from (id + 1) (drop (suc place) slots))
place_step f so_far [] zero id none = sym (none refl)
place_step f so_far [] (suc place) id none = sym (none refl)
place_step f so_far (slot ∷ slots) zero id none = slot_step f so_far id slot slots none
place_step f so_far (slot ∷ slots) (suc place) id none = place_step f so_far slots place id none

step : {A B : Type 0} (f : A → ℕ → A) (so_far : A) (slots : List (Option B)) (id : ℕ) → (entry slots id ≡ None → f so_far id ≡ so_far) →
    fold f so_far (taken_from id (drop id slots)) ≡ fold f (f so_far id) (taken_from (id + 1) (drop (id + 1) slots))
step f so_far slots id none = place_step f so_far slots id id none ∙ ap (λ n. fold f (f so_far id) (taken_from (id + 1) (drop n slots))) (sym (add-one id))

over : {A B : Type 0} (f : A → ℕ → A) (so_far : A) (slots : List (Option B)) (id : ℕ) → length slots ≤ id → fold f so_far (taken_from id (drop id slots)) ≡ so_far
over f so_far slots id past = ap (λ rest. fold f so_far (taken_from id rest)) (drop_all id slots past)

-- ---- priorities that are lent

lowered_none : (b : Base) (m : Mutexes) (t least u : ℕ) → task_at b u ≡ None → lowered b m t least u ≡ least
lowered_none b m t least u none = ap (λ alive. cond (alive && chain_has (next_in_chain b m) t 255 u) (min (own b m u) least) least) (ap is_alive none)

pub lowered_further : (b : Base) (m : Mutexes) (t least now u all : ℕ) → now ≡ lowered b m t least u → fold (lowered b m t) least (taken_from u (drop u b.tasks)) ≡ all →
    fold (lowered b m t) now (taken_from (u + 1) (drop (u + 1) b.tasks)) ≡ all
lowered_further b m t least now u all is left =
    ap (λ n. fold (lowered b m t) n (taken_from (u + 1) (drop (u + 1) b.tasks))) is
    ∙ sym (step (lowered b m t) least b.tasks u (lowered_none b m t least u))
    ∙ left

pub lowered_over : (b : Base) (m : Mutexes) (t least u all : ℕ) → length b.tasks ≤ u → fold (lowered b m t) least (taken_from u (drop u b.tasks)) ≡ all → least ≡ all
lowered_over b m t least u all past left = sym (over (lowered b m t) least b.tasks u past) ∙ left

-- ---- priorities that are taken over

same_either : (b : Base) (test : Bool) → cond test b b ≡ b
same_either b true = refl
same_either b false = refl

-- a task that doesn't exist takes nothing over
pub refresh_none : (b : Base) (m : Mutexes) (u : ℕ) → task_at b u ≡ None → refresh m b u ≡ b
refresh_none b m u none =
    ap (λ changed. cond (current b u == current_of b m u) b changed) (entry_split (λ c. c ≡ b) (task_at b u) b _ (λ free. refl) (λ k there. absurd (cc (none, there))))
    ∙ same_either b (current b u == current_of b m u)

pub set_none : (b : Base) (u n : ℕ) → is_some (task_at b u) ≡ false → b ≡ set_to b u n
set_none b u n none = sym (set_free b u n (free_by (task_at b u) none))
  where
    free_by : (o : Option Task) → is_some o ≡ false → o ≡ None
    free_by None is = refl
    free_by (Some k) is = absurd (cc is)

    set_free : (b : Base) (u n : ℕ) → task_at b u ≡ None → set_to b u n ≡ b
    set_free b u n none = ap (λ changed. cond (current b u == n) b changed) (entry_split (λ c. c ≡ b) (task_at b u) b _ (λ free. refl) (λ k there. absurd (cc (none, there)))) ∙ same_either b (current b u == n)

written_later : (b : Base) (u n : ℕ) → drop (u + 1) (set_current b u n).tasks ≡ drop (u + 1) b.tasks
written_later b u n = entry_cases (λ c. drop (u + 1) c.tasks ≡ drop (u + 1) b.tasks) (task_at b u) b _ refl (λ k at. drop-set-lt (u + 1) b.tasks u (Some (record k { current = n })) (omega arith))

later_if : (b : Base) (u n : ℕ) (same : Bool) → drop (u + 1) (cond same b (set_current b u n)).tasks ≡ drop (u + 1) b.tasks
later_if b u n true = refl
later_if b u n false = written_later b u n

written_long : (b : Base) (u n : ℕ) → length (set_current b u n).tasks ≡ length b.tasks
written_long b u n = entry_cases (λ c. length c.tasks ≡ length b.tasks) (task_at b u) b _ refl (λ k at. length-set b.tasks u (Some (record k { current = n })))

long_if : (b : Base) (u n : ℕ) (same : Bool) → length (cond same b (set_current b u n)).tasks ≡ length b.tasks
long_if b u n true = refl
long_if b u n false = written_long b u n

pub refresh_long : (b c : Base) (m : Mutexes) (u : ℕ) → c ≡ refresh m b u → length c.tasks ≡ length b.tasks
refresh_long b c m u is = ap (λ d. length d.tasks) is ∙ long_if b u (current_of b m u) (current b u == current_of b m u)

-- what is left to take over, where the slots are those of the base as it is now
abbrev pub left_from : Mutexes → ℕ → Base → Base
left_from m u b = fold (refresh m) b (taken_from u (drop u b.tasks))

pub refresh_further : (b c : Base) (m : Mutexes) (u : ℕ) (all : Base) → c ≡ refresh m b u → left_from m u b ≡ all → left_from m (u + 1) c ≡ all
refresh_further b c m u all is left =
    ap (λ d. left_from m (u + 1) d) is
    ∙ ap (λ slots. fold (refresh m) (refresh m b u) (taken_from (u + 1) slots)) (later_if b u (current_of b m u) (current b u == current_of b m u))
    ∙ sym (step (refresh m) b b.tasks u (refresh_none b m u))
    ∙ left

pub refresh_over : (b : Base) (m : Mutexes) (u : ℕ) (all : Base) → length b.tasks ≤ u → left_from m u b ≡ all → b ≡ all
refresh_over b m u all past left = sym (over (refresh m) b b.tasks u past) ∙ left

-- ---- where no mutex is locked

held_none : (m : Mutexes) (t : ℕ) → m.locks ≡ [] → filter (λ id. owner_of m id == t) m.locks ≡ []
held_none m t none = ap (λ ids. filter (λ id. owner_of m id == t) ids) none

own_base : (b : Base) (m : Mutexes) (u : ℕ) → m.locks ≡ [] → own b m u ≡ base_of b u
own_base b m u none = ap (λ ids. fold (capped m) (base_of b u) ids) (held_none m u none)

heir_if : (inherits : Bool) (owner : ℕ) → owner ≡ 0 → cond inherits owner 0 ≡ 0
heir_if true owner none = none
heir_if false owner none = refl

no_heir : (o : Option Mutex) → owner_in o ≡ 0 → heir_in o ≡ 0
no_heir None none = refl
no_heir (Some k) none = heir_if k.inherits k.owner none

chain_alone : (next : ℕ → ℕ) (t u n : ℕ) → next u ≡ 0 → chain_has next t n u ≡ true → u ≡ t
unfolding chain_has
chain_alone next t u zero none is = grind (arith, nat_tests, is)
chain_alone next t u (suc n) none is = alone (u == t) (not (next u == 0)) (chain_has next t n (next u)) refl (grind (arith, nat_tests, none)) is
  where
    alone : (same goes later : Bool) → (u == t) ≡ same → goes ≡ false → (same || (goes && later)) ≡ true → u ≡ t
    alone true goes later at stops is = grind (arith, nat_tests, at)
    alone false true later at stops is = absurd (cc stops)
    alone false false later at stops is = absurd (cc is)

second : (first second : Bool) → (first && second) ≡ true → second ≡ true
second true later is = is
second false later is = absurd (cc is)

lowered_same : (n least : ℕ) (test : Bool) → (test ≡ true → n ≡ least) → cond test (min n least) least ≡ least
lowered_same n least true same = let is = same refl in omega (arith, is)
lowered_same n least false same = refl

least_same : (b : Base) (m : Mutexes) (t least : ℕ) (ids : List ℕ) → ((u : ℕ) → lends_to b m t u ≡ true → own b m u ≡ least) → fold (lowered b m t) least ids ≡ least
least_same b m t least [] same = refl
least_same b m t least (u ∷ ids) same = ap (λ n. fold (lowered b m t) n ids) (lowered_same (own b m u) least (lends_to b m t u) (same u)) ∙ least_same b m t least ids same

either_way : (least base : ℕ) (test : Bool) → least ≡ base → cond test least base ≡ base
either_way least base true same = same
either_way least base false same = refl

-- each task has its base
pub current_unlocked : (b : Base) (m : Mutexes) (t : ℕ) → m.locks ≡ [] → ((id : ℕ) → owner_of m id ≡ 0) → current_of b m t ≡ base_of b t
unfolding current_of
current_unlocked b m t none free =
    let lent : (u : ℕ) → lends_to b m t u ≡ true → own b m u ≡ own b m t = λ u lends. ap (own b m) (chain_alone (next_in_chain b m) t u 255 (no_heir (mutex_at m (awaited b u)) (free (awaited b u))) (second (is_alive (task_at b u)) (chain_has (next_in_chain b m) t 255 u) lends)) in
    either_way (fold (lowered b m t) (own b m t) (taken_from 1 (drop 1 b.tasks))) (base_of b t) (is_alive (task_at b t)) (least_same b m t (own b m t) (taken_from 1 (drop 1 b.tasks)) lent ∙ own_base b m t none)
