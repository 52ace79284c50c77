-- Who is found first: the object that serves, the task that a queue has in front, and the order that a table says.
use Rattle.std.proofs.Common.{◌≡◌, ℕ, ◌+◌, ◌≤◌, length, Bool, true, false, List, [], ◌∷◌, Option, Some, None, refl, cond, ◌∙◌, ap, sym, subst, arith}
use Rattle.std.specs.Prelude.{slice_set}
use Rattle.std.specs.List.{find}
use Rattle.std.specs.Option.{option_map, option_or}
use Rattle.std.proofs.lemmas.Bool.Decides.{nat_tests}
use Rattle.tk_types.specs.declared.answer.Answer.{Answer}
use Rattle.tk_types.specs.declared.task.Order.{Order}
use Rattle.tk_types.specs.declared.task.Phase.{Phase}
use Rattle.tk_types.specs.declared.task.Phase.TheVariants.{Dormant, Ready, Waiting}
use Rattle.tk_types.specs.declared.task.Task.{Task}
use Rattle.kernel_model.specs.LawWords.Once.{times}
use Rattle.kernel_model.specs.Words.Orders.{entry, taken_from}
use Rattle.kernel_model.specs.Tasks.Base.{Base, queue, release, task_at, waiting_in, waits_for, waits_in}
use Rattle.object_model.specs.Servings.{first_serving}
use Rattle.kernel_lemmas.proofs.Tables.{entry_each, entry_there}
use Rattle.kernel_lemmas.proofs.Releases.{release_others}
use Rattle.call_lemmas.proofs.Picks.{apart_from_first, apart_from_rest}
use Rattle.call_lemmas.proofs.Serving.{queue_absent}

-- ---- the first object that serves

-- one of the objects with an ID from 1 to a number serves
pub record IsFrom {A : Type 0} (most : ℕ) (serve : ℕ → Option A) (found : A) : Type 0 where
  pub id : ℕ
  pub least : 1 ≤ id
  pub greatest : id ≤ most
  pub at : serve id ≡ Some found

first_or : {A : Type 0} → (most : ℕ) (serve : ℕ → Option A) (found : A) (id : ℕ) (here later : Option A) → serve id ≡ here → 1 ≤ id → id ≤ most → option_or here later ≡ Some found → (later ≡ Some found → IsFrom most serve found) → IsFrom most serve found
first_or most serve found id (Some now) later is least greatest same rest = record { id = id; least = least; greatest = greatest; at = is ∙ same }
first_or most serve found id None later is least greatest same rest = rest same

first_within : {A B : Type 0} → (most : ℕ) (serve : ℕ → Option A) (found : A) (id : ℕ) (slots : List (Option B)) → 1 ≤ id → id + length slots ≤ most + 1 → first_serving serve (taken_from id slots) ≡ Some found → IsFrom most serve found
unfolding first_serving
first_within most serve found id [] least room is = absurd (cc is)
first_within most serve found id (None ∷ slots) least room is = first_within most serve found (id + 1) slots (omega arith) (omega (arith, room)) is
first_within most serve found id (Some k ∷ slots) least room is =
    first_or most serve found id (serve id) (first_serving serve (taken_from (id + 1) slots)) refl least (omega (arith, room)) is
    (λ later. first_within most serve found (id + 1) slots (omega arith) (omega (arith, room)) later)

-- what serves first is one of the IDs that are taken
pub first_from : {A B : Type 0} → (serve : ℕ → Option A) (found : A) (slots : List (Option B)) → first_serving serve (taken_from 1 slots) ≡ Some found → IsFrom (length slots) serve found
first_from serve found slots is = first_within (length slots) serve found 1 slots (omega arith) (omega arith) is

-- ---- who stands in a queue

waits_if : (b : Base) (object t : ℕ) (test : Bool) → waits_for b object t ≡ test → (waits_for b object t ≡ false → ⊥) → waits_for b object t ≡ true
waits_if b object t true is stands = is
waits_if b object t false is stands = absurd (stands is)

-- a task that can't be absent from a queue waits for its object
pub stands_waiting : (order : Order) (b : Base) (object t : ℕ) → (times t (queue order b object) ≡ 0 → ⊥) → waits_for b object t ≡ true
stands_waiting order b object t stands = waits_if b object t (waits_for b object t) refl (λ idle. stands (queue_absent order b t object idle))

first_stands : (t : ℕ) (ids : List ℕ) → times t (t ∷ ids) ≡ 0 → ⊥
first_stands t ids none = apart_from_first t t ids none refl

-- the first of a queue waits for its object
pub first_waits : (order : Order) (b : Base) (object t : ℕ) (rest : List ℕ) → queue order b object ≡ t ∷ rest → waits_for b object t ≡ true
first_waits order b object t rest is = stands_waiting order b object t (λ none. first_stands t rest (ap (times t) (sym is) ∙ none))

found_if : (t id : ℕ) (later : Option ℕ) (test : Bool) → (id ≡ t → ⊥) → (later ≡ Some t → ⊥) → cond test (Some id) later ≡ Some t → ⊥
found_if t id later true apart behind found = apart (cc found)
found_if t id later false apart behind found = behind found

absent_found : (passes : ℕ → Bool) (t : ℕ) (ids : List ℕ) → times t ids ≡ 0 → find passes ids ≡ Some t → ⊥
absent_found passes t [] absent found = absurd (cc found)
absent_found passes t (id ∷ ids) absent found =
    found_if t id (find passes ids) (passes id) (apart_from_first t id ids absent) (absent_found passes t ids (apart_from_rest t id ids absent)) found

-- and so does one that is found in it
pub found_waits : (order : Order) (passes : ℕ → Bool) (b : Base) (object t : ℕ) → find passes (queue order b object) ≡ Some t → waits_for b object t ≡ true
found_waits order passes b object t found = stands_waiting order b object t (λ none. absent_found passes t (queue order b object) none found)

-- ---- the order of a queue

-- a slot that is written in its own order leaves the orders of all
pub order_written : {A : Type 0} → (order : A → Order) (slots : List (Option A)) (id : ℕ) (k now : A) → entry slots id ≡ Some k → order now ≡ order k → (other : ℕ) → option_map order (entry (slice_set slots id (Some now)) other) ≡ option_map order (entry slots other)
order_written order slots id k now at same other =
    entry_each (λ i slot. option_map order slot ≡ option_map order (entry slots i)) slots id (Some now)
    (ap (option_map order) (entry_there slots id k (Some now) at) ∙ ap (λ it. Some it) same ∙ sym (ap (option_map order) at))
    (λ j apart. refl) other

-- a choice by a test is the same where both of its cases are
pub choice_same : {A : Type 0} → (test : Bool) (a b c d : A) → a ≡ c → b ≡ d → cond test a b ≡ cond test c d
choice_same true a b c d one two = one
choice_same false a b c d one two = two

-- ---- two tasks that wait

one_object : (x y : ℕ) (phase : Phase) → waits_in x phase ≡ true → waits_in y phase ≡ true → x ≡ y
one_object x y Dormant first second = absurd (cc first)
one_object x y Ready first second = absurd (cc first)
one_object x y (Waiting object) first second = let a : object ≡ x = grind (arith, nat_tests, first) in let b : object ≡ y = grind (arith, nat_tests, second) in sym a ∙ b

one_row : (x y : ℕ) (o : Option Task) → waiting_in x o ≡ true → waiting_in y o ≡ true → x ≡ y
one_row x y None first second = absurd (cc first)
one_row x y (Some k) first second = one_object x y k.phase first second

-- where two tasks wait for different objects, the end of the one's wait leaves the other waiting
pub waits_on : (b : Base) (t u x y : ℕ) (answer : Answer) → waits_for b x t ≡ true → waits_for b y u ≡ true → (x ≡ y → ⊥) → waits_for (release b t answer) y u ≡ true
waits_on b t u x y answer first second apart =
    let others : (u ≡ t → ⊥) = λ same. apart (one_row x y (task_at b t) first (subst (λ (v : ℕ). waits_for b y v ≡ true) same second)) in
    ap (waiting_in y) (release_others b t u answer others) ∙ second
