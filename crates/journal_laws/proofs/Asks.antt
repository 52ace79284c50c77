-- How many tasks ask for an acceptance: a wait that begins adds one at most, and no other move of the base adds any.
use Rattle.std.proofs.Common.{◌≡◌, ℕ, zero, suc, ◌+◌, ◌-◌, ◌≤◌, Bool, true, false, cond, List, [], ◌∷◌, Option, Some, None, ℤ, pos, negsuc, refl, ◌∙◌, ap, sym, arith}
use Rattle.std.specs.Bool.{◌==◌}
use Rattle.std.specs.Prelude.{slice_set}
use Rattle.std.specs.List.{slice_index_or}
use Rattle.tk_types.specs.declared.answer.Answer.{Answer}
use Rattle.tk_types.specs.declared.task.Order.{Order}
use Rattle.tk_types.specs.declared.task.Phase.TheVariants.{Ready, Waiting}
use Rattle.tk_types.specs.declared.task.Task.{Task}
use Rattle.kernel_model.specs.Words.Orders.{entry}
use Rattle.kernel_model.specs.Tasks.Base.{Base, has_room, is_waiting, is_waiting_phase, limited, make_wait, move_wait, release, resumed, task_at, waits_somewhere}
use Rattle.kernel_lemmas.proofs.Tables.{entry_cases, entry_split}
use Rattle.device_model.specs.declared.rows.Transfer.{Transfer}
use Rattle.device_model.specs.declared.rows.Wish.{Wish}
use Rattle.device_model.specs.declared.rows.Wish.TheVariants as wish
use Rattle.count_lemmas.proofs.Making.{IsMaking, IsQuiet, either_base}
use Rattle.journal_laws.specs.Owed.{asks_in, task_asks}

abbrev pub wish_in : List Wish → ℕ → Wish
wish_in wishes t = slice_index_or wishes t wish.Nothing

-- ---- one task

pub asks_none : (asked : Wish) → task_asks asked None ≡ 0
asks_none wish.Nothing = refl
asks_none (wish.Acceptance transfer stays) = refl
asks_none (wish.Ending id serial own) = refl
asks_none wish.AnyEnding = refl

test_most : (test : Bool) → cond test 1 0 ≤ 1
test_most true = omega arith
test_most false = omega arith

pub asks_most : (asked : Wish) (slot : Option Task) → task_asks asked slot ≤ 1
asks_most wish.Nothing slot = omega arith
asks_most (wish.Acceptance transfer stays) None = omega arith
asks_most (wish.Acceptance transfer stays) (Some k) = test_most (is_waiting_phase k.phase)
asks_most (wish.Ending id serial own) slot = omega arith
asks_most wish.AnyEnding slot = omega arith

-- one that doesn't wait asks for nothing
pub idle_asks : (asked : Wish) (k : Task) → is_waiting_phase k.phase ≡ false → task_asks asked (Some k) ≡ 0
idle_asks wish.Nothing k idle = refl
idle_asks (wish.Acceptance transfer stays) k idle = ap (λ test. cond test 1 0) idle
idle_asks (wish.Ending id serial own) k idle = refl
idle_asks wish.AnyEnding k idle = refl

-- one that waits asks as it did where it waited before
same_asks : (asked : Wish) (k now : Task) → is_waiting_phase now.phase ≡ is_waiting_phase k.phase → task_asks asked (Some now) ≡ task_asks asked (Some k)
same_asks wish.Nothing k now same = refl
same_asks (wish.Acceptance transfer stays) k now same = ap (λ test. cond test 1 0) same
same_asks (wish.Ending id serial own) k now same = refl
same_asks wish.AnyEnding k now same = refl

-- ---- the tables

-- a row that is written changes the count by its own
pub slot_asks : (wishes : List Wish) (slots : List (Option Task)) (t : ℕ) (now : Option Task) →
    asks_in wishes (slice_set slots t now) + task_asks (wish_in wishes t) (entry slots t) ≤ asks_in wishes slots + task_asks (wish_in wishes t) now
slot_asks [] slots t now = omega arith
slot_asks (asked ∷ later) [] t now = let none = asks_none (wish_in (asked ∷ later) t) in omega (arith, none)
slot_asks (asked ∷ later) (slot ∷ slots) zero now = omega arith
slot_asks (asked ∷ later) (slot ∷ slots) (suc t) now = let rest = slot_asks later slots t now in omega (arith, rest)

-- so does a wish
pub wish_asks : (wishes : List Wish) (slots : List (Option Task)) (t : ℕ) (now : Wish) →
    asks_in (slice_set wishes t now) slots + task_asks (wish_in wishes t) (entry slots t) ≤ asks_in wishes slots + task_asks now (entry slots t)
wish_asks [] slots t now = omega arith
wish_asks (asked ∷ later) [] zero now = let none = asks_none asked in omega (arith, none)
wish_asks (asked ∷ later) [] (suc t) now = let none = asks_none (wish_in later t) in omega (arith, none)
wish_asks (asked ∷ later) (slot ∷ slots) zero now = omega arith
wish_asks (asked ∷ later) (slot ∷ slots) (suc t) now = let rest = wish_asks later slots t now in omega (arith, rest)

-- ---- the moves of the base

-- at most so many ask
abbrev pub Asks : List Wish → ℕ → Base → Type 0
Asks wishes n b = asks_in wishes b.tasks ≤ n

-- a row of a task that doesn't wait, or of none
idle_row : (wishes : List Wish) (n : ℕ) (b : Base) (t : ℕ) (now : Option Task) → task_asks (wish_in wishes t) now ≡ 0 → Asks wishes n b → asks_in wishes (slice_set b.tasks t now) ≤ n
idle_row wishes n b t now idle few = let set = slot_asks wishes b.tasks t now in omega (arith, set, idle, few)

-- a row of one that waits as it did
same_row : (wishes : List Wish) (n : ℕ) (b : Base) (t : ℕ) (k now : Task) → task_at b t ≡ Some k → is_waiting_phase now.phase ≡ is_waiting_phase k.phase → Asks wishes n b → asks_in wishes (slice_set b.tasks t (Some now)) ≤ n
same_row wishes n b t k now at same few =
    let set = slot_asks wishes b.tasks t (Some now) in
    let there : task_asks (wish_in wishes t) (entry b.tasks t) ≡ task_asks (wish_in wishes t) (Some k) = ap (task_asks (wish_in wishes t)) at in
    let alike = same_asks (wish_in wishes t) k now same in
    omega (arith, set, there, alike, few)

-- any row
any_row : (wishes : List Wish) (n : ℕ) (b : Base) (t : ℕ) (now : Option Task) → Asks wishes n b → asks_in wishes (slice_set b.tasks t now) ≤ n + 1
any_row wishes n b t now few = let set = slot_asks wishes b.tasks t now in let most = asks_most (wish_in wishes t) now in omega (arith, set, most, few)

limited_asks : (wishes : List Wish) (n : ℕ) (timeout : ℤ) (t : ℕ) (b : Base) → Asks wishes n b → Asks wishes n (limited timeout t b)
limited_asks wishes n (pos limit) t b few = few
limited_asks wishes n (negsuc limit) t b few = few

wait_asks : (wishes : List Wish) (n : ℕ) (b : Base) (t object : ℕ) (order : Order) (timeout : ℤ) → Asks wishes n b → Asks wishes (n + 1) (make_wait b t object order timeout)
wait_asks wishes n b t object order timeout few =
    entry_cases (Asks wishes (n + 1)) (task_at b t) b _ (omega (arith, few))
    (λ k at. limited_asks wishes (n + 1) timeout t _ (any_row wishes n b t (Some (record k { phase = Waiting object; queue = order })) few))

waits_if : (wishes : List Wish) (n : ℕ) (b now : Base) (waits : Bool) → Asks wishes n b → (waits ≡ true → Asks wishes n now) → Asks wishes n (cond waits now b)
waits_if wishes n b now true few moved = moved refl
waits_if wishes n b now false few moved = few

move_asks : (wishes : List Wish) (n : ℕ) (b : Base) (t object : ℕ) (order : Order) → Asks wishes n b → Asks wishes n (move_wait b t object order)
move_asks wishes n b t object order few =
    entry_cases (Asks wishes n) (task_at b t) b _ few
    (λ k at. waits_if wishes n b _ (is_waiting_phase k.phase) few (λ waits. same_row wishes n b t k (record k { phase = Waiting object; queue = order }) at (sym waits) few))

release_asks : (wishes : List Wish) (n : ℕ) (b : Base) (t : ℕ) (answer : Answer) → Asks wishes n b → Asks wishes n (release b t answer)
release_asks wishes n b t answer few =
    entry_cases (Asks wishes n) (task_at b t) b _ few
    (λ k at. either_base (Asks wishes n) (is_waiting_phase k.phase) _ b (idle_row wishes n b t (Some (record k { phase = Ready })) (idle_asks (wish_in wishes t) (record k { phase = Ready }) refl) few) few)

-- no other move adds one
pub asks_quiet : (wishes : List Wish) (n : ℕ) → IsQuiet (Asks wishes n)
asks_quiet wishes n = record {
  created = λ b t priority stack few. idle_row wishes n b t _ (idle_asks (wish_in wishes t) _ refl) few;
  deleted = λ b t few. entry_cases (Asks wishes n) (task_at b t) b _ few (λ k at. idle_row wishes n b t None (asks_none (wish_in wishes t)) few);
  readied = λ b t few. entry_cases (Asks wishes n) (task_at b t) b _ few (λ k at. idle_row wishes n b t _ (idle_asks (wish_in wishes t) (record k { phase = Ready }) refl) few);
  ended = λ b t few. entry_cases (Asks wishes n) (task_at b t) b _ few (λ k at. idle_row wishes n b t _ (idle_asks (wish_in wishes t) _ refl) few);
  suspended = λ b t few. entry_cases (Asks wishes n) (task_at b t) b _ few (λ k at. same_row wishes n b t k (record k { suspensions = k.suspensions + 1 }) at refl few);
  resumed = λ b t all few. entry_cases (Asks wishes n) (task_at b t) b _ few
      (λ k at. either_base (Asks wishes n) (k.suspensions == 0) b (resumed b t (cond all 0 (k.suspensions - 1)) k) few (same_row wishes n b t k (record k { suspensions = cond all 0 (k.suspensions - 1) }) at refl few));
  based = λ b t priority few. entry_cases (Asks wishes n) (task_at b t) b _ few (λ k at. same_row wishes n b t k (record k { base = priority }) at refl few);
  refreshed = λ b t priority few. entry_cases (Asks wishes n) (task_at b t) b _ few (λ k at. same_row wishes n b t k (record k { current = priority }) at refl few);
  woken = λ b t requests few. entry_cases (Asks wishes n) (task_at b t) b _ few (λ k at. same_row wishes n b t k (record k { wakeups = requests }) at refl few);
  released = release_asks wishes n;
  moved = move_asks wishes n;
  placed = λ b t few. few;
  taken = λ b bytes few. either_base (Asks wishes n) (has_room b bytes) _ b few few;
  given = λ b bytes few. few;
  passed = λ b passes few. few;
  flagged = λ b flags few. few;
  turned = λ b cur few. few;
  emptied = λ b few. few;
}

-- and a wait adds one at most
pub asks_making : (wishes : List Wish) (n : ℕ) → IsMaking (Asks wishes n) (Asks wishes (n + 1))
asks_making wishes n = record {
  quiet = asks_quiet wishes n;
  more = λ b few. omega (arith, few);
  waits = wait_asks wishes n;
  added = λ b time what few. omega (arith, few);
}

-- ---- a wait that begins or ends with its wish

-- a row and a wish that are written at once
both_asks : (wishes : List Wish) (slots : List (Option Task)) (t : ℕ) (asked : Wish) (now : Option Task) →
    asks_in (slice_set wishes t asked) (slice_set slots t now) + task_asks (wish_in wishes t) (entry slots t) ≤ asks_in wishes slots + task_asks asked now
both_asks [] slots t asked now = omega arith
both_asks (first ∷ later) [] zero asked now = let none = asks_none first in omega (arith, none)
both_asks (first ∷ later) [] (suc t) asked now = let none = asks_none (wish_in later t) in omega (arith, none)
both_asks (first ∷ later) (slot ∷ slots) zero asked now = omega arith
both_asks (first ∷ later) (slot ∷ slots) (suc t) asked now = let rest = both_asks later slots t asked now in omega (arith, rest)

-- a task that asks for something and begins to wait is one more at most
pub asked_wait : (wishes : List Wish) (b : Base) (t object : ℕ) (order : Order) (timeout : ℤ) (asked : Wish) → asks_in (slice_set wishes t asked) (make_wait b t object order timeout).tasks ≤ asks_in wishes b.tasks + 1
asked_wait wishes b t object order timeout asked =
    entry_split (Asks (slice_set wishes t asked) (asks_in wishes b.tasks + 1)) (task_at b t) b _
    (λ none.
    let wished = wish_asks wishes b.tasks t asked in
    let absent : task_asks asked (entry b.tasks t) ≡ 0 = ap (task_asks asked) none ∙ asks_none asked in
    omega (arith, wished, absent))
    (λ k at.
    let now : Task = record k { phase = Waiting object; queue = order } in
    let both = both_asks wishes b.tasks t asked (Some now) in
    let most = asks_most asked (Some now) in
    limited_asks (slice_set wishes t asked) (asks_in wishes b.tasks + 1) timeout t _ (omega (arith, both, most)))

-- a task that waits for an acceptance
waiting_asks : (asked : Wish) (transfer : Transfer) (stays : Bool) (slot : Option Task) → asked ≡ wish.Acceptance transfer stays → waits_somewhere slot ≡ true → task_asks asked slot ≡ 1
waiting_asks asked transfer stays None is waits = absurd (cc waits)
waiting_asks asked transfer stays (Some k) is waits = ap (λ (it : Wish). task_asks it (Some k)) is ∙ ap (λ test. cond test 1 0) waits

chosen_base : (P : Base → Type 0) (waits : Bool) (now b : Base) → waits ≡ true → P now → P (cond waits now b)
chosen_base P true now b is has = has
chosen_base P false now b is has = absurd (cc is)

-- where its wait ends, one less asks
pub ended_asks : (wishes : List Wish) (b : Base) (t : ℕ) (answer : Answer) (transfer : Transfer) (stays : Bool) → wish_in wishes t ≡ wish.Acceptance transfer stays → is_waiting b t ≡ true →
    asks_in wishes (release b t answer).tasks + 1 ≤ asks_in wishes b.tasks
ended_asks wishes b t answer transfer stays is waits =
    let one : task_asks (wish_in wishes t) (task_at b t) ≡ 1 = waiting_asks (wish_in wishes t) transfer stays (task_at b t) is waits in
    entry_split (λ (c : Base). asks_in wishes c.tasks + 1 ≤ asks_in wishes b.tasks) (task_at b t) b _
    (λ none. let idle = ap waits_somewhere none in absurd (cc (idle, waits)))
    (λ k at.
    let now : Task = record k { phase = Ready } in
    let set = slot_asks wishes b.tasks t (Some now) in
    let idle = idle_asks (wish_in wishes t) now refl in
    chosen_base (λ (c : Base). asks_in wishes c.tasks + 1 ≤ asks_in wishes b.tasks) (is_waiting_phase k.phase) _ b (ap waits_somewhere (sym at) ∙ waits) (omega (arith, set, idle, one)))

-- and where it goes on to wait for something else
pub moved_asks : (wishes : List Wish) (b : Base) (t object : ℕ) (order : Order) (transfer : Transfer) (stays : Bool) (now : Wish) → wish_in wishes t ≡ wish.Acceptance transfer stays → is_waiting b t ≡ true →
    ((slot : Option Task) → task_asks now slot ≡ 0) → asks_in (slice_set wishes t now) (move_wait b t object order).tasks + 1 ≤ asks_in wishes b.tasks
moved_asks wishes b t object order transfer stays now is waits idle =
    let one : task_asks (wish_in wishes t) (task_at b t) ≡ 1 = waiting_asks (wish_in wishes t) transfer stays (task_at b t) is waits in
    entry_split (λ (c : Base). asks_in (slice_set wishes t now) c.tasks + 1 ≤ asks_in wishes b.tasks) (task_at b t) b _
    (λ none. let absent = ap waits_somewhere none in absurd (cc (absent, waits)))
    (λ k at.
    let row : Task = record k { phase = Waiting object; queue = order } in
    let both = both_asks wishes b.tasks t now (Some row) in
    let none = idle (Some row) in
    chosen_base (λ (c : Base). asks_in (slice_set wishes t now) c.tasks + 1 ≤ asks_in wishes b.tasks) (is_waiting_phase k.phase) _ b (ap waits_somewhere (sym at) ∙ waits) (omega (arith, both, none, one)))
