-- What settling does to the weight of all waits.
use Rattle.std.proofs.Common.{◌≡◌, ℕ, suc, zero, ◌+◌, ◌*◌, ◌≤◌, length, Bool, true, false, List, [], ◌∷◌, Option, Some, None, refl, cond, ◌∙◌, ap, sym, ◌&&◌, arith}
use Rattle.std.specs.Prelude.{slice_set, nat_le, nat_lt}
use Rattle.std.proofs.lemmas.Bool.Decides.{nat_tests}
use Rattle.tk_types.specs.declared.answer.Answer.{Answer}
use Rattle.tk_types.specs.declared.task.Order.{Order}
use Rattle.tk_types.specs.declared.task.Task.{Task}
use Rattle.tk_types.specs.declared.task.Phase.{Phase}
use Rattle.tk_types.specs.declared.task.Phase.TheVariants.{Dormant, Ready, Waiting}
use Rattle.kernel_model.specs.Words.Orders.{entry}
use Rattle.kernel_model.specs.Tasks.Base.{Base, task_at, is_waiting, is_waiting_phase, waits_somewhere, waits_for, waiting_in, waits_in, move_wait, release, set_current}
use Rattle.kernel_lemmas.proofs.Tables.{entry_cases, entry_split}
use Rattle.machine_lemmas.specs.Weights.{weight_of, phase_weight, row_weight, weights, weight}

-- a slot that is written changes the weight by its own
weights_set : (xs : List (Option Task)) (t : ℕ) (k : Task) (o : Option Task) → entry xs t ≡ Some k → weights (slice_set xs t o) + row_weight (Some k) ≡ weights xs + row_weight o
weights_set [] t k o at = absurd (cc at)
weights_set (x ∷ xs) zero k o at =
    let same : row_weight x ≡ row_weight (Some k) = ap row_weight at in
    omega (arith, same)
weights_set (x ∷ xs) (suc t) k o at = let rest = weights_set xs t k o at in omega (arith, rest)

weight_test : (test : Bool) → (1 ≤ cond test 2 1) × (cond test 2 1 ≤ 2)
weight_test true = (omega arith, omega arith)
weight_test false = (omega arith, omega arith)

phase_least : (phase : Phase) → is_waiting_phase phase ≡ true → 1 ≤ phase_weight phase
phase_least Dormant waits = absurd (cc waits)
phase_least Ready waits = absurd (cc waits)
phase_least (Waiting object) waits = (weight_test (nat_le 576 object && nat_lt object 584)).0

phase_most : (phase : Phase) → phase_weight phase ≤ 2
phase_most Dormant = omega arith
phase_most Ready = omega arith
phase_most (Waiting object) = (weight_test (nat_le 576 object && nat_lt object 584)).1

row_most : (o : Option Task) → row_weight o ≤ 2
row_most None = omega arith
row_most (Some k) = phase_most k.phase

weights_most : (xs : List (Option Task)) → weights xs ≤ 2 * length xs
weights_most [] = omega arith
weights_most (x ∷ xs) = let one = row_most x in let rest = weights_most xs in omega (arith, one, rest)

-- all waits together weigh no more than twice as much as there are slots
pub weight_most : (b : Base) → weight b ≤ 2 * length b.tasks
weight_most b = weights_most b.tasks

lighter_if : (b c : Base) (waits : Bool) → waits ≡ true → weight c + 1 ≤ weight b → weight (cond waits c b) + 1 ≤ weight b
lighter_if b c true is lighter = lighter
lighter_if b c false is lighter = absurd (cc is)

-- the end of a wait makes all lighter
pub release_lighter : (b : Base) (t : ℕ) (result : Answer) → is_waiting b t ≡ true → weight (release b t result) + 1 ≤ weight b
release_lighter b t result waits = entry_split (λ c. weight c + 1 ≤ weight b) (task_at b t) b _
    (λ none. let idle = ap waits_somewhere none in absurd (cc (idle, waits)))
    (λ k at.
    let is : is_waiting_phase k.phase ≡ true = ap waits_somewhere (sym at) ∙ waits in
    let least = phase_least k.phase is in
    let set = weights_set b.tasks t k (Some (record k { phase = Ready })) at in
    lighter_if b _ (is_waiting_phase k.phase) is (omega (arith, least, set)))

object_of : (object : ℕ) (phase : Phase) → waits_in object phase ≡ true → phase ≡ Waiting object
object_of object Dormant waits = absurd (cc waits)
object_of object Ready waits = absurd (cc waits)
object_of object (Waiting other) waits = let same : other ≡ object = grind (arith, nat_tests, waits) in ap (λ o. Waiting o) same

-- so does the move of a wait to an object that weighs less
pub move_lighter : (b : Base) (t from to : ℕ) (order : Order) → waits_for b from t ≡ true → weight_of to + 1 ≤ weight_of from → weight (move_wait b t to order) + 1 ≤ weight b
move_lighter b t from to order waits less = entry_split (λ c. weight c + 1 ≤ weight b) (task_at b t) b _
    (λ none. let idle : waits_for b from t ≡ false = ap (waiting_in from) none in absurd (cc (idle, waits)))
    (λ k at.
    let is : k.phase ≡ Waiting from = object_of from k.phase (ap (waiting_in from) (sym at) ∙ waits) in
    let heavy : phase_weight k.phase ≡ weight_of from = ap phase_weight is in
    let set = weights_set b.tasks t k (Some (record k { phase = Waiting to; queue = order })) at in
    lighter_if b _ (is_waiting_phase k.phase) (ap is_waiting_phase is) (omega (arith, heavy, set, less)))

-- a changed priority leaves the weight
pub current_weighs : (b : Base) (t priority : ℕ) → weight (set_current b t priority) ≡ weight b
current_weighs b t priority = entry_cases (λ c. weight c ≡ weight b) (task_at b t) b _ refl
    (λ k at. let set = weights_set b.tasks t k (Some (record k { current = priority })) at in omega (arith, set))
