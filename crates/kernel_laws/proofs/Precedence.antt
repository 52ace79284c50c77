-- The chosen task is the first to run, and there is no other; where none is ready it is 0.
use Rattle.std.proofs.Common.{◌≡◌, ℕ, ◌<◌, ◌≤◌, Bool, true, false, nat_lt, List, [], ◌∷◌, ◌++◌, Option, Some, None, refl, cond, ◌∙◌, ap, arith}
use Rattle.std.specs.Prelude.{unwrap_or}
use Rattle.std.proofs.lemmas.Bool.Decides.{nat_tests}
use Rattle.kernel_model.specs.Tasks.Base.{Base, is_ready, current, chosen}
use Rattle.kernel_model.specs.LawWords.Choice.{better_than, better, best_of}
use Rattle.kernel_model.specs.LawWords.Precedence.{AllLower, NoneHigher, IsFirst, Precedes, NoneReady}
use Rattle.kernel_laws.proofs.Choice.{chosen_is_best}

-- the best so far has a lower priority than this number, where there is one
abbrev pub IsLower : (ℕ → ℕ) → ℕ → Option ℕ → Type 0
IsLower priority p None = Unit {0}
IsLower priority p (Some best) = p < priority best

lower_of : (priority : ℕ → ℕ) (p t best : ℕ) (b : Bool) → p < priority t → p < priority best → IsLower priority p (cond b (Some t) (Some best))
lower_of priority p t best true lower kept = lower
lower_of priority p t best false lower kept = kept

lower_step : (priority : ℕ → ℕ) (p t : ℕ) (best : Option ℕ) → p < priority t → IsLower priority p best → IsLower priority p (better_than priority best t)
lower_step priority p t None lower kept = lower
lower_step priority p t (Some best) lower kept = lower_of priority p t best (nat_lt (priority t) (priority best)) lower kept

lower_if : (ready : ℕ → Bool) (priority : ℕ → ℕ) (p t : ℕ) (best : Option ℕ) (b : Bool) → ready t ≡ b → (ready t ≡ true → p < priority t) → IsLower priority p best → IsLower priority p (cond b (better_than priority best t) best)
lower_if ready priority p t best true is lower kept = lower_step priority p t best (lower is) kept
lower_if ready priority p t best false is lower kept = kept

-- what stands before the first leaves a best of a lower priority
lower_before : (ready : ℕ → Bool) (priority : ℕ → ℕ) (p : ℕ) (ts : List ℕ) (best : Option ℕ) → AllLower ready priority p ts → IsLower priority p best → IsLower priority p (best_of ready priority best ts)
lower_before ready priority p [] best all kept = kept
lower_before ready priority p (t ∷ ts) best all kept = lower_before ready priority p ts (better ready priority best t) all.1 (lower_if ready priority p t best (ready t) refl all.0 kept)

best_of_append : (ready : ℕ → Bool) (priority : ℕ → ℕ) (xs ys : List ℕ) (best : Option ℕ) → best_of ready priority best (xs ++ ys) ≡ best_of ready priority (best_of ready priority best xs) ys
best_of_append ready priority [] ys best = refl
best_of_append ready priority (x ∷ xs) ys best = best_of_append ready priority xs ys (better ready priority best x)

takes_over : (priority : ℕ → ℕ) (t : ℕ) (best : Option ℕ) → IsLower priority (priority t) best → better_than priority best t ≡ Some t
takes_over priority t None lower = refl
takes_over priority t (Some best) lower = let test : nat_lt (priority t) (priority best) ≡ true = grind (arith, nat_tests, lower) in rw test refl

better_at : (ready : ℕ → Bool) (priority : ℕ → ℕ) (t : ℕ) (best : Option ℕ) (b : Bool) → b ≡ true → IsLower priority (priority t) best → cond b (better_than priority best t) best ≡ Some t
better_at ready priority t best true is lower = takes_over priority t best lower
better_at ready priority t best false is lower = absurd (cc is)

kept_step : (ready : ℕ → Bool) (priority : ℕ → ℕ) (t u : ℕ) (b : Bool) → ready u ≡ b → (ready u ≡ true → priority t ≤ priority u) → cond b (better_than priority (Some t) u) (Some t) ≡ Some t
kept_step ready priority t u true is higher = let low : priority t ≤ priority u = higher is in let test : nat_lt (priority u) (priority t) ≡ false = grind (arith, nat_tests, low) in rw test refl
kept_step ready priority t u false is higher = refl

-- what stands behind the first leaves it the best
kept_behind : (ready : ℕ → Bool) (priority : ℕ → ℕ) (t : ℕ) (ts : List ℕ) → NoneHigher ready priority (priority t) ts → best_of ready priority (Some t) ts ≡ Some t
kept_behind ready priority t [] none = refl
kept_behind ready priority t (u ∷ ts) none = ap (λ best. best_of ready priority best ts) (kept_step ready priority t u (ready u) refl none.0) ∙ kept_behind ready priority t ts none.1

best_is_first : (ready : ℕ → Bool) (priority : ℕ → ℕ) (t : ℕ) (before behind : List ℕ) → IsFirst ready priority t before behind → best_of ready priority None (before ++ t ∷ behind) ≡ Some t
best_is_first ready priority t before behind first =
    best_of_append ready priority before (t ∷ behind) None
    ∙ ap (λ best. best_of ready priority best behind) (better_at ready priority t (best_of ready priority None before) (ready t) first.may_run (lower_before ready priority (priority t) before None first.ahead tt))
    ∙ kept_behind ready priority t behind first.after

-- the task that precedes all others is the chosen one
pub chosen_precedes : (b : Base) (t : ℕ) → Precedes b t → chosen b ≡ t
chosen_precedes b t is = chosen_is_best b ∙ ap (λ best. unwrap_or best 0) (ap (λ order. best_of (is_ready b) (current b) None order) is.stands ∙ best_is_first (is_ready b) (current b) t is.before is.behind is.first)

none_step : (ready : ℕ → Bool) (priority : ℕ → ℕ) (t : ℕ) (b : Bool) → ready t ≡ b → (ready t ≡ true → ⊥) → cond b (better_than priority None t) None ≡ None
none_step ready priority t true is none = absurd (none is)
none_step ready priority t false is none = refl

best_of_none : (ready : ℕ → Bool) (priority : ℕ → ℕ) (ts : List ℕ) → NoneReady ready ts → best_of ready priority None ts ≡ None
best_of_none ready priority [] none = refl
best_of_none ready priority (t ∷ ts) none = ap (λ best. best_of ready priority best ts) (none_step ready priority t (ready t) refl none.0) ∙ best_of_none ready priority ts none.1

-- where no task is ready none is chosen
pub chosen_none : (b : Base) → NoneReady (is_ready b) b.order → chosen b ≡ 0
chosen_none b none = chosen_is_best b ∙ ap (λ best. unwrap_or best 0) (best_of_none (is_ready b) (current b) b.order none)
