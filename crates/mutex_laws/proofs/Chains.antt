-- Whether a task stands in a chain, by the relation and by the search.
use Rattle.std.proofs.Common.{◌≡◌, ℕ, suc, zero, ◌+◌, ◌<◌, ◌≤◌, Bool, true, false, not, ◌&&◌, ◌||◌, List, [], ◌∷◌, length, refl, cond, ◌∙◌, ap, sym, subst, arith}
use Rattle.std.specs.Bool.{◌==◌}
use Rattle.std.proofs.lemmas.Bool.Decides.{nat_tests}
use Rattle.kernel_model.specs.LawWords.Once.{times, IsOnce, AreBelow}
use Rattle.kernel_lemmas.proofs.Once.{few_below, once_drop}
use Rattle.object_model.specs.Mutexes.Priority.{chain_has}
use Rattle.mutex_laws.specs.Chains.{InChain, here, behind}

-- ---- what is found stands there

pub same_by : (u t : ℕ) → (u == t) ≡ true → u ≡ t
same_by u t is = grind (arith, nat_tests, is)

no_zero : (v : ℕ) → not (v == 0) ≡ true → v ≡ 0 → ⊥
no_zero v is same = grind (arith, nat_tests, is, same)

itself : (next : ℕ → ℕ) (t u : ℕ) → (u == t) ≡ true → InChain next t u
itself next t u is = subst (λ (v : ℕ). InChain next t v) (sym (same_by u t is)) here

found_if : (next : ℕ → ℕ) (t u : ℕ) (same goes later : Bool) → (u == t) ≡ same → not (next u == 0) ≡ goes → (later ≡ true → InChain next t (next u)) → (same || (goes && later)) ≡ true → InChain next t u
found_if next t u true goes later at on rest is = itself next t u at
found_if next t u false true later at on rest is = behind (no_zero (next u) on) (rest is)
found_if next t u false false later at on rest is = absurd (cc is)

pub found_stands : (next : ℕ → ℕ) (t u n : ℕ) → chain_has next t n u ≡ true → InChain next t u
unfolding chain_has
found_stands next t u zero is = itself next t u is
found_stands next t u (suc n) is = found_if next t u (u == t) (not (next u == 0)) (chain_has next t n (next u)) refl refl (found_stands next t (next u) n) is

-- ---- what stands there is found

-- these are the tasks behind one, up to another one that is the last
abbrev IsWalk : (ℕ → ℕ) → ℕ → ℕ → List ℕ → Type 0
IsWalk next t u [] = u ≡ t
IsWalk next t u (v ∷ vs) = (v ≡ next u) × ((next u ≡ 0 → ⊥) × IsWalk next t v vs)

-- a walk that meets no task twice
record Walk (next : ℕ → ℕ) (t u : ℕ) : Type 0 where
  tasks : List ℕ
  walks : IsWalk next t u tasks
  once : IsOnce (u ∷ tasks)

cut_if : (next : ℕ → ℕ) (t w u : ℕ) (vs : List ℕ) (same : Bool) → (u == w) ≡ same → IsWalk next t u vs → IsOnce (u ∷ vs) → (cond same 1 0 + times w vs ≡ 0 → ⊥) → ((times w vs ≡ 0 → ⊥) → Walk next t w) → Walk next t w
cut_if next t w u vs true at walk once stands rest = subst (Walk next t) (same_by u w at) (record { tasks = vs; walks = walk; once = once })
cut_if next t w u vs false at walk once stands rest = rest (λ none. stands (omega (arith, none)))

-- a walk is cut where it meets a task
cut : (next : ℕ → ℕ) (t w u : ℕ) (vs : List ℕ) → IsWalk next t u vs → IsOnce (u ∷ vs) → (times w (u ∷ vs) ≡ 0 → ⊥) → Walk next t w
cut next t w u [] walk once stands = cut_if next t w u [] (u == w) refl walk once stands (λ there. absurd (there refl))
cut next t w u (v ∷ vs) walk once stands = cut_if next t w u (v ∷ vs) (u == w) refl walk once stands (λ there. cut next t w v vs walk.1.1 (once_drop u (v ∷ vs) once) there)

new_if : (u n : ℕ) (vs : List ℕ) (same : Bool) → (u == n) ≡ same → times u vs ≡ 0 → times n vs ≤ 1 → cond same 1 0 + times n vs ≤ 1
new_if u n vs true at none one = let zero_there : times n vs ≡ 0 = subst (λ (v : ℕ). times v vs ≡ 0) (same_by u n at) none in omega (arith, zero_there)
new_if u n vs false at none one = omega (arith, one)

-- one more task in front: it is new, or the walk is cut where it was met
longer_if : (next : ℕ → ℕ) (t u : ℕ) (walk : Walk next t (next u)) (none : Bool) → (times u (next u ∷ walk.tasks) == 0) ≡ none → (next u ≡ 0 → ⊥) → Walk next t u
longer_if next t u walk true is goes = record {
  tasks = next u ∷ walk.tasks;
  walks = (refl, (goes, walk.walks));
  once = λ n. new_if u n (next u ∷ walk.tasks) (u == n) refl (same_by (times u (next u ∷ walk.tasks)) 0 is) (walk.once n);
}
longer_if next t u walk false is goes = cut next t u (next u) walk.tasks walk.walks walk.once (λ none. grind (arith, nat_tests, is, none))

alone : (t n : ℕ) (same : Bool) → (t == n) ≡ same → cond same 1 0 + 0 ≤ 1
alone t n true at = omega arith
alone t n false at = omega arith

-- each chain has a walk that meets no task twice
walk_of : (next : ℕ → ℕ) (t u : ℕ) → InChain next t u → Walk next t u
walk_of next t _ here = record { tasks = []; walks = refl; once = λ n. alone t n (t == n) refl }
walk_of next t _ (behind {u = u} goes rest) = let walk : Walk next t (next u) = walk_of next t (next u) rest in longer_if next t u walk (times u (next u ∷ walk.tasks) == 0) refl goes

-- all of a walk are below a limit, where all that have a next one are, and the last one
walk_below : (limit : ℕ) (next : ℕ → ℕ) (t u : ℕ) (vs : List ℕ) → ((v : ℕ) → (next v ≡ 0 → ⊥) → v < limit) → t < limit → IsWalk next t u vs → AreBelow limit (u ∷ vs)
walk_below limit next t u [] low last walk = (subst (λ (v : ℕ). v < limit) (sym walk) last, tt)
walk_below limit next t u (v ∷ vs) low last walk = (low u walk.1.0, walk_below limit next t v vs low last walk.1.1)

reached_if : (same goes later : Bool) → goes ≡ true → later ≡ true → (same || (goes && later)) ≡ true
reached_if true goes later is rest = refl
reached_if false true later is rest = rest
reached_if false false later is rest = absurd (cc is)

there_if : (same goes later : Bool) → same ≡ true → (same || (goes && later)) ≡ true
there_if true goes later is = refl
there_if false goes later is = absurd (cc is)

-- the end of a walk is found within its length
walk_found : (next : ℕ → ℕ) (t u n : ℕ) (vs : List ℕ) → length vs ≤ n → IsWalk next t u vs → chain_has next t n u ≡ true
unfolding chain_has
walk_found next t u zero [] short walk = grind (arith, nat_tests, walk)
walk_found next t u (suc n) [] short walk = there_if (u == t) (not (next u == 0)) (chain_has next t n (next u)) (grind (arith, nat_tests, walk))
walk_found next t u zero (v ∷ vs) short walk = absurd (omega (arith, short))
walk_found next t u (suc n) (v ∷ vs) short walk =
    let rest : chain_has next t n v ≡ true = walk_found next t v n vs (omega (arith, short)) walk.1.1 in
    reached_if (u == t) (not (next u == 0)) (chain_has next t n (next u)) (goes_on (next u) walk.1.0) (ap (chain_has next t n) (sym walk.0) ∙ rest)
  where
    goes_on : (v : ℕ) → (v ≡ 0 → ⊥) → not (v == 0) ≡ true
    goes_on v goes = grind (arith, nat_tests, goes)

-- what stands in a chain is found within 255 tasks
pub stands_found : (next : ℕ → ℕ) (t u : ℕ) → ((v : ℕ) → (next v ≡ 0 → ⊥) → v < 256) → t < 256 → InChain next t u → chain_has next t 255 u ≡ true
stands_found next t u low last stands =
    let walk : Walk next t u = walk_of next t u stands in
    let few : length (u ∷ walk.tasks) ≤ 256 = few_below 256 (u ∷ walk.tasks) (walk_below 256 next t u walk.tasks low last walk.walks) walk.once in
    walk_found next t u 255 walk.tasks (omega (arith, few)) walk.walks
