-- Priorities that are carried along chains, for all tasks at once.
use Rattle.std.proofs.Common.{◌≡◌, ℕ, suc, ◌+◌, ◌-◌, ◌<◌, ◌≤◌, min, Bool, true, false, not, ◌&&◌, List, length, get_or, refl, cond, ap, sym, ◌∙◌, subst, arith, drop, get_or-set_other, get_or-set_same}
use Rattle.std.specs.Bool.{◌==◌}
use Rattle.std.specs.Option.{is_some}
use Rattle.std.specs.Prelude.{Option, Some, None}
use Rattle.tk_types.specs.declared.task.Task.{Task}
use Rattle.std.specs.Prelude.{fold, slice_set}
use Rattle.std.proofs.lemmas.Bool.Decides.{nat_tests}
use Rattle.kernel_model.specs.Words.Orders.{taken_from}
use Rattle.kernel_model.specs.Tasks.Base.{Base, base_of, current, set_current, task_at}
use Rattle.object_model.specs.Mutexes.Tables.{Mutexes}
use Rattle.object_model.specs.Mutexes.Priority.{chain_has, current_of, is_alive, lowered, next_in_chain, own, refresh}
use Rattle.mutex_prio.specs.Lent.{AreFit, least_lent, reached, set_to, settled}
use Rattle.mutex_prio.proofs.Walked.{chain_here, chain_ends, chain_goes, chain_last}

-- ---- one task of a chain

written_here : (xs : List ℕ) (at n t : ℕ) → at < length xs → t ≡ at → get_or (slice_set xs at n) t 0 ≡ n
written_here xs at n t inside is = ap (λ place. get_or (slice_set xs at n) place 0) is ∙ get_or-set_same xs at n 0 inside

written_apart : (xs : List ℕ) (at n t : ℕ) → (t ≡ at → ⊥) → get_or (slice_set xs at n) t 0 ≡ get_or xs t 0
written_apart xs at n t apart = get_or-set_other xs at t n 0 apart

min_twice : (p a : ℕ) (test : Bool) → cond test (min p (min p a)) (min p a) ≡ min p a
min_twice p a true = omega arith
min_twice p a false = refl

goes_if : (next : ℕ → ℕ) (t passed at after p old now : ℕ) (same : Bool) → (at == t) ≡ same → passed < 255 → after ≡ next at → (after ≡ 0 → ⊥) →
    (t ≡ at → now ≡ min p old) → ((t ≡ at → ⊥) → now ≡ old) → reached next t (255 - (passed + 1)) after p now ≡ reached next t (255 - passed) at p old
goes_if next t passed at after p old now true is few moved some here apart =
    let same : at ≡ t = grind (arith, nat_tests, is) in
    let found : true ≡ chain_has next t (255 - passed) at = chain_here next t (255 - passed) at _ same refl in
    ap (λ n. reached next t (255 - (passed + 1)) after p n) (here (sym same))
    ∙ min_twice p old (chain_has next t (255 - (passed + 1)) after)
    ∙ ap (λ test. cond test (min p old) old) found
goes_if next t passed at after p old now false is few moved some here apart =
    let other : at ≡ t → ⊥ = λ e. grind (arith, nat_tests, is, e) in
    ap (λ n. reached next t (255 - (passed + 1)) after p n) (apart (λ e. other (sym e)))
    ∙ ap (λ test. cond test (min p old) old) (chain_goes next t passed at after _ few other moved some refl)

stops_if : (next : ℕ → ℕ) (t n at p old now : ℕ) (same : Bool) → (at == t) ≡ same → ((at ≡ t → ⊥) → false ≡ chain_has next t n at) →
    (t ≡ at → now ≡ min p old) → ((t ≡ at → ⊥) → now ≡ old) → now ≡ reached next t n at p old
stops_if next t n at p old now true is ends here apart =
    let same : at ≡ t = grind (arith, nat_tests, is) in
    here (sym same) ∙ ap (λ test. cond test (min p old) old) (chain_here next t n at _ same refl)
stops_if next t n at p old now false is ends here apart =
    let other : at ≡ t → ⊥ = λ e. grind (arith, nat_tests, is, e) in
    apart (λ e. other (sym e)) ∙ ap (λ test. cond test (min p old) old) (ends other)

last_if : (next : ℕ → ℕ) (t passed at : ℕ) → 255 ≤ passed → (at ≡ t → ⊥) → false ≡ chain_has next t (255 - passed) at
last_if next t passed at over apart = sym (grind (arith, nat_tests, apart)) ∙ chain_last next t passed at _ over refl

-- ---- in the form of the loop

pub carried_on : (next : ℕ → ℕ) (all old : List ℕ) (from passed at after p put : ℕ) → at < length all → put ≡ min p (get_or all at 0) → passed < 255 → after ≡ next at → (after ≡ 0 → ⊥) →
    ((t : ℕ) → t < 256 → reached next t (255 - passed) at p (get_or all t 0) ≡ reached next t 255 from p (get_or old t 0)) →
    (t : ℕ) → t < 256 → reached next t (255 - (passed + 1)) after p (get_or (slice_set all at put) t 0) ≡ reached next t 255 from p (get_or old t 0)
carried_on next all old from passed at after p put inside puts few moved some before t low =
    goes_if next t passed at after p (get_or all t 0) (get_or (slice_set all at put) t 0) (at == t) refl few moved some
    (λ is. written_here all at put t inside is ∙ puts ∙ ap (λ place. min p (get_or all place 0)) (sym is)) (λ apart. written_apart all at put t apart)
    ∙ before t low

pub carried_off : (next : ℕ → ℕ) (all old : List ℕ) (from passed at after p put : ℕ) → at < length all → put ≡ min p (get_or all at 0) → passed < 255 → after ≡ next at → after ≡ 0 →
    ((t : ℕ) → t < 256 → reached next t (255 - passed) at p (get_or all t 0) ≡ reached next t 255 from p (get_or old t 0)) →
    (t : ℕ) → t < 256 → get_or (slice_set all at put) t 0 ≡ reached next t 255 from p (get_or old t 0)
carried_off next all old from passed at after p put inside puts few moved none before t low =
    stops_if next t (255 - passed) at p (get_or all t 0) (get_or (slice_set all at put) t 0) (at == t) refl (λ other. chain_ends next t passed at after _ few other moved none refl)
    (λ is. written_here all at put t inside is ∙ puts ∙ ap (λ place. min p (get_or all place 0)) (sym is)) (λ apart. written_apart all at put t apart)
    ∙ before t low

pub carried_last : (next : ℕ → ℕ) (all old : List ℕ) (from passed at p put : ℕ) → at < length all → put ≡ min p (get_or all at 0) → 255 ≤ passed →
    ((t : ℕ) → t < 256 → reached next t (255 - passed) at p (get_or all t 0) ≡ reached next t 255 from p (get_or old t 0)) →
    (t : ℕ) → t < 256 → get_or (slice_set all at put) t 0 ≡ reached next t 255 from p (get_or old t 0)
carried_last next all old from passed at p put inside puts over before t low =
    stops_if next t (255 - passed) at p (get_or all t 0) (get_or (slice_set all at put) t 0) (at == t) refl (last_if next t passed at over)
    (λ is. written_here all at put t inside is ∙ puts ∙ ap (λ place. min p (get_or all place 0)) (sym is)) (λ apart. written_apart all at put t apart)
    ∙ before t low

-- ---- a task that lends

pub lent_alive : (b : Base) (m : Mutexes) (t u p old : ℕ) → is_alive (task_at b u) ≡ true → p ≡ own b m u → reached (next_in_chain b m) t 255 u p old ≡ lowered b m t old u
lent_alive b m t u p old lives is =
    ap (λ n. cond (chain_has (next_in_chain b m) t 255 u) (min n old) old) is
    ∙ sym (ap (λ alive. cond (alive && chain_has (next_in_chain b m) t 255 u) (min (own b m u) old) old) lives)

pub lent_dead : (b : Base) (m : Mutexes) (t u old : ℕ) → is_alive (task_at b u) ≡ false → old ≡ lowered b m t old u
lent_dead b m t u old dead = sym (ap (λ alive. cond (alive && chain_has (next_in_chain b m) t 255 u) (min (own b m u) old) old) dead)

low_if : (p old : ℕ) (test : Bool) → 1 ≤ p → 1 ≤ old → 1 ≤ cond test (min p old) old
low_if p old true one had = omega arith
low_if p old false one had = had

high_if : (p old : ℕ) (test : Bool) → old ≤ 140 → cond test (min p old) old ≤ 140
high_if p old true had = omega arith
high_if p old false had = had

pub fit_after : (b : Base) (next : ℕ → ℕ) (all now : List ℕ) (u p : ℕ) → 1 ≤ p → AreFit b all → ((t : ℕ) → t < 256 → get_or now t 0 ≡ reached next t 255 u p (get_or all t 0)) → AreFit b now
fit_after b next all now u p one fit is = record {
  low = λ t below lives. subst (λ (n : ℕ). 1 ≤ n) (sym (is t below)) (low_if p (get_or all t 0) (chain_has next t 255 u) one (fit.low t below lives));
  high = λ t below. subst (λ (n : ℕ). n ≤ 140) (sym (is t below)) (high_if p (get_or all t 0) (chain_has next t 255 u) (fit.high t below));
}

-- ---- what each task has by itself

each_if : (P : ℕ → ℕ → Type 0) (xs : List ℕ) (at n t : ℕ) (same : Bool) → (at == t) ≡ same → at < length xs → ((u : ℕ) → u < at → P u (get_or xs u 0)) → P at n → t < at + 1 → P t (get_or (slice_set xs at n) t 0)
each_if P xs at n t true is inside before here below =
    let e : at ≡ t = grind (arith, nat_tests, is) in
    subst (P t) (sym (written_here xs at n t inside (sym e))) (subst (λ (u : ℕ). P u n) e here)
each_if P xs at n t false is inside before here below =
    let other : t ≡ at → ⊥ = λ e. grind (arith, nat_tests, is, e) in
    subst (P t) (sym (written_apart xs at n t other)) (before t (grind (arith, nat_tests, is, below)))

-- one place more is written
pub each_put : (P : ℕ → ℕ → Type 0) (xs : List ℕ) (at n : ℕ) → at < length xs → ((u : ℕ) → u < at → P u (get_or xs u 0)) → P at n → (t : ℕ) → t < at + 1 → P t (get_or (slice_set xs at n) t 0)
each_put P xs at n inside before here t below = each_if P xs at n t (at == t) refl inside before here below

pub alive_some : (o : Option Task) → is_alive o ≡ true → is_some o ≡ true
alive_some None lives = absurd (cc lives)
alive_some (Some k) lives = refl
