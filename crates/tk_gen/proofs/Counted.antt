-- Lines are counted one after another.
use Rattle.std.proofs.Common.{ℕ, ◌+◌, ◌≡◌, Bool, List, [], ◌++◌, ap, ◌∙◌, arith}
use Rattle.std.specs.Prelude.{cond, count_by}
use Rattle.std.proofs.lemmas.List.Sums.{sum_by-append}
use Rattle.tk_types.specs.declared.line.Line.{Line}
use Rattle.tk_gen.specs.declared.counts.Counts.{Counts}
use Rattle.tk_gen.specs.Counts.{counted_on, is_call, is_ending, is_tick, is_wait}

pub count_both : {A : Type 0} → (p : A → Bool) (xs ys : List A) → count_by p (xs ++ ys) ≡ count_by p xs + count_by p ys
count_both p xs ys = sum_by-append (λ x. cond (p x) 1 0) xs ys

pub counts_are : (a b c d a' b' c' d' : ℕ) → a ≡ a' → b ≡ b' → c ≡ c' → d ≡ d' →
    let one : Counts = record { calls = a; waits = b; ticks = c; endings = d } in
    let other : Counts = record { calls = a'; waits = b'; ticks = c'; endings = d' } in
    one ≡ other
counts_are a b c d a' b' c' d' is_a is_b is_c is_d =
    ap (λ (n : ℕ). let r : Counts = record { calls = n; waits = b; ticks = c; endings = d } in r) is_a
    ∙ (ap (λ (n : ℕ). let r : Counts = record { calls = a'; waits = n; ticks = c; endings = d } in r) is_b
    ∙ (ap (λ (n : ℕ). let r : Counts = record { calls = a'; waits = b'; ticks = n; endings = d } in r) is_c
    ∙ ap (λ (n : ℕ). let r : Counts = record { calls = a'; waits = b'; ticks = c'; endings = n } in r) is_d))

added : (before all first later : ℕ) → all ≡ first + later → (before + first) + later ≡ before + all
added before all first later is = omega (arith, is)

-- lines behind others
pub counted_both : (before : Counts) (xs ys : List Line) → counted_on (counted_on before xs) ys ≡ counted_on before (xs ++ ys)
counted_both before xs ys =
    counts_are _ _ _ _ _ _ _ _
    (added before.calls _ (count_by is_call xs) (count_by is_call ys) (count_both is_call xs ys))
    (added before.waits _ (count_by is_wait xs) (count_by is_wait ys) (count_both is_wait xs ys))
    (added before.ticks _ (count_by is_tick xs) (count_by is_tick ys) (count_both is_tick xs ys))
    (added before.endings _ (count_by is_ending xs) (count_by is_ending ys) (count_both is_ending xs ys))

pub none_counted : (before : Counts) → counted_on before [] ≡ before
none_counted before = counts_are _ _ _ _ _ _ _ _ (omega arith) (omega arith) (omega arith) (omega arith)
