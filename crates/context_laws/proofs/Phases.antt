-- The next time of a phase.
use Rattle.std.proofs.Common.{◌≡◌, ℕ, ◌+◌, ◌-◌, ◌*◌, ◌/◌, ◌<◌, ◌≤◌, Bool, true, false, refl, cond, arith}
use Rattle.std.specs.Prelude.{nat_lt}
use Rattle.std.proofs.Math.Nat.{div-mul-le_self, lt-div-mul-add}
use Rattle.std.proofs.lemmas.Nat.{mul-le}
use Rattle.std.proofs.lemmas.Bool.Decides.{nat_tests}
use Rattle.context_model.specs.Clocks.Tables.{next_due}

-- by whether the first time is still to come
by_first : (P : ℕ → Type 0) (first period now : ℕ) (early : Bool) → nat_lt now first ≡ early → (now < first → P first) → (first ≤ now → P (first + ((now - first) / period + 1) * period)) → P (cond early first (first + ((now - first) / period + 1) * period))
by_first P first period now true is comes passed = comes (grind (arith, nat_tests, is))
by_first P first period now false is comes passed = passed (grind (arith, nat_tests, is))

next_cases : (P : ℕ → Type 0) (first period now : ℕ) → (now < first → P first) → (first ≤ now → P (first + ((now - first) / period + 1) * period)) → P (next_due first period now)
unfolding next_due
next_cases P first period now comes passed = by_first P first period now (nat_lt now first) refl comes passed

-- it is the first time, or a whole number of periods behind it
pub next_in_phase : (first period now : ℕ) → (k : ℕ) × (next_due first period now ≡ first + k * period)
next_in_phase first period now = next_cases (λ time. (k : ℕ) × (time ≡ first + k * period)) first period now (λ comes. (0, omega arith)) (λ passed. ((now - first) / period + 1, refl))

-- it is later than now
pub next_is_later : (first period now : ℕ) → 1 ≤ period → now < next_due first period now
next_is_later first period now some = next_cases (λ time. now < time) first period now (λ comes. comes) (λ passed.
    let whole : now - first < (now - first) / period * period + period = lt-div-mul-add {a = now - first} {b = period} some in
    omega (arith, whole, passed))

-- a time of the phase that is later than now isn't before the next whole number of periods
within_periods : (d period k : ℕ) → 1 ≤ period → d < k * period → d / period + 1 ≤ k
within_periods d period k some later = by_test (nat_lt (d / period) k) refl
  where
    by_test : (test : Bool) → nat_lt (d / period) k ≡ test → d / period + 1 ≤ k
    by_test true is = grind (arith, nat_tests, is)
    by_test false is =
        let least : k ≤ d / period = grind (arith, nat_tests, is) in
        let below : k * period ≤ d / period * period = mul-le k period (d / period) period least (omega arith) in
        let whole : d / period * period ≤ d = div-mul-le_self d period in
        absurd (omega (arith, below, whole, later))

-- none of the phase's times lies between now and it
pub next_is_least : (first period now k : ℕ) → 1 ≤ period → now < first + k * period → next_due first period now ≤ first + k * period
next_is_least first period now k some later = next_cases (λ time. time ≤ first + k * period) first period now (λ comes. omega arith) (λ passed.
    let fewer : (now - first) / period + 1 ≤ k = within_periods (now - first) period k some (omega (arith, passed, later)) in
    let least : ((now - first) / period + 1) * period ≤ k * period = mul-le ((now - first) / period + 1) period k period fewer (omega arith) in
    omega (arith, least))
