-- The IDs that exist stand in rising order, each once.
use Rattle.std.proofs.Common.{◌≡◌, ℕ, suc, zero, ◌+◌, ◌<◌, ◌≤◌, Bool, true, false, List, [], ◌∷◌, refl, cond, ◌∙◌, ap, pos, arith}
use Rattle.std.specs.Prelude.{nat_le, nat_lt, ◌&&◌}
use Rattle.std.specs.Bool.{◌==◌}
use Rattle.std.specs.List.{filter, range_with_len}
use Rattle.std.proofs.lemmas.Bool.Decides.{nat_tests}
use Rattle.kernel_model.specs.Words.Checks.{within}
use Rattle.kernel_model.specs.LawWords.Once.{times, AreBelow}
use Rattle.kernel_model.specs.LawWords.Rising.{AllFrom, IsRisingBy}
use Rattle.kernel_lemmas.proofs.ReadyLists.{times_filter_is}
use Rattle.context_model.specs.Hooks.Lists.{existing}

-- ---- the numbers of a range

times_if : (first id : ℕ) (n : ℕ) (here : Bool) → (first == id) ≡ here → times id (range_with_len (first + 1) n) ≡ cond (nat_le (first + 1) id && nat_lt id (first + 1 + n)) 1 0 →
    cond here 1 0 + times id (range_with_len (first + 1) n) ≡ cond (nat_le first id && nat_lt id (first + suc n)) 1 0
times_if first id n true is rest =
    let same : first ≡ id = grind (arith, nat_tests, is) in
    let past : nat_le (first + 1) id && nat_lt id (first + 1 + n) ≡ false = grind (arith, nat_tests, same) in
    let inside : nat_le first id && nat_lt id (first + suc n) ≡ true = grind (arith, nat_tests, same) in
    rw (rest, past, inside) refl
times_if first id n false is rest =
    let alike : nat_le first id && nat_lt id (first + suc n) ≡ nat_le (first + 1) id && nat_lt id (first + 1 + n) = grind (arith, nat_tests, is) in
    rw (rest, alike) (omega arith)

times_range : (first n id : ℕ) → times id (range_with_len first n) ≡ cond (nat_le first id && nat_lt id (first + n)) 1 0
times_range first zero id = let none : nat_le first id && nat_lt id (first + 0) ≡ false = grind (arith, nat_tests) in rw none refl
times_range first (suc n) id = times_if first id n (first == id) refl (times_range (first + 1) n id)

in_range : (id greatest : ℕ) → nat_le 1 id && nat_lt id (1 + greatest) ≡ within 1 greatest (pos id)
in_range id greatest = grind (arith, nat_tests)

both : (exists here : Bool) → ◌≡◌ {A = ℕ} (cond exists (cond here 1 0) 0) (cond (here && exists) 1 0)
both true true = refl
both true false = refl
both false true = refl
both false false = refl

-- each ID that exists, from 1 to the greatest, stands in the list once, and no other does
pub times_existing : (exists : ℕ → Bool) (greatest id : ℕ) → times id (existing exists greatest) ≡ cond (within 1 greatest (pos id) && exists id) 1 0
times_existing exists greatest id =
    times_filter_is exists id (range_with_len 1 greatest)
    ∙ ap (λ n. cond (exists id) n 0) (times_range 1 greatest id ∙ ap (λ test. cond test 1 0) (in_range id greatest))
    ∙ both (exists id) (within 1 greatest (pos id))

-- ---- the order

abbrev own : ℕ → ℕ
own id = id

range_from : (low first n : ℕ) → low ≤ first → AllFrom own low (range_with_len first n)
range_from low first zero least = tt
range_from low first (suc n) least = (least, range_from low (first + 1) n (omega (arith, least)))

range_rises : (first n : ℕ) → IsRisingBy own (range_with_len first n)
range_rises first zero = tt
range_rises first (suc n) = (range_from first (first + 1) n (omega arith), range_rises (first + 1) n)

from_if : (low id : ℕ) (kept : List ℕ) (test : Bool) → low ≤ id → AllFrom own low kept → AllFrom own low (cond test (id ∷ kept) kept)
from_if low id kept true least rest = (least, rest)
from_if low id kept false least rest = rest

from_filter : (passes : ℕ → Bool) (low : ℕ) (ids : List ℕ) → AllFrom own low ids → AllFrom own low (filter passes ids)
from_filter passes low [] from = tt
from_filter passes low (id ∷ ids) from = from_if low id (filter passes ids) (passes id) from.0 (from_filter passes low ids from.1)

rises_if : (id : ℕ) (kept : List ℕ) (test : Bool) → AllFrom own id kept → IsRisingBy own kept → IsRisingBy own (cond test (id ∷ kept) kept)
rises_if id kept true from rest = (from, rest)
rises_if id kept false from rest = rest

rises_filter : (passes : ℕ → Bool) (ids : List ℕ) → IsRisingBy own ids → IsRisingBy own (filter passes ids)
rises_filter passes [] rises = tt
rises_filter passes (id ∷ ids) rises = rises_if id (filter passes ids) (passes id) (from_filter passes id ids rises.0) (rises_filter passes ids rises.1)

-- they rise
pub existing_rises : (exists : ℕ → Bool) (greatest : ℕ) → IsRisingBy (λ id. id) (existing exists greatest)
existing_rises exists greatest = rises_filter exists (range_with_len 1 greatest) (range_rises 1 greatest)

-- ---- how great they are

range_below : (limit first n : ℕ) → first + n ≤ limit → AreBelow limit (range_with_len first n)
range_below limit first zero most = tt
range_below limit first (suc n) most = (omega (arith, most), range_below limit (first + 1) n (omega (arith, most)))

below_if : (limit id : ℕ) (kept : List ℕ) (test : Bool) → (test ≡ true → id < limit) → AreBelow limit kept → AreBelow limit (cond test (id ∷ kept) kept)
below_if limit id kept true less rest = (less refl, rest)
below_if limit id kept false less rest = rest

below_filter : (limit : ℕ) (passes : ℕ → Bool) (ids : List ℕ) → AreBelow limit ids → AreBelow limit (filter passes ids)
below_filter limit passes [] below = tt
below_filter limit passes (id ∷ ids) below = below_if limit id (filter passes ids) (passes id) (λ is. below.0) (below_filter limit passes ids below.1)

-- where only numbers below a limit pass, all of these are
pub below_those : (limit : ℕ) (passes : ℕ → Bool) (ids : List ℕ) → ((id : ℕ) → passes id ≡ true → id < limit) → AreBelow limit (filter passes ids)
below_those limit passes [] less = tt
below_those limit passes (id ∷ ids) less = below_if limit id (filter passes ids) (passes id) (less id) (below_those limit passes ids less)

pub existing_below : (exists : ℕ → Bool) (greatest : ℕ) → greatest ≤ 255 → AreBelow 4294967296 (existing exists greatest)
existing_below exists greatest most = below_filter 4294967296 exists (range_with_len 1 greatest) (range_below 4294967296 1 greatest (omega (arith, most)))
