-- The list of the locked mutexes keeps each once, so that its room suffices.
use Rattle.std.proofs.Common.{◌≡◌, ℕ, zero, suc, get_or, ◌+◌, ◌≤◌, ◌<◌, List, [], ◌∷◌, ◌++◌, length, arith, ap, sym, subst, ◌∙◌}
use Rattle.kernel_model.specs.LawWords.Once.{times, IsOnce, AreBelow}
use Rattle.kernel_model.specs.Words.Orders.{without}
use Rattle.kernel_lemmas.proofs.Once.{times_without, once_filter, once_behind, room_below, below_filter}
use Rattle.mutex_prio.specs.Tables.{IsLocks}

pub locks_without : (id : ℕ) (xs ys : List ℕ) (room left : ℕ) → IsLocks xs room → ys ≡ without id xs → left ≡ room → IsLocks ys left
locks_without id xs ys room left is at same = record {
  once = subst IsOnce (sym at) (once_filter _ xs is.once);
  below = subst (AreBelow 65) (sym at) (below_filter 65 _ xs is.below);
  room = let had = is.room in omega arith;
}

pub locks_room : (id : ℕ) (xs ys : List ℕ) (room left len : ℕ) → id ≤ 64 → IsLocks xs room → ys ≡ without id xs → left ≡ room → len ≡ length ys → len < left
locks_room id xs ys room left len low is at same long =
    let kept = locks_without id xs ys room left is at same in
    let inside : id < 65 = omega arith in
    let short : length ys < 65 = room_below 65 id ys inside kept.below kept.once (ap (times id) at ∙ times_without id xs) in
    let had = kept.room in
    omega arith

below_append : (limit : ℕ) (xs ys : List ℕ) → AreBelow limit xs → AreBelow limit ys → AreBelow limit (xs ++ ys)
below_append limit [] ys before behind = behind
below_append limit (x ∷ xs) ys before behind = (before.0, below_append limit xs ys before.1 behind)

pub locks_back : (id : ℕ) (xs ys zs : List ℕ) (room left now : ℕ) → id ≤ 64 → IsLocks xs room → ys ≡ without id xs → left ≡ room → zs ≡ ys ++ id ∷ [] → now ≡ left → IsLocks zs now
locks_back id xs ys zs room left now low is at same put still =
    let kept = locks_without id xs ys room left is at same in
    let inside : id < 65 = omega arith in
    record {
      once = subst IsOnce (sym put) (once_behind id ys (ap (times id) at ∙ times_without id xs) kept.once);
      below = subst (AreBelow 65) (sym put) (below_append 65 ys (id ∷ []) kept.below (inside, tt));
      room = let had = kept.room in omega arith;
    }

below_each : (ids : List ℕ) → AreBelow 65 ids → (place : ℕ) → place < length ids → get_or ids place 0 ≤ 64
below_each [] below place inside = absurd (omega arith)
below_each (x ∷ ids) below zero inside = let low = below.0 in omega arith
below_each (x ∷ ids) below (suc place) inside = below_each ids below.1 place (omega arith)

pub view_each : (view ids : List ℕ) → view ≡ ids → AreBelow 65 ids → (place : ℕ) → place < length view → get_or view place 0 ≤ 64
view_each view ids is below = subst (λ (xs : List ℕ). (place : ℕ) → place < length xs → get_or xs place 0 ≤ 64) (sym is) (below_each ids below)
