-- A list is written, read or appended to in two steps as in one.
use Rattle.std.proofs.Common.{◌≡◌, ℕ, ◌≤◌, ◌+◌, ◌-◌, length, Bool, true, false, List, [], ◌++◌, take, drop, refl, ap, sym, ◌∙◌, arith, rules}
use Rattle.std.proofs.Math.Seq.{take-add}
use Rattle.std.proofs.lemmas.List.{drop-drop, append_assoc, same_lists, places, length-take-le, take-append-drop}
use Rattle.std.specs.Prelude.{if◌then◌else◌}
use Rattle.device_model.specs.Units.Stores.{write_at}

-- the next bytes of a list behind its first ones
pub take_two : (m n : ℕ) (xs : List ℕ) → take m xs ++ take n (drop m xs) ≡ take (m + n) xs
take_two m n xs = sym (take-add m n xs)

pub read_two : (start m n : ℕ) (xs : List ℕ) → take m (drop start xs) ++ take n (drop (start + m) xs) ≡ take (m + n) (drop start xs)
read_two start m n xs = ap (λ (rest : List ℕ). take m (drop start xs) ++ take n rest) (sym (drop-drop m start xs)) ∙ take_two m n (drop start xs)

pub append_two : (m n : ℕ) (bytes new : List ℕ) → (bytes ++ take m new) ++ take n (drop m new) ≡ bytes ++ take (m + n) new
append_two m n bytes new = append_assoc bytes (take m new) (take n (drop m new)) ∙ ap (λ (all : List ℕ). bytes ++ all) (take_two m n new)

-- bytes written behind those that were written last
pub write_two : (bytes first second : List ℕ) (start : ℕ) → start + (length first + length second) ≤ length bytes → write_at (write_at bytes start first) (start + length first) second ≡ write_at bytes start (first ++ second)
write_two bytes first second start fits = same_lists _ _ (search (rules, places)) (λ k d h. grind (arith, places))

-- writing nothing changes nothing
pub write_none : (bytes : List ℕ) (start : ℕ) → write_at bytes start [] ≡ bytes
write_none bytes start = ap (λ (n : ℕ). take start bytes ++ drop n bytes) (omega arith) ∙ take-append-drop start bytes

-- what is written inside a list leaves its length
pub write_length : (bytes new : List ℕ) (start : ℕ) → length new ≤ length bytes - start → length (write_at bytes start new) ≡ length bytes
write_length bytes new start fits = grind (arith, places)

-- the first bytes of a list, as many as it has
pub length_first : (m : ℕ) (new : List ℕ) → m ≤ length new → length (take m new) ≡ m
length_first m new most = length-take-le m new most

-- both ways to write, in two steps
pub written_more : (log : Bool) (bytes new : List ℕ) (start m n : ℕ) → m ≤ length new → (log ≡ false → start + (m + n) ≤ length bytes) →
    (if log then (if log then bytes ++ take m new else write_at bytes start (take m new)) ++ take n (drop m new) else write_at (if log then bytes ++ take m new else write_at bytes start (take m new)) (start + m) (take n (drop m new)))
    ≡ (if log then bytes ++ take (m + n) new else write_at bytes start (take (m + n) new))
written_more true bytes new start m n most fits = append_two m n bytes new
written_more false bytes new start m n most fits =
    let first : length (take m new) ≡ m = length_first m new most in
    let second : length (take n (drop m new)) ≤ n = grind (arith, places) in
    let inside : start + (length (take m new) + length (take n (drop m new))) ≤ length bytes = omega (arith, first, second, fits refl) in
    ap (λ (at : ℕ). write_at (write_at bytes start (take m new)) (start + at) (take n (drop m new))) (sym first)
    ∙ (write_two bytes (take m new) (take n (drop m new)) start inside
    ∙ ap (λ (all : List ℕ). write_at bytes start all) (take_two m n new))
