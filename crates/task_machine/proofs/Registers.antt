-- The registers that take an answer, one after another.
use Rattle.std.proofs.Common.{◌≡◌, ℕ, ℤ, pos, ◌+◌, ◌<◌, List, [], ◌∷◌, ◌++◌, length, take, map, set, get_or, refl, sym, ap, ◌∙◌, arith}
use Rattle.std.specs.Int.{w32, cast_unsigned}
use Rattle.std.proofs.lemmas.List.{length-map, length-take, map_more}
use Rattle.kernel_model.specs.Bodies.Statements.{over}

-- one more value goes over the registers
pub over_push : (values registers : List ℕ) (value : ℕ) → length values < length registers → set (over values registers) (length values) value ≡ over (values ++ value ∷ []) registers
over_push values [] value within = absurd (omega arith)
over_push [] (register ∷ registers) value within = refl
over_push (first ∷ values) (register ∷ registers) value within = ap (λ rest. first ∷ rest) (over_push values registers value (omega arith))

-- one more field was written behind the value
pub written_more : (value : ℕ) (fields : List ℤ) (registers : List ℕ) (count written : ℕ) → count < length fields → length fields < length registers → written ≡ cast_unsigned w32 (get_or fields count (pos 0)) → set (over (value ∷ map (cast_unsigned w32) (take count fields)) registers) (count + 1) written ≡ over (value ∷ map (cast_unsigned w32) (take (count + 1) fields)) registers
written_more value fields registers count written within room is =
    let f = cast_unsigned w32 in
    let values = value ∷ map f (take count fields) in
    let here : length values ≡ count + 1 = omega (arith, length-map (take count fields) f, length-take count fields) in
    let more : values ++ f (get_or fields count (pos 0)) ∷ [] ≡ value ∷ map f (take (count + 1) fields) = ap (λ rest. value ∷ rest) (sym (map_more f fields count (pos 0) within)) in
    rw is (ap (λ place. set (over values registers) place (f (get_or fields count (pos 0)))) (sym here) ∙ (over_push values registers (f (get_or fields count (pos 0))) (omega arith) ∙ ap (λ all. over all registers) more))
