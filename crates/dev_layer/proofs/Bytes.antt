-- Bytes between a device and the script's memory, one by one and as a run.
use Rattle.std.proofs.Common.{◌≡◌, ℕ, zero, suc, ◌+◌, ◌*◌, ◌-◌, ◌≤◌, ◌<◌, List, [], ◌∷◌, ◌++◌, refl, ap, sym, ◌∙◌, arith, length, take, drop, append-nil, append_assoc, add-one, get_or}
use Rattle.std.specs.Prelude.{min, slice_index, slice_set}
use Rattle.std.proofs.lemmas.Grind.{common_steps}
use Rattle.std.proofs.lemmas.List.{drop_more, drop-set-lt, length-drop, length-set, length-take, take-append-drop}
use Rattle.device_model.specs.Devices.Memory.{number_of, read_bytes, write_bytes}
use Rattle.task_machine.specs.Bytes.{with_run}

-- so many bytes are read from an address on
pub read_run : (n address : ℕ) (memory : List ℕ) → address + n ≤ length memory → read_bytes n address memory ≡ take n (drop address memory)
unfolding read_bytes
read_run zero address memory inside = refl
read_run (suc n) address memory inside =
    let here : drop address memory ≡ get_or memory address 0 ∷ drop (address + 1) memory = drop_more memory address 0 (omega (arith, inside)) in
    ap (λ rest. slice_index memory address ∷ rest) (read_run n (address + 1) memory (omega (arith, inside))) ∙ ap (take (suc n)) (sym here)

set_beyond : (memory : List ℕ) (address byte : ℕ) → length memory ≤ address → slice_set memory address byte ≡ memory
set_beyond [] address byte beyond = refl
set_beyond (x ∷ memory) zero byte beyond = absurd (omega (arith, beyond))
set_beyond (x ∷ memory) (suc address) byte beyond = ap (λ rest. x ∷ rest) (set_beyond memory address byte (omega (arith, beyond)))

-- bytes beyond the memory are lost
pub write_beyond : (bytes : List ℕ) (address : ℕ) (memory : List ℕ) → length memory ≤ address → write_bytes bytes address memory ≡ memory
unfolding write_bytes
write_beyond [] address memory beyond = refl
write_beyond (byte ∷ bytes) address memory beyond =
    ap (write_bytes bytes (address + 1)) (set_beyond memory address byte beyond) ∙ write_beyond bytes (address + 1) memory (omega (arith, beyond))

take_set : (memory : List ℕ) (address byte : ℕ) → address < length memory → take (suc address) (slice_set memory address byte) ≡ take address memory ++ byte ∷ []
take_set [] address byte inside = absurd (omega (arith, inside))
take_set (x ∷ memory) zero byte inside = refl
take_set (x ∷ memory) (suc address) byte inside = ap (λ rest. x ∷ rest) (take_set memory address byte (omega (arith, inside)))

-- one byte, and then a run behind it
run_step : (memory : List ℕ) (address byte : ℕ) (run : List ℕ) → address < length memory → with_run (slice_set memory address byte) (address + 1) run ≡ with_run memory address (byte ∷ run)
run_step memory address byte run inside =
    let next : address + 1 + length run ≡ address + suc (length run) = omega arith in
    let less : address < address + 1 + length run = omega arith in
    ap (λ n. take n (slice_set memory address byte) ++ run ++ drop (address + 1 + length run) (slice_set memory address byte)) (add-one address)
    ∙ ap (λ front. front ++ run ++ drop (address + 1 + length run) (slice_set memory address byte)) (take_set memory address byte inside)
    ∙ ap (λ back. take address memory ++ byte ∷ [] ++ run ++ back) (drop-set-lt (address + 1 + length run) memory address byte less)
    ∙ ap (λ n. take address memory ++ byte ∷ [] ++ run ++ drop n memory) next
    ∙ ap (λ front. front ++ drop (address + suc (length run)) memory) (append_assoc (take address memory) (byte ∷ []) run)

empty_run : (memory : List ℕ) (address : ℕ) → with_run memory address [] ≡ memory
empty_run memory address =
    let same : address + 0 ≡ address = omega arith in
    ap (λ front. front ++ drop (address + 0) memory) (append-nil (take address memory)) ∙ ap (λ n. take address memory ++ drop n memory) same ∙ take-append-drop address memory

take_step : (room : ℕ) (byte : ℕ) (bytes : List ℕ) (n : ℕ) → n ≡ suc room → take n (byte ∷ bytes) ≡ byte ∷ take room bytes
take_step room byte bytes n is = ap (λ k. take k (byte ∷ bytes)) is

-- bytes are written from an address on, as far as the memory goes
pub write_run : (bytes : List ℕ) (address : ℕ) (memory : List ℕ) (room : ℕ) → address + room ≡ length memory → write_bytes bytes address memory ≡ with_run memory address (take room bytes)
unfolding write_bytes
write_run [] address memory zero is = sym (empty_run memory address)
write_run [] address memory (suc room) is = sym (empty_run memory address)
write_run (byte ∷ bytes) address memory zero is = write_beyond (byte ∷ bytes) address memory (omega (arith, is)) ∙ sym (empty_run memory address)
write_run (byte ∷ bytes) address memory (suc room) is =
    let same : length (slice_set memory address byte) ≡ length memory = length-set memory address byte in
    write_run bytes (address + 1) (slice_set memory address byte) room (omega (arith, is, same)) ∙ run_step memory address byte (take room bytes) (omega (arith, is))

-- as many as there are, or as there is room for
pub take_least : (room : ℕ) (bytes : List ℕ) → take (min (length bytes) room) bytes ≡ take room bytes
take_least room bytes = grind (arith, common_steps)

-- as many bytes as were asked for are those that are read one by one
pub read_same : (n address : ℕ) (memory xs : List ℕ) → xs ≡ take n (drop address memory) → length xs ≡ n → xs ≡ read_bytes n address memory
unfolding read_bytes
read_same zero address memory xs is all = is
read_same (suc n) address memory xs is all =
    let some : min (suc n) (length memory - address) ≡ suc n = sym (length-take (suc n) (drop address memory) ∙ ap (min (suc n)) (length-drop address memory)) ∙ ap length (sym is) ∙ all in
    is ∙ sym (read_run (suc n) address memory (omega (arith, some)))

-- four bytes as a number
pub number_four : (xs : List ℕ) → length xs ≡ 4 → number_of xs ≡ get_or xs 0 0 + 256 * get_or xs 1 0 + 65536 * (get_or xs 2 0 + 256 * get_or xs 3 0)
number_four (a ∷ b ∷ c ∷ d ∷ []) all = omega arith
number_four [] all = absurd (omega (arith, all))
number_four (a ∷ []) all = absurd (omega (arith, all))
number_four (a ∷ b ∷ []) all = absurd (omega (arith, all))
number_four (a ∷ b ∷ c ∷ []) all = absurd (omega (arith, all))
number_four (a ∷ b ∷ c ∷ d ∷ e ∷ more) all = absurd (omega (arith, all))
