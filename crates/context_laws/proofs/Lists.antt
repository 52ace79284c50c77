-- Lists of IDs: what stands in them, and what is read of them in the script's memory.
use Rattle.std.proofs.Common.{◌≡◌, ℕ, suc, zero, ◌+◌, ◌-◌, ◌*◌, ◌/◌, ◌%◌, ◌<◌, ◌≤◌, ◌⊎◌, inl, inr, List, [], ◌∷◌, ◌++◌, length, take, drop, refl, ◌∙◌, ap, sym, arith}
use Rattle.std.specs.Prelude.{slice_index}
use Rattle.std.specs.Int.{w32, to_le_bytes}
use Rattle.kernel_model.specs.LawWords.Once.{AreBelow}
use Rattle.object_model.specs.Mails.Bytes.{with_bytes}
use Rattle.context_model.specs.Hooks.Lists.{id_bytes}
use Rattle.context_model.specs.Hooks.Readings.{number_at, numbers_at}
use Rattle.std.proofs.lemmas.List.{get_or-append-add, get_or_append_left, get_or-append_right, get_or-take, get_or-drop, length-append}
use Rattle.std.proofs.Common.{length-take, length-drop}

-- four bytes make a number below 2^32
four : (n : ℕ) → n < 4294967296 → n % 256 + 256 * (n / 256 % 256) + 65536 * (n / 65536 % 256) + 16777216 * (n / 16777216 % 256) ≡ n
four n less = omega (arith, less)

-- the bytes of an ID are read back as the ID, whatever stands before and behind
read_one : (front behind : List ℕ) (id : ℕ) → id < 4294967296 → number_at (front ++ (to_le_bytes w32 id ++ behind)) (length front) ≡ id
read_one front behind id less =
    let bytes : List ℕ = to_le_bytes w32 id ++ behind in
    let first : slice_index (front ++ bytes) (length front) ≡ id % 256 = ap (λ at. slice_index (front ++ bytes) at) zero_more ∙ get_or-append-add front bytes 0 0 in
    let second : slice_index (front ++ bytes) (length front + 1) ≡ id / 256 % 256 = get_or-append-add front bytes 1 0 in
    let third : slice_index (front ++ bytes) (length front + 2) ≡ id / 65536 % 256 = get_or-append-add front bytes 2 0 in
    let fourth : slice_index (front ++ bytes) (length front + 3) ≡ id / 16777216 % 256 = get_or-append-add front bytes 3 0 in
    rw (first, second, third, fourth) (four id less)
  where
    zero_more : length front ≡ length front + 0
    zero_more = omega arith

append_three : {A : Type 0} (xs ys zs : List A) → xs ++ (ys ++ zs) ≡ (xs ++ ys) ++ zs
append_three [] ys zs = refl
append_three (x ∷ xs) ys zs = ap (λ rest. x ∷ rest) (append_three xs ys zs)

read_all : (ids front behind : List ℕ) → AreBelow 4294967296 ids → numbers_at (length ids) (front ++ (id_bytes ids ++ behind)) (length front) ≡ ids
read_all [] front behind below = refl
read_all (id ∷ ids) front behind below =
    let memory : List ℕ = front ++ ((to_le_bytes w32 id ++ id_bytes ids) ++ behind) in
    let split : memory ≡ front ++ (to_le_bytes w32 id ++ (id_bytes ids ++ behind)) = ap (λ bytes. front ++ bytes) (sym (append_three (to_le_bytes w32 id) (id_bytes ids) behind)) in
    let joined : memory ≡ (front ++ to_le_bytes w32 id) ++ (id_bytes ids ++ behind) = split ∙ append_three front (to_le_bytes w32 id) (id_bytes ids ++ behind) in
    let one : number_at memory (length front) ≡ id = ap (λ bytes. number_at bytes (length front)) split ∙ read_one front (id_bytes ids ++ behind) id below.0 in
    let place : length front + 4 ≡ length (front ++ to_le_bytes w32 id) = sym (length-append front (to_le_bytes w32 id)) in
    let others : numbers_at (length ids) memory (length front + 4) ≡ ids =
    ap (λ bytes. numbers_at (length ids) bytes (length front + 4)) joined
    ∙ ap (λ at. numbers_at (length ids) ((front ++ to_le_bytes w32 id) ++ (id_bytes ids ++ behind)) at) place
    ∙ read_all ids (front ++ to_le_bytes w32 id) behind below.1 in
    ap (λ first. first ∷ numbers_at (length ids) memory (length front + 4)) one ∙ ap (λ rest. id ∷ rest) others

pub bytes_length : (ids : List ℕ) → length (id_bytes ids) ≡ 4 * length ids
bytes_length [] = refl
bytes_length (id ∷ ids) = let rest = bytes_length ids in length-append (to_le_bytes w32 id) (id_bytes ids) ∙ omega (arith, rest)

-- ---- the memory with IDs written

taken_length : (a : ℕ) (memory : List ℕ) → a ≤ length memory → length (take a memory) ≡ a
taken_length a memory inside = length-take a memory ∙ omega (arith, inside)

-- what stands before, what is written, and what stands behind
parts : (memory bytes : List ℕ) (a : ℕ) → with_bytes memory a bytes ≡ take a memory ++ (bytes ++ drop (a + length bytes) memory)
parts memory bytes a = sym (append_three (take a memory) bytes (drop (a + length bytes) memory))

-- what is written is read back
pub written_ids : (memory : List ℕ) (a : ℕ) (ids : List ℕ) → a ≤ length memory → AreBelow 4294967296 ids → numbers_at (length ids) (with_bytes memory a (id_bytes ids)) a ≡ ids
written_ids memory a ids inside below =
    ap (λ written. numbers_at (length ids) written a) (parts memory (id_bytes ids) a)
    ∙ ap (λ at. numbers_at (length ids) (take a memory ++ (id_bytes ids ++ drop (a + length (id_bytes ids)) memory)) at) (sym (taken_length a memory inside))
    ∙ read_all ids (take a memory) (drop (a + length (id_bytes ids)) memory) below

before : (memory bytes : List ℕ) (a place : ℕ) → a ≤ length memory → place < a → slice_index (with_bytes memory a bytes) place ≡ slice_index memory place
before memory bytes a place inside early =
    let front : length (take a memory) ≡ a = taken_length a memory inside in
    ap (λ written. slice_index written place) (parts memory bytes a) ∙ get_or_append_left (take a memory) (bytes ++ drop (a + length bytes) memory) 0 place (omega (arith, front, early)) ∙ get_or-take a memory place 0 early

behind : (memory bytes : List ℕ) (a place : ℕ) → a ≤ length memory → a + length bytes ≤ place → slice_index (with_bytes memory a bytes) place ≡ slice_index memory place
behind memory bytes a place inside late =
    let rest : List ℕ = drop (a + length bytes) memory in
    let same : a + length bytes + (place - a - length bytes) ≡ place = omega (arith, late) in
    ap (λ written. slice_index written place) (parts memory bytes a)
    ∙ get_or-append_right (take a memory) (bytes ++ rest) a place 0 (taken_length a memory inside) (omega (arith, late))
    ∙ get_or-append_right bytes rest (length bytes) (place - a) 0 refl (omega (arith, late))
    ∙ get_or-drop (a + length bytes) memory (place - a - length bytes) 0
    ∙ ap (λ at. slice_index memory at) same

-- every other byte is as it was
pub other_bytes : (memory bytes : List ℕ) (a place : ℕ) → a ≤ length memory → (place < a) ⊎ (a + length bytes ≤ place) → slice_index (with_bytes memory a bytes) place ≡ slice_index memory place
other_bytes memory bytes a place inside (inl early) = before memory bytes a place inside early
other_bytes memory bytes a place inside (inr late) = behind memory bytes a place inside late

pub same_size : (memory bytes : List ℕ) (a : ℕ) → a + length bytes ≤ length memory → length (with_bytes memory a bytes) ≡ length memory
same_size memory bytes a inside =
    let front : length (take a memory) ≡ a = taken_length a memory (omega (arith, inside)) in
    let back : length (drop (a + length bytes) memory) ≡ length memory - (a + length bytes) = length-drop (a + length bytes) memory in
    let all : length (bytes ++ drop (a + length bytes) memory) ≡ length bytes + length (drop (a + length bytes) memory) = length-append bytes (drop (a + length bytes) memory) in
    ap length (parts memory bytes a) ∙ length-append (take a memory) (bytes ++ drop (a + length bytes) memory) ∙ omega (arith, front, back, all, inside)

pub below_take : (limit most : ℕ) (ids : List ℕ) → AreBelow limit ids → AreBelow limit (take most ids)
below_take limit zero ids below = tt
below_take limit (suc most) [] below = tt
below_take limit (suc most) (id ∷ ids) below = (below.0, below_take limit most ids below.1)
