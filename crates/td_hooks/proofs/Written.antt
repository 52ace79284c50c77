-- IDs are written one behind the other.
use Rattle.std.proofs.Common.{◌≡◌, ℕ, zero, suc, ◌+◌, ◌-◌, ◌*◌, ◌<◌, ◌≤◌, Bool, true, false, List, [], ◌∷◌, ◌++◌, length, take, drop, refl, ap, sym, subst, ◌∙◌, arith, cond, append-nil}
use Rattle.std.specs.Prelude.{filter, nat_lt}
use Rattle.std.specs.Int.{w32, to_le_bytes}
use Rattle.std.specs.List.{range_with_len}
use Rattle.std.proofs.lemmas.Bool.Decides.{nat_tests}
use Rattle.std.proofs.lemmas.List.Elements.{filter-append}
use Rattle.std.proofs.lemmas.List.{append_assoc, drop-drop, drop_at, flat_map_more, length-append, length-take-le, length_push, take-append-drop, take-append-le, take_all, take_at}
use Rattle.object_model.specs.Mails.Bytes.{with_bytes}
use Rattle.context_model.specs.Hooks.Lists.{existing, id_bytes, with_ids}
use Rattle.td_hooks.specs.Places.{with_id}

-- ---- bytes behind bytes

front_length : (memory bytes : List ℕ) (a : ℕ) → a ≤ length memory → length (take a memory ++ bytes) ≡ a + length bytes
front_length memory bytes a inside = let front = length-take-le a memory inside in length-append (take a memory) bytes ∙ ap (λ n. n + length bytes) front

-- no byte is written
none_run : (memory : List ℕ) (a : ℕ) → with_bytes memory a [] ≡ memory
none_run memory a =
    let none : a + 0 ≡ a = omega arith in
    ap (λ begin. begin ++ drop (a + 0) memory) (append-nil (take a memory)) ∙ ap (λ n. take a memory ++ drop n memory) none ∙ take-append-drop a memory

-- bytes that are written behind others stand there with them
run_behind : (memory bytes more : List ℕ) (a : ℕ) → a ≤ length memory → with_bytes (with_bytes memory a bytes) (a + length bytes) more ≡ with_bytes memory a (bytes ++ more)
run_behind memory bytes more a inside =
    let n : ℕ = a + length bytes in
    let front : List ℕ = take a memory ++ bytes in
    let rest : List ℕ = drop n memory in
    let size : length front ≡ n = front_length memory bytes a inside in
    let back : drop (n + length more) (front ++ rest) ≡ drop (n + length more) memory =
    sym (drop-drop (length more) n (front ++ rest)) ∙ ap (drop (length more)) (drop_at front rest n size) ∙ drop-drop (length more) n memory in
    let all : n + length more ≡ a + length (bytes ++ more) = let sum = length-append bytes more in omega (arith, sum) in
    ap (λ begin. (begin ++ more) ++ drop (n + length more) (front ++ rest)) (take_at front rest n size)
    ∙ ap (λ end. (front ++ more) ++ end) (back ∙ ap (λ k. drop k memory) all)
    ∙ ap (λ begin. begin ++ drop (a + length (bytes ++ more)) memory) (append_assoc (take a memory) bytes more)

-- ---- IDs behind IDs

bytes_length : (ids : List ℕ) → length (id_bytes ids) ≡ 4 * length ids
bytes_length [] = refl
bytes_length (id ∷ ids) = let rest = bytes_length ids in length-append (to_le_bytes w32 id) (id_bytes ids) ∙ omega (arith, rest)

bytes_behind : (ids : List ℕ) (id : ℕ) → id_bytes (ids ++ id ∷ []) ≡ id_bytes ids ++ to_le_bytes w32 id
bytes_behind ids id = sym (flat_map_more (to_le_bytes w32) [] ids id)

behind_if : (memory : List ℕ) (address most : ℕ) (ids : List ℕ) (id : ℕ) (room : Bool) → nat_lt (length ids) most ≡ room → address ≤ length memory →
    cond room (with_bytes (with_ids memory address most ids) (address + 4 * length ids) (to_le_bytes w32 id)) (with_ids memory address most ids) ≡ with_ids memory address most (ids ++ id ∷ [])
behind_if memory address most ids id true is inside =
    let few : length ids < most = grind (arith, nat_tests, is) in
    let all : take most ids ≡ ids = take_all most ids (omega (arith, few)) in
    let more : take most (ids ++ id ∷ []) ≡ ids ++ id ∷ [] = take_all most (ids ++ id ∷ []) (let sum = length-append ids (id ∷ []) in omega (arith, sum, few)) in
    ap (λ (some : List ℕ). with_bytes (with_bytes memory address (id_bytes some)) (address + 4 * length ids) (to_le_bytes w32 id)) all
    ∙ ap (λ n. with_bytes (with_bytes memory address (id_bytes ids)) (address + n) (to_le_bytes w32 id)) (sym (bytes_length ids))
    ∙ run_behind memory (id_bytes ids) (to_le_bytes w32 id) address inside
    ∙ ap (with_bytes memory address) (sym (bytes_behind ids id))
    ∙ ap (λ (some : List ℕ). with_bytes memory address (id_bytes some)) (sym more)
behind_if memory address most ids id false is inside =
    let full : most ≤ length ids = grind (arith, nat_tests, is) in
    ap (λ (some : List ℕ). with_bytes memory address (id_bytes some)) (sym (take-append-le most ids (id ∷ []) full))

-- one ID more is written
pub id_behind : (memory : List ℕ) (address most : ℕ) (ids : List ℕ) (id : ℕ) → address ≤ length memory → with_id (with_ids memory address most ids) address most (length ids) id ≡ with_ids memory address most (ids ++ id ∷ [])
id_behind memory address most ids id inside = behind_if memory address most ids id (nat_lt (length ids) most) refl inside

take_none : (most : ℕ) → ◌≡◌ {A = List ℕ} (take most []) []
take_none zero = refl
take_none (suc most) = refl

-- no ID is written
pub none_written : (memory : List ℕ) (address most : ℕ) → with_ids memory address most [] ≡ memory
none_written memory address most = ap (λ (some : List ℕ). with_bytes memory address (id_bytes some)) (take_none most) ∙ none_run memory address

-- ---- the IDs that exist

range_behind : (first n : ℕ) → range_with_len first (suc n) ≡ range_with_len first n ++ (first + n) ∷ []
range_behind first zero = ap (λ id. id ∷ []) (omega arith)
range_behind first (suc n) =
    let last : (first + 1) + n ≡ first + suc n = omega arith in
    ap (λ rest. first ∷ rest) (range_behind (first + 1) n ∙ ap (λ id. range_with_len (first + 1) n ++ id ∷ []) last)

exists_split : (passes : ℕ → Bool) (n : ℕ) → existing passes (suc n) ≡ existing passes n ++ filter passes (suc n ∷ [])
exists_split passes n =
    let last : 1 + n ≡ suc n = omega arith in
    ap (filter passes) (range_behind 1 n ∙ ap (λ id. range_with_len 1 n ++ id ∷ []) last) ∙ filter-append passes (range_with_len 1 n) (suc n ∷ [])

fewer_one : (n : ℕ) → suc n - 1 ≡ n
fewer_one n = omega arith

-- one that exists stands behind those of lesser IDs
pub exists_more : (passes : ℕ → Bool) (id : ℕ) → 1 ≤ id → passes id ≡ true → existing passes id ≡ existing passes (id - 1) ++ id ∷ []
exists_more passes zero least is = absurd (omega (arith, least))
exists_more passes (suc n) least is = exists_split passes n ∙ ap (λ test. existing passes n ++ cond test (suc n ∷ []) []) is ∙ ap (λ k. existing passes k ++ suc n ∷ []) (sym (fewer_one n))

pub exists_none : (passes : ℕ → Bool) (id : ℕ) → 1 ≤ id → passes id ≡ false → existing passes id ≡ existing passes (id - 1)
exists_none passes zero least is = absurd (omega (arith, least))
exists_none passes (suc n) least is = exists_split passes n ∙ ap (λ test. existing passes n ++ cond test (suc n ∷ []) []) is ∙ append-nil (existing passes n) ∙ ap (existing passes) (sym (fewer_one n))

-- ---- one ID after another

-- of the IDs up to one those that exist are counted, and written from an address on
pub record AreListed (passes : ℕ → Bool) (before now : List ℕ) (address most count last : ℕ) : Type 0 where
  pub counted : count ≡ length (existing passes last)
  pub written : now ≡ with_ids before address most (existing passes last)

pub none_listed : (passes : ℕ → Bool) (memory : List ℕ) (address most : ℕ) → AreListed passes memory memory address most 0 0
none_listed passes memory address most = record { counted = refl; written = sym (none_written memory address most) }

last_one : (id : ℕ) → id ≡ id + 1 - 1
last_one id = omega arith

found : (passes : ℕ → Bool) (before now later : List ℕ) (address most count id : ℕ) → 1 ≤ id → passes id ≡ true → address ≤ length before → later ≡ with_id now address most count id →
    AreListed passes before now address most count (id - 1) → AreListed passes before later address most (count + 1) id
found passes before now later address most count id least is inside moved listed =
    let ids : List ℕ = existing passes (id - 1) in
    let more : existing passes id ≡ ids ++ id ∷ [] = exists_more passes id least is in
    record {
      counted = ap (λ n. n + 1) listed.counted ∙ sym (length_push ids id) ∙ ap length (sym more);
      written = moved
          ∙ ap (λ n. with_id now address most n id) listed.counted
          ∙ ap (λ memory. with_id memory address most (length ids) id) listed.written
          ∙ id_behind before address most ids id inside
          ∙ ap (with_ids before address most) (sym more);
    }

-- one that exists is counted and written
pub one_listed : (passes : ℕ → Bool) (before now later : List ℕ) (address most count id : ℕ) → 1 ≤ id → passes id ≡ true → address ≤ length before → later ≡ with_id now address most count id →
    AreListed passes before now address most count (id - 1) → AreListed passes before later address most (count + 1) (id + 1 - 1)
one_listed passes before now later address most count id least is inside moved listed =
    subst (λ (last : ℕ). AreListed passes before later address most (count + 1) last) (last_one id) (found passes before now later address most count id least is inside moved listed)

left_out : (passes : ℕ → Bool) (before now : List ℕ) (address most count id : ℕ) → 1 ≤ id → passes id ≡ false →
    AreListed passes before now address most count (id - 1) → AreListed passes before now address most count id
left_out passes before now address most count id least is listed =
    let same = exists_none passes id least is in
    record { counted = listed.counted ∙ ap length (sym same); written = listed.written ∙ ap (with_ids before address most) (sym same) }

-- one that doesn't exist is passed
pub other_listed : (passes : ℕ → Bool) (before now : List ℕ) (address most count id : ℕ) → 1 ≤ id → passes id ≡ false →
    AreListed passes before now address most count (id - 1) → AreListed passes before now address most count (id + 1 - 1)
other_listed passes before now address most count id least is listed =
    subst (λ (last : ℕ). AreListed passes before now address most count last) (last_one id) (left_out passes before now address most count id least is listed)

-- all IDs up to the greatest were looked at
pub all_listed : (passes : ℕ → Bool) (before now : List ℕ) (address most count id greatest : ℕ) → id - 1 ≡ greatest → AreListed passes before now address most count (id - 1) → AreListed passes before now address most count greatest
all_listed passes before now address most count id greatest end listed = subst (λ (last : ℕ). AreListed passes before now address most count last) end listed

-- one task more of a list is written
pub task_written : (before now later tasks : List ℕ) (address most count t : ℕ) → address ≤ length before → count < length tasks → take (count + 1) tasks ≡ take count tasks ++ t ∷ [] → later ≡ with_id now address most count t →
    now ≡ with_ids before address most (take count tasks) → later ≡ with_ids before address most (take (count + 1) tasks)
task_written before now later tasks address most count t inside short taken moved written =
    let size : length (take count tasks) ≡ count = length-take-le count tasks (omega (arith, short)) in
    moved
    ∙ ap (λ n. with_id now address most n t) (sym size)
    ∙ ap (λ memory. with_id memory address most (length (take count tasks)) t) written
    ∙ id_behind before address most (take count tasks) t inside
    ∙ ap (with_ids before address most) (sym taken)
