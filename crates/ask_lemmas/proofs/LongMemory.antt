-- The script's memory never becomes shorter than it is meant to be, so that bytes inside it can be read.
use Rattle.std.proofs.Common.{◌≡◌, ℕ, ◌+◌, ◌≤◌, true, List, [], ◌∷◌, ◌++◌, length, take, drop, length-take, length-drop, sym, subst, arith}
use Rattle.std.specs.Prelude.{nat_le, slice_set}
use Rattle.std.proofs.lemmas.Bool.Decides.{nat_tests}
use Rattle.std.proofs.lemmas.List.{length-append}
use Rattle.kernel_model.specs.Bodies.Statements.{memory_size}
use Rattle.object_model.specs.Mails.Bytes.{bytes_at, with_bytes}
use Rattle.device_model.specs.Devices.Memory.{write_bytes}
use Rattle.machine_lemmas.proofs.Handing.{set_length}

-- the memory has all its bytes
abbrev pub IsLong : List ℕ → Type 0
IsLong memory = memory_size ≤ length memory

appended_long : (memory bytes : List ℕ) (a : ℕ) → length memory ≤ length ((take a memory ++ bytes) ++ drop (a + length bytes) memory)
appended_long memory bytes a =
    let whole = length-append (take a memory ++ bytes) (drop (a + length bytes) memory) in
    let first = length-append (take a memory) bytes in
    let front = length-take a memory in
    let back = length-drop (a + length bytes) memory in
    omega (arith, whole, first, front, back)

-- bytes are written
pub with_bytes_long : (memory bytes : List ℕ) (a : ℕ) → IsLong memory → IsLong (with_bytes memory a bytes)
with_bytes_long memory bytes a long =
    let more : length memory ≤ length (with_bytes memory a bytes) = appended_long memory bytes a in
    let before : memory_size ≤ length memory = long in
    omega (arith, more, before)

-- one byte is written
pub set_long : (memory : List ℕ) (a byte : ℕ) → IsLong memory → IsLong (slice_set memory a byte)
set_long memory a byte long = subst (λ (n : ℕ). memory_size ≤ n) (sym (set_length memory a byte)) long

-- bytes are written one by one
pub write_long : (bytes : List ℕ) (a : ℕ) (memory : List ℕ) → IsLong memory → IsLong (write_bytes bytes a memory)
unfolding write_bytes
write_long [] a memory long = long
write_long (byte ∷ bytes) a memory long = write_long bytes (a + 1) (slice_set memory a byte) (set_long memory a byte long)

-- as many bytes are read as were asked for, where they lie inside
pub read_whole : (memory : List ℕ) (a n : ℕ) → nat_le (a + n) memory_size ≡ true → IsLong memory → length (bytes_at memory a n) ≡ n
read_whole memory a n inside long =
    let room : a + n ≤ memory_size = grind (arith, nat_tests, inside) in
    let whole : memory_size ≤ length memory = long in
    let front = length-take n (drop a memory) in
    let back = length-drop a memory in
    omega (arith, room, whole, front, back)
