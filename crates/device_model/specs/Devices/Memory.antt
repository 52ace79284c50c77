-- Bytes between a device and the script's memory, and numbers of four bytes. Both directions go byte by byte: so many are
-- read as were asked for, and the memory keeps its length.
use Rattle.std.specs.Prelude.{ℕ, zero, suc, ◌+◌, ◌*◌, ◌/◌, ◌%◌, List, [], ◌∷◌, slice_index, slice_set}

-- so many bytes of the memory from an address on
unfoldable pub read_bytes : ℕ → ℕ → List ℕ → List ℕ
read_bytes zero address memory = []
read_bytes (suc left) address memory = slice_index memory address ∷ read_bytes left (address + 1) memory

-- the memory with bytes written from an address on
unfoldable pub write_bytes : List ℕ → ℕ → List ℕ → List ℕ
write_bytes [] address memory = memory
write_bytes (byte ∷ bytes) address memory = write_bytes bytes (address + 1) (slice_set memory address byte)

-- a number as four bytes, the least first
abbrev pub four_bytes : ℕ → List ℕ
four_bytes n = n % 256 ∷ n / 256 % 256 ∷ n / 65536 % 256 ∷ n / 16777216 % 256 ∷ []

-- the number that bytes stand for, the least first
abbrev pub number_of : List ℕ → ℕ
number_of [] = 0
number_of (byte ∷ bytes) = byte + 256 * number_of bytes
