-- Bytes that stand one behind the other, cut into messages by their lengths.
use Rattle.std.specs.Prelude.{ℕ, ◌≡◌, ◌≤◌, ◌/◌, true, List, [], ◌∷◌, length, take, drop}
use Rattle.std.specs.List.{sum, sum_by, All}
use Rattle.circular_buffer.specs.Buffer.{Buffer}
use Rattle.object_model.specs.Mails.Tables.{MessageBuffer}
use Rattle.object_model.specs.Mails.Buffers.{has_space, space_of, takes_length}

abbrev pub cut : List ℕ → List ℕ → List (List ℕ)
cut [] bytes = []
cut (n ∷ ns) bytes = take n bytes ∷ cut ns (drop n bytes)

-- the space that messages of these lengths take
abbrev pub space_by : List ℕ → ℕ
space_by lengths = sum_by (λ n. space_of n) lengths

-- the two rings of a message buffer: all bytes belong to a message, none is longer than the most, and together they take no more
-- space than there is
pub record IsBuffer (size most taken : ℕ) (bytes lengths : Buffer ℕ) : Type 0 where
  pub room : bytes.capacity ≡ size
  pub places : lengths.capacity ≡ size / 8
  pub all : sum lengths.items ≡ length bytes.items
  pub space : space_by lengths.items ≡ taken
  pub within : taken ≤ size
  pub few : size ≤ 65536
  pub some : All (λ n. 1 ≤ n) lengths.items
  pub short : All (λ n. n ≤ most) lengths.items

-- the oldest of the messages that lie in a buffer, or no byte where none does
abbrev pub oldest_of : List (List ℕ) → List ℕ
oldest_of [] = []
oldest_of (oldest ∷ later) = oldest

-- a message that may go into a buffer now
pub record MayEnter (k : MessageBuffer) (bytes : List ℕ) : Type 0 where
  pub length_fits : takes_length (length bytes) k ≡ true
  pub space_fits : has_space k bytes ≡ true
