-- Messages as bytes and lengths in two rings.
use Rattle.std.proofs.Common.{◌≡◌, ℕ, zero, suc, ◌+◌, ◌-◌, ◌*◌, ◌≤◌, true, List, [], ◌∷◌, ◌++◌, Some, length, take, drop, refl, ap, sym, ◌∙◌, subst, arith, length-append, length-drop, append_assoc}
use Rattle.std.specs.Prelude.{slice_get, ◌/◌, min, nat_le, ◌&&◌}
use Rattle.std.specs.List.{sum, All}
use Rattle.std.proofs.lemmas.Bool.Decides.{nat_tests}
use Rattle.std.proofs.lemmas.List.{drop-drop, length-take-le, take-append-le, drop-append-le}
use Rattle.std.proofs.lemmas.List.Sums.{sum_by-cons, sum_by-append}
use Rattle.std.proofs.lemmas.List.Elements.{All-append}
use Rattle.std.proofs.Math.Seq.{take-length, take-append_seam, drop-append-add}
use Rattle.circular_buffer.specs.Buffer.{Buffer, buffer, keep_last}
use Rattle.object_model.specs.Mails.Tables.{MessageBuffer}
use Rattle.object_model.specs.Mails.Buffers.{space_of, space_taken}
use Rattle.object_model.specs.Mails.Bytes.{with_bytes}
use Rattle.mail_buffer.specs.Cuts.{IsBuffer, MayEnter, cut, space_by}

taken_both : (front back : List ℕ) (count n : ℕ) → n ≡ min (length front) count → take n front ++ take (count - n) back ≡ take count (front ++ back)
taken_both [] back count n least =
    let none : n ≡ 0 = omega (arith, least) in
    ap (λ k. take k [] ++ take (count - k) back) none ∙ ap (λ k. take k back) (omega arith)
taken_both (x ∷ front) back zero n least = let none : n ≡ 0 = omega (arith, least) in ap (λ k. take k (x ∷ front) ++ take (0 - k) back) none
taken_both (x ∷ front) back (suc count) zero least = absurd (omega (arith, least))
taken_both (x ∷ front) back (suc count) (suc n) least =
    ap (λ k. x ∷ (take n front ++ take k back)) (omega arith) ∙ ap (λ l. x ∷ l) (taken_both front back count n (omega (arith, least)))

-- a run behind another one is written as both at once
pub written_twice : (m : List ℕ) (a : ℕ) (xs ys : List ℕ) → a + length xs ≤ length m → with_bytes (with_bytes m a xs) (a + length xs) ys ≡ with_bytes m a (xs ++ ys)
written_twice m a xs ys inside =
    let front : List ℕ = take a m ++ xs in
    let behind : List ℕ = drop (a + length xs) m in
    let end : List ℕ = drop (a + length (xs ++ ys)) m in
    let long : length front ≡ a + length xs = length-append (take a m) xs ∙ ap (λ n. n + length xs) (length-take-le a m (omega arith)) in
    let kept : take (a + length xs) (with_bytes m a xs) ≡ front = ap (λ n. take n (front ++ behind)) (sym long) ∙ take-append_seam front behind in
    let both : length (xs ++ ys) ≡ length xs + length ys = length-append xs ys in
    let left : drop (a + length xs + length ys) (with_bytes m a xs) ≡ end =
    ap (λ n. drop (n + length ys) (front ++ behind)) (sym long) ∙ drop-append-add front behind (length ys)
    ∙ drop-drop (length ys) (a + length xs) m ∙ ap (λ n. drop n m) (omega (arith, both)) in
    ap (λ f. f ++ ys ++ drop (a + length xs + length ys) (with_bytes m a xs)) kept
    ∙ ap (λ e. front ++ ys ++ e) left
    ∙ ap (λ f. f ++ end) (append_assoc (take a m) xs ys)

-- what is taken from two runs that stand one behind the other, the first of them as far as it goes, is written as one
pub taken_of_two : (front back : List ℕ) (count n a : ℕ) (m first second : List ℕ) → n ≡ min (length front) count → first ≡ with_bytes m a (take n front) →
    second ≡ with_bytes first (a + n) (take (count - n) back) → length m ≡ 65536 → a + count ≤ 65536 → second ≡ with_bytes m a (take count (front ++ back))
taken_of_two front back count n a m first second least first_is second_is whole place =
    let long : length (take n front) ≡ n = length-take-le n front (omega (arith, least)) in
    let both : take n front ++ take (count - n) back ≡ take count (front ++ back) = taken_both front back count n least in
    second_is
    ∙ ap (λ f. with_bytes f (a + n) (take (count - n) back)) first_is
    ∙ ap (λ l. with_bytes (with_bytes m a (take n front)) (a + l) (take (count - n) back)) (sym long)
    ∙ written_twice m a (take n front) (take (count - n) back) (omega (arith, long, whole, place, least))
    ∙ ap (with_bytes m a) both

pub cut_length : (ns bs : List ℕ) → length (cut ns bs) ≡ length ns
cut_length [] bs = refl
cut_length (n ∷ ns) bs = ap suc (cut_length ns (drop n bs))

-- the space that they take is that of their lengths
space_cut : (ns bs : List ℕ) → sum ns ≤ length bs → space_taken (cut ns bs) ≡ space_by ns
space_cut [] bs inside = refl
space_cut (n ∷ ns) bs inside =
    let whole : sum (n ∷ ns) ≡ n + sum ns = sum_by-cons (λ x. x) n ns in
    let left : length (drop n bs) ≡ length bs - n = length-drop n bs in
    let rest : space_taken (cut ns (drop n bs)) ≡ space_by ns = space_cut ns (drop n bs) (omega (arith, whole, inside, left)) in
    sum_by-cons (λ message. space_of (length message)) (take n bs) (cut ns (drop n bs))
    ∙ ap (λ l. space_of l + space_taken (cut ns (drop n bs))) (length-take-le n bs (omega (arith, whole, inside)))
    ∙ ap (λ s. space_of n + s) rest
    ∙ sym (sum_by-cons (λ k. space_of k) n ns)

pub space_of_cut : (ns bs : List ℕ) → sum ns ≡ length bs → space_taken (cut ns bs) ≡ space_by ns
space_of_cut ns bs all = space_cut ns bs (omega arith)

-- ---- one message more

cut_behind : (ns bs xs : List ℕ) → sum ns ≡ length bs → cut (ns ++ length xs ∷ []) (bs ++ xs) ≡ cut ns bs ++ xs ∷ []
cut_behind [] [] xs all = ap (λ b. b ∷ []) (take-length xs)
cut_behind [] (b ∷ bs) xs all = absurd (omega (arith, all))
cut_behind (n ∷ ns) bs xs all =
    let whole : sum (n ∷ ns) ≡ n + sum ns = sum_by-cons (λ x. x) n ns in
    let left : length (drop n bs) ≡ length bs - n = length-drop n bs in
    let inside : n ≤ length bs = omega (arith, whole, all) in
    let rest : sum ns ≡ length (drop n bs) = omega (arith, whole, all, left) in
    ap (λ f. f ∷ cut (ns ++ length xs ∷ []) (drop n (bs ++ xs))) (take-append-le n bs xs inside)
    ∙ ap (λ b. take n bs ∷ cut (ns ++ length xs ∷ []) b) (drop-append-le n bs xs inside)
    ∙ ap (λ c. take n bs ∷ c) (cut_behind ns (drop n bs) xs rest)

all_one : (p : ℕ → Type 0) (n : ℕ) → p n → All p (n ∷ [])
all_one p n one zero d below = one
all_one p n one (suc k) d below = absurd (omega (arith, below))

all_first : (p : ℕ → Type 0) (n : ℕ) (ns : List ℕ) → All p (n ∷ ns) → p n
all_first p n ns all = all 0 n (omega arith)

all_rest : (p : ℕ → Type 0) (n : ℕ) (ns : List ℕ) → All p (n ∷ ns) → All p ns
all_rest p n ns all k d below = all (suc k) d (omega (arith, below))

-- the bytes take less than the space
sum_within : (ns : List ℕ) → sum ns ≤ space_by ns
sum_within [] = omega arith
sum_within (n ∷ ns) =
    let rest : sum ns ≤ space_by ns = sum_within ns in
    let whole : sum (n ∷ ns) ≡ n + sum ns = sum_by-cons (λ x. x) n ns in
    let space : space_by (n ∷ ns) ≡ space_of n + space_by ns = sum_by-cons (λ k. space_of k) n ns in
    omega (arith, rest, whole, space)

-- and each message 8 bytes at least
eight_each : (ns : List ℕ) → All (λ n. 1 ≤ n) ns → 8 * length ns ≤ space_by ns
eight_each [] all = omega arith
eight_each (n ∷ ns) all =
    let one : 1 ≤ n = all_first (λ m. 1 ≤ m) n ns all in
    let rest : 8 * length ns ≤ space_by ns = eight_each ns (all_rest (λ m. 1 ≤ m) n ns all) in
    let space : space_by (n ∷ ns) ≡ space_of n + space_by ns = sum_by-cons (λ k. space_of k) n ns in
    omega (arith, rest, one, space)

-- what a message that may enter fits
pub enters : (k : MessageBuffer) (bytes : List ℕ) → MayEnter k bytes → record { some : 1 ≤ length bytes; short : length bytes ≤ k.most; room : space_taken k.messages + space_of (length bytes) ≤ k.size }
enters k bytes may =
    let fits : (nat_le 1 (length bytes) && nat_le (length bytes) k.most) ≡ true = may.length_fits in
    let has : nat_le (space_taken k.messages + space_of (length bytes)) k.size ≡ true = may.space_fits in
    record { some = grind (arith, nat_tests, fits); short = grind (arith, nat_tests, fits); room = grind (arith, nat_tests, has) }

pub stored : (size most taken count : ℕ) (bytes lengths new_bytes new_lengths : Buffer ℕ) (xs : List ℕ) → IsBuffer size most taken bytes lengths → 1 ≤ length xs → length xs ≤ most → taken + space_of (length xs) ≤ size →
    count ≡ min (length xs) (bytes.capacity - length bytes.items) → new_bytes ≡ buffer (bytes.items ++ take count xs) bytes.capacity →
    new_lengths ≡ buffer (keep_last lengths.capacity (lengths.items ++ length xs ∷ [])) lengths.capacity →
    record { fits : IsBuffer size most (taken + space_of (length xs)) new_bytes new_lengths; cuts : cut new_lengths.items new_bytes.items ≡ cut lengths.items bytes.items ++ xs ∷ [] }
stored size most taken count bytes lengths new_bytes new_lengths xs old some short room counted bytes_are lengths_are =
    let ns : List ℕ = lengths.items in
    let bs : List ℕ = bytes.items in
    let n : ℕ = length xs in
    let summed : sum ns ≡ length bs = old.all in
    let spaced : space_by ns ≡ taken = old.space in
    let less : sum ns ≤ space_by ns = sum_within ns in
    let capacity : bytes.capacity ≡ size = old.room in
    let all_of : count ≡ length xs = omega (arith, summed, spaced, less, capacity, room, counted) in
    let bytes_now : new_bytes ≡ buffer (bs ++ xs) bytes.capacity = bytes_are ∙ ap (λ c. buffer (bs ++ take c xs) bytes.capacity) all_of ∙ ap (λ l. buffer (bs ++ l) bytes.capacity) (take-length xs) in
    let eights : 8 * length ns ≤ space_by ns = eight_each ns old.some in
    let places : lengths.capacity ≡ size / 8 = old.places in
    let more : length (ns ++ n ∷ []) ≡ length ns + 1 = length-append ns (n ∷ []) in
    let none : length (ns ++ n ∷ []) - lengths.capacity ≡ 0 = omega (arith, eights, spaced, places, more, room, some) in
    let lengths_now : new_lengths ≡ buffer (ns ++ n ∷ []) lengths.capacity = lengths_are ∙ ap (λ c. buffer (drop c (ns ++ n ∷ [])) lengths.capacity) none in
    let sums : sum (ns ++ n ∷ []) ≡ sum ns + sum (n ∷ []) = sum_by-append (λ x. x) ns (n ∷ []) in
    let one_sum : sum (n ∷ []) ≡ n + sum [] = sum_by-cons (λ x. x) n [] in
    let spaces : space_by (ns ++ n ∷ []) ≡ space_by ns + space_by (n ∷ []) = sum_by-append (λ k. space_of k) ns (n ∷ []) in
    let one_space : space_by (n ∷ []) ≡ space_of n + space_by [] = sum_by-cons (λ k. space_of k) n [] in
    let longer : length (bs ++ xs) ≡ length bs + n = length-append bs xs in
    record {
      fits = subst (λ (b : Buffer ℕ). IsBuffer size most (taken + space_of n) b new_lengths) (sym bytes_now)
          (subst (λ (l : Buffer ℕ). IsBuffer size most (taken + space_of n) (buffer (bs ++ xs) bytes.capacity) l) (sym lengths_now)
          (record {
            room = capacity;
            places = places;
            all = omega (arith, sums, one_sum, summed, longer);
            space = omega (arith, spaces, one_space, spaced);
            within = room;
            few = old.few;
            some = All-append (λ m. 1 ≤ m) ns (n ∷ []) old.some (all_one (λ m. 1 ≤ m) n some);
            short = All-append (λ m. m ≤ most) ns (n ∷ []) old.short (all_one (λ m. m ≤ most) n short);
          }));
      cuts = ap (λ b. cut new_lengths.items b) (ap (λ (b : Buffer ℕ). b.items) bytes_now) ∙ ap (λ l. cut l (bs ++ xs)) (ap (λ (l : Buffer ℕ). l.items) lengths_now) ∙ cut_behind ns bs xs summed;
    }

-- ---- one message less

first_of_list : (most taken n : ℕ) (bs ns : List ℕ) → sum ns ≡ length bs → space_by ns ≡ taken → slice_get ns 0 ≡ Some n →
    record { inside : n ≤ length bs; space : space_of n ≤ taken; sums : sum (drop 1 ns) ≡ length bs - n; spaces : space_by (drop 1 ns) ≡ taken - space_of n }
first_of_list most taken n bs [] all space first = absurd (cc first)
first_of_list most taken n bs (m ∷ ns) all space first =
    let same : m ≡ n = cc first in
    let whole : sum (m ∷ ns) ≡ m + sum ns = sum_by-cons (λ x. x) m ns in
    let spaces : space_by (m ∷ ns) ≡ space_of m + space_by ns = sum_by-cons (λ k. space_of k) m ns in
    let inside : m ≤ length bs = omega (arith, whole, all) in
    let less : space_of m ≤ taken = omega (arith, spaces, space) in
    let left : sum ns ≡ length bs - m = omega (arith, whole, all) in
    let room : space_by ns ≡ taken - space_of m = omega (arith, spaces, space) in
    record {
      inside = subst (λ (k : ℕ). k ≤ length bs) same inside;
      space = subst (λ (k : ℕ). space_of k ≤ taken) same less;
      sums = subst (λ (k : ℕ). sum ns ≡ length bs - k) same left;
      spaces = subst (λ (k : ℕ). space_by ns ≡ taken - space_of k) same room;
    }

all_later : (p : ℕ → Type 0) (ns : List ℕ) → All p ns → All p (drop 1 ns)
all_later p [] all = all
all_later p (n ∷ ns) all = all_rest p n ns all

pub popped : (size most taken n : ℕ) (bytes lengths new_bytes new_lengths : Buffer ℕ) → IsBuffer size most taken bytes lengths → slice_get lengths.items 0 ≡ Some n →
    new_bytes ≡ buffer (drop n bytes.items) bytes.capacity → new_lengths ≡ buffer (drop 1 lengths.items) lengths.capacity → IsBuffer size most (taken - space_of n) new_bytes new_lengths
popped size most taken n bytes lengths new_bytes new_lengths old first bytes_now lengths_now =
    let told = first_of_list most taken n bytes.items lengths.items old.all old.space first in
    let sums : sum (drop 1 lengths.items) ≡ length bytes.items - n = told.sums in
    let shorter : length (drop n bytes.items) ≡ length bytes.items - n = length-drop n bytes.items in
    let least : taken ≤ size = old.within in
    subst (λ (b : Buffer ℕ). IsBuffer size most (taken - space_of n) b new_lengths) (sym bytes_now)
    (subst (λ (l : Buffer ℕ). IsBuffer size most (taken - space_of n) (buffer (drop n bytes.items) bytes.capacity) l) (sym lengths_now)
    (record {
      room = old.room;
      places = old.places;
      all = sums ∙ sym shorter;
      space = told.spaces;
      within = omega (arith, least);
      few = old.few;
      some = all_later (λ m. 1 ≤ m) lengths.items old.some;
      short = all_later (λ m. m ≤ most) lengths.items old.short;
    }))
