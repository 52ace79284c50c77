-- A request that is cut off is the front of what it would have been, and what was written is read again.
use Rattle.std.proofs.Common.{◌≡◌, ℕ, suc, zero, ◌≤◌, ◌<◌, ◌+◌, ◌-◌, length, Bool, true, false, List, [], ◌++◌, take, drop, refl, ap, sym, ◌∙◌, arith, rules}
use Rattle.std.specs.Prelude.{if◌then◌else◌, ◌==◌, ◌&&◌, min}
use Rattle.std.proofs.lemmas.List.{take-take, same_lists, places}
use Rattle.std.proofs.lemmas.Bool.Decides.{nat_tests}
use Rattle.tk_types.specs.declared.script.Kind.{Kind}
use Rattle.device_model.specs.declared.messages.Request.{Request}
use Rattle.device_model.specs.RoomyBytes.{RoomyBytes, bytes_within}
use Rattle.device_model.specs.Units.Stores.{Store, log_limit, is_log, is_spoilt, write_at}
use Rattle.device_model.specs.Units.Function.{IsWhole, available, begin, content_of, count_of, cut, moved, unit, written}
use Rattle.device_model.specs.Units.Blocks.{Partial}
use Rattle.unit_laws.proofs.Pieces.{length_first, write_length}
use Rattle.unit_laws.proofs.Blocks.{part, whole_of, nothing_written}

begun_bytes : (store : Store) (none : Bool) → (let b : Store = if none then store else record store { begun = store.begun + 1 } in b).bytes ≡ store.bytes
begun_bytes store true = refl
begun_bytes store false = refl

-- a request for its first bytes alone
abbrev pub shorter : Request → ℕ → Request
shorter request count = record request { size = count; bytes = record request.bytes { items = take count request.bytes.items } }

front_by : (write : Bool) (m n : ℕ) (bytes : List ℕ) → m ≤ n → (if write then [] else take m bytes) ≡ take m (if write then [] else take n bytes)
front_by true zero n bytes most = refl
front_by true (suc m) n bytes most = refl
front_by false m n bytes most = sym (take-take m n bytes most)

-- what a cut request has read is the front of what it would have read
pub cut_reads : (kind : Kind) (store : Store) (request : Request) (m : ℕ) → m ≤ count_of kind (begin store request) request →
    (cut kind store request m).content ≡ take m (unit kind store request).content
unfolding cut unit
cut_reads kind store request m most = front_by request.write m (count_of kind (begin store request) request) (drop request.start (begin store request).bytes) most

not_none : (none spoilt : Bool) (size a m : ℕ) → m ≤ (if none then 0 else (if spoilt then 0 else min size a)) → 0 < m → (none ≡ false) × (spoilt ≡ false) × (m ≤ size) × (m ≤ a)
not_none true spoilt size a m most some = absurd (omega (arith, most, some))
not_none false true size a m most some = absurd (omega (arith, most, some))
not_none false false size a m most some = (refl, refl, grind (arith, most), grind (arith, most))

count_is : (none spoilt : Bool) (m a : ℕ) → none ≡ false → spoilt ≡ false → m ≤ a → (if none then 0 else (if spoilt then 0 else min m a)) ≡ m
count_is true spoilt m a is healthy most = absurd (cc is)
count_is false true m a is healthy most = absurd (cc healthy)
count_is false false m a is healthy most = grind (arith, most)

begin_same : (store : Store) (one other : Bool) → one ≡ false → other ≡ false → (let b : Store = if one then store else record store { begun = store.begun + 1 } in b) ≡ (if other then store else record store { begun = store.begun + 1 })
begin_same store true other is same = absurd (cc is)
begin_same store false true is same = absurd (cc same)
begin_same store false false is same = refl

-- the count of the shorter request is all of it
shorter_count : (kind : Kind) (begun : Store) (request : Request) (m : ℕ) → 0 < m → m ≤ count_of kind begun request → count_of kind begun (shorter request m) ≡ m
shorter_count kind begun request m some most =
    let facts = not_none (request.size == 0) (is_spoilt kind begun.begun) request.size (available kind begun.bytes request) m most some in
    count_is (m == 0) (is_spoilt kind begun.begun) m (available kind begun.bytes request) (grind (arith, nat_tests, some)) facts.1 facts.3

shorter_begun : (kind : Kind) (store : Store) (request : Request) (m : ℕ) → 0 < m → m ≤ count_of kind (begin store request) request → begin store (shorter request m) ≡ begin store request
shorter_begun kind store request m some most =
    let facts = not_none (request.size == 0) (is_spoilt kind (begin store request).begun) request.size (available kind (begin store request).bytes request) m most some in
    begin_same store (m == 0) (request.size == 0) (grind (arith, nat_tests, some)) facts.0

-- the first bytes of a request are those of the shorter one
part_shorter : (kind : Kind) (begun : Store) (request : Request) (m : ℕ) → part kind begun (shorter request m) m ≡ part kind begun request m
part_shorter kind begun request m =
    ap (λ (new : List ℕ). let r : Partial = record { store = if request.write then record begun { bytes = written kind begun.bytes request new } else begun; content = content_of begun request m } in r)
    (take-take m m request.bytes.items (omega arith))

-- a request that is cut off leaves and has read what the shorter one does
pub cut_is_shorter : (kind : Kind) (store : Store) (request : Request) (m : ℕ) → 0 < m → m ≤ count_of kind (begin store request) request →
    whole_of (cut kind store request m) ≡ whole_of (unit kind store (shorter request m))
unfolding cut unit
cut_is_shorter kind store request m some most =
    sym (ap (λ (begun : Store). part kind begun (shorter request m) (count_of kind begun (shorter request m))) (shorter_begun kind store request m some most)
    ∙ (ap (λ (count : ℕ). part kind (begin store request) (shorter request m) count) (shorter_count kind (begin store request) request m some most)
    ∙ part_shorter kind (begin store request) request m))

cut_none_by : (kind : Kind) (store : Store) (id number : ℕ) (write : Bool) (start size : ℕ) (bytes : RoomyBytes) →
    let request : Request = record { id = id; number = number; write = write; start = start; size = size; bytes = bytes } in
    (moved kind (begin store request) request 0).bytes ≡ store.bytes
cut_none_by kind store id number true start size bytes = nothing_written (is_log kind) _ start ∙ begun_bytes store (size == 0)
cut_none_by kind store id number false start size bytes = begun_bytes store (size == 0)

-- a request that is cut off at its beginning leaves the bytes as they were
pub cut_none : (kind : Kind) (store : Store) (request : Request) → (cut kind store request 0).store.bytes ≡ store.bytes
unfolding cut
cut_none kind store request = cut_none_by kind store request.id request.number request.write request.start request.size request.bytes

-- ---- the size of a store

length_moved : (log : Bool) (bytes new : List ℕ) (start m : ℕ) → m ≤ length new → m ≤ (if log && true then log_limit - length bytes else length bytes - start) →
    length (if log then bytes ++ take m new else write_at bytes start (take m new)) ≡ (if log && true then length bytes + m else length bytes)
length_moved true bytes new start m most fits = let first : length (take m new) ≡ m = length_first m new most in let all : length (bytes ++ take m new) ≡ length bytes + length (take m new) = grind (arith, places) in omega (arith, first, all)
length_moved false bytes new start m most fits = let first : length (take m new) ≡ m = length_first m new most in write_length bytes (take m new) start (omega (arith, first, fits))

length_none_and : (log : Bool) (n : ℕ) → (if log && true then n + 0 else n) ≡ n
length_none_and true n = omega arith
length_none_and false n = refl

none_and : (log : Bool) (n m : ℕ) → (if log && false then n else m) ≡ m
none_and true n m = refl
none_and false n m = refl

moved_length_by : (kind : Kind) (begun : Store) (id number : ℕ) (write : Bool) (start size : ℕ) (bytes : RoomyBytes) (m : ℕ) →
    let request : Request = record { id = id; number = number; write = write; start = start; size = size; bytes = bytes } in
    (write ≡ true → length bytes.items ≡ size) → m ≤ count_of kind begun request →
    length (moved kind begun request m).bytes ≡ (if is_log kind && write then length begun.bytes + m else length begun.bytes)
moved_length_by kind begun id number true start size bytes zero whole most =
    ap (λ (b : List ℕ). length b) (nothing_written (is_log kind) begun.bytes start) ∙ sym (length_none_and (is_log kind) (length begun.bytes))
moved_length_by kind begun id number true start size bytes (suc m) whole most =
    let facts = not_none (size == 0) (is_spoilt kind begun.begun) size _ (suc m) most (omega arith) in
    let inside : suc m ≤ length bytes.items = let all : length bytes.items ≡ size = whole refl in omega (arith, all, facts.2) in
    length_moved (is_log kind) begun.bytes bytes.items start (suc m) inside facts.3
moved_length_by kind begun id number false start size bytes m whole most = sym (none_and (is_log kind) (length begun.bytes + m) (length begun.bytes))

-- a log grows by what is written to it, and another store keeps its length
pub moved_length : (kind : Kind) (begun : Store) (request : Request) (m : ℕ) → IsWhole request → m ≤ count_of kind begun request →
    length (moved kind begun request m).bytes ≡ (if is_log kind && request.write then length begun.bytes + m else length begun.bytes)
moved_length kind begun request m whole most = moved_length_by kind begun request.id request.number request.write request.start request.size request.bytes m whole.size most

begin_length : (store : Store) (request : Request) → length (begin store request).bytes ≡ length store.bytes
begin_length store request = ap (λ (b : List ℕ). length b) (begun_bytes store (request.size == 0))

-- a store other than a log keeps its length
pub keeps_length : (kind : Kind) (store : Store) (request : Request) (m : ℕ) → IsWhole request → is_log kind ≡ false → m ≤ count_of kind (begin store request) request →
    length (moved kind (begin store request) request m).bytes ≡ length store.bytes
keeps_length kind store request m whole other most =
    moved_length kind (begin store request) request m whole most
    ∙ (ap (λ (log : Bool). if log && request.write then length (begin store request).bytes + m else length (begin store request).bytes) other
    ∙ begin_length store request)

-- and a log doesn't grow past its limit
grown_log : (log write : Bool) (n m size start : ℕ) → n ≤ log_limit → (0 < m → m ≤ (if log && write then log_limit - n else n - start)) → (if log && write then n + m else n) ≤ log_limit
grown_log true true n zero size start below most = omega (arith, below)
grown_log true true n (suc m) size start below most = let room : suc m ≤ log_limit - n = most (omega arith) in omega (arith, below, room)
grown_log true false n m size start below most = below
grown_log false write n m size start below most = below

pub log_stays_below : (kind : Kind) (store : Store) (request : Request) (m : ℕ) → IsWhole request → length store.bytes ≤ log_limit → m ≤ count_of kind (begin store request) request →
    length (moved kind (begin store request) request m).bytes ≤ log_limit
log_stays_below kind store request m whole below most =
    rw (moved_length kind (begin store request) request m whole most)
    (grown_log (is_log kind) request.write (length (begin store request).bytes) m request.size request.start
    (rw (begin_length store request) below)
    (λ some. (not_none (request.size == 0) (is_spoilt kind (begin store request).begun) request.size (available kind (begin store request).bytes request) m most some).3))

-- ---- reading what was written

-- the request that reads as many bytes from where another one starts
abbrev pub reading : Request → ℕ → Request
reading request count = record request { write = false; size = count; bytes = bytes_within count [] }

read_again : (bytes new : List ℕ) (start n : ℕ) → n ≡ length new → start + n ≤ length bytes → take (min n (length (write_at bytes start new) - start)) (drop start (write_at bytes start new)) ≡ new
read_again bytes new start n is fits = same_lists _ _ (search (rules, places)) (λ k d h. grind (arith, places))

count_plain : (none spoilt log : Bool) (n x y : ℕ) → none ≡ false → spoilt ≡ false → (if none then 0 else (if spoilt then 0 else min n (if log && false then x else y))) ≡ min n y
count_plain true spoilt log n x y is healthy = absurd (cc is)
count_plain false true log n x y is healthy = absurd (cc healthy)
count_plain false false true n x y is healthy = refl
count_plain false false false n x y is healthy = refl

bytes_written : (kind : Kind) (begun : Store) (id number : ℕ) (write : Bool) (start size : ℕ) (bytes : RoomyBytes) (m : ℕ) → write ≡ true → is_log kind ≡ false →
    let request : Request = record { id = id; number = number; write = write; start = start; size = size; bytes = bytes } in
    (moved kind begun request m).bytes ≡ write_at begun.bytes start (take m bytes.items)
bytes_written kind begun id number true start size bytes m is other = ap (λ (log : Bool). if log then begun.bytes ++ take m bytes.items else write_at begun.bytes start (take m bytes.items)) other
bytes_written kind begun id number false start size bytes m is other = absurd (cc is)

inside_of : (log write : Bool) (room start m n : ℕ) → log ≡ false → 0 < m → m ≤ (if log && write then room else n - start) → start + m ≤ n
inside_of true write room start m n other some most = absurd (cc other)
inside_of false write room start m n other some most = omega (arith, some, most)

-- what a request wrote is what the next one reads there
pub written_is_read : (kind : Kind) (store : Store) (request : Request) → IsWhole request → is_log kind ≡ false → request.write ≡ true →
    0 < count_of kind (begin store request) request →
    let next : Store = (unit kind store request).store in
    let again : Request = reading request (count_of kind (begin store request) request) in
    is_spoilt kind (begin next again).begun ≡ false →
    (unit kind next again).content ≡ take (count_of kind (begin store request) request) request.bytes.items
unfolding unit
written_is_read kind store request whole other write some healthy =
    let n : ℕ = count_of kind (begin store request) request in
    let next : Store = moved kind (begin store request) request n in
    let facts = not_none (request.size == 0) (is_spoilt kind (begin store request).begun) request.size (available kind (begin store request).bytes request) n (omega arith) some in
    let all : length request.bytes.items ≡ request.size = whole.size write in
    let many : n ≡ length (take n request.bytes.items) = sym (length_first n request.bytes.items (omega (arith, all, facts.2))) in
    let fits : request.start + n ≤ length (begin store request).bytes = inside_of (is_log kind) request.write (log_limit - length (begin store request).bytes) request.start n (length (begin store request).bytes) other some facts.3 in
    let stands : (begin next (reading request n)).bytes ≡ write_at (begin store request).bytes request.start (take n request.bytes.items) =
    begun_bytes next (n == 0) ∙ bytes_written kind (begin store request) request.id request.number request.write request.start request.size request.bytes n write other in
    ap (λ (count : ℕ). take count (drop request.start (begin next (reading request n)).bytes))
    (count_plain (n == 0) (is_spoilt kind (begin next (reading request n)).begun) (is_log kind) n _ _ (grind (arith, nat_tests, some)) healthy)
    ∙ (ap (λ (bytes : List ℕ). take (min n (length bytes - request.start)) (drop request.start bytes)) stands
    ∙ read_again (begin store request).bytes (take n request.bytes.items) request.start n many fits)
