-- How much a request moves is the same, seen from its beginning and from where some bytes were moved.
use Rattle.std.proofs.Common.{◌≡◌, ℕ, ◌≤◌, ◌<◌, ◌+◌, ◌-◌, length, Bool, true, false, List, ◌++◌, take, refl, ap, arith}
use Rattle.std.specs.Prelude.{if◌then◌else◌, ◌==◌, ◌&&◌, min}
use Rattle.std.proofs.lemmas.List.{places}
use Rattle.tk_types.specs.declared.script.Kind.{Kind}
use Rattle.device_model.specs.declared.messages.Request.{Request}
use Rattle.device_model.specs.RoomyBytes.{RoomyBytes}
use Rattle.device_model.specs.Units.Stores.{Store, log_limit, is_log, is_spoilt, write_at}
use Rattle.device_model.specs.Units.Function.{IsWhole, available, count_of, moved}
use Rattle.device_model.specs.Units.Blocks.{count_at}
use Rattle.unit_laws.proofs.Pieces.{length_first, write_length}

-- what is moved is at most what was asked for, and what there is
pub bounded : (none spoilt : Bool) (size a m : ℕ) (P : Type 0) → m ≤ (if none then 0 else (if spoilt then 0 else min size a)) → 0 < m → (m ≤ size → m ≤ a → P) → P
bounded true spoilt size a m P most some use_it = absurd (omega (arith, most, some))
bounded false true size a m P most some use_it = absurd (omega (arith, most, some))
bounded false false size a m P most some use_it = use_it (grind (arith, most)) (grind (arith, most))

same_if : (none spoilt : Bool) (size a b m : ℕ) → m ≤ (if none then 0 else (if spoilt then 0 else min size a)) → (m ≤ size → m ≤ a → b ≡ a) →
    (if none then 0 else (if spoilt then 0 else min size b)) ≡ (if none then 0 else (if spoilt then 0 else min size a))
same_if true spoilt size a b m most same = refl
same_if false true size a b m most same = refl
same_if false false size a b m most same = ap (λ (n : ℕ). min size n) (same (grind (arith, most)) (grind (arith, most)))

-- a log has as much less room, and another store as many bytes as before
room_written : (log : Bool) (bytes new : List ℕ) (start m : ℕ) → m ≤ length new → m ≤ (if log && true then log_limit - length bytes else length bytes - start) →
    (if log && true then log_limit - length (if log then bytes ++ take m new else write_at bytes start (take m new)) else length (if log then bytes ++ take m new else write_at bytes start (take m new)) - start) + (if log && true then m else 0)
    ≡ (if log && true then log_limit - length bytes else length bytes - start)
room_written true bytes new start m most fits = let first : length (take m new) ≡ m = length_first m new most in let all : length (bytes ++ take m new) ≡ length bytes + length (take m new) = grind (arith, places) in omega (arith, first, all, fits)
room_written false bytes new start m most fits = let first : length (take m new) ≡ m = length_first m new most in let same : length (write_at bytes start (take m new)) ≡ length bytes = write_length bytes (take m new) start (omega (arith, first, fits)) in omega (arith, same)

room_read : (log : Bool) (bytes : List ℕ) (start m : ℕ) →
    (if log && false then log_limit - length bytes else length bytes - start) + (if log && false then m else 0)
    ≡ (if log && false then log_limit - length bytes else length bytes - start)
room_read true bytes start m = omega arith
room_read false bytes start m = omega arith

counted : (kind : Kind) (begun : Store) (id number : ℕ) (write : Bool) (start size : ℕ) (bytes : RoomyBytes) (m : ℕ) →
    let request : Request = record { id = id; number = number; write = write; start = start; size = size; bytes = bytes } in
    (write ≡ true → length bytes.items ≡ size) → m ≤ count_of kind begun request →
    count_at kind (moved kind begun request m) request m ≡ count_of kind begun request
counted kind begun id number true start size bytes m whole most =
    same_if (size == 0) (is_spoilt kind begun.begun) size _ _ m most (λ inside there. room_written (is_log kind) begun.bytes bytes.items start m (let all : length bytes.items ≡ size = whole refl in omega (arith, all, inside)) there)
counted kind begun id number false start size bytes m whole most =
    same_if (size == 0) (is_spoilt kind begun.begun) size _ _ m most (λ inside there. room_read (is_log kind) begun.bytes start m)

-- a request's count, seen from where so many bytes were moved
pub count_same : (kind : Kind) (begun : Store) (request : Request) (m : ℕ) → IsWhole request → m ≤ count_of kind begun request →
    count_at kind (moved kind begun request m) request m ≡ count_of kind begun request
count_same kind begun request m whole most = counted kind begun request.id request.number request.write request.start request.size request.bytes m whole.size most

-- what is moved is at most the size, and what there is
pub count_bounds : (kind : Kind) (begun : Store) (request : Request) (m : ℕ) (P : Type 0) → m ≤ count_of kind begun request → 0 < m →
    (m ≤ request.size → m ≤ available kind begun.bytes request → P) → P
count_bounds kind begun request m P most some use_it =
    bounded (request.size == 0) (is_spoilt kind begun.begun) request.size (available kind begun.bytes request) m P most some use_it
