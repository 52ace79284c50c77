-- Blocks that are done one after another are the request as far as it has come: whole, or cut off.
use Rattle.std.proofs.Common.{◌≡◌, ℕ, suc, zero, ◌≤◌, ◌<◌, ◌+◌, ◌-◌, ◌*◌, length, Bool, true, false, List, [], ◌++◌, refl, ap, sym, ◌∙◌, arith}
use Rattle.std.specs.Prelude.{if◌then◌else◌, ◌&&◌, nat_le}
use Rattle.std.proofs.lemmas.List.{append-nil}
use Rattle.tk_types.specs.declared.script.Kind.{Kind}
use Rattle.device_model.specs.declared.messages.Request.{Request}
use Rattle.device_model.specs.RoomyBytes.{RoomyBytes}
use Rattle.device_model.specs.Units.Stores.{Store, log_limit, is_log, write_at}
use Rattle.device_model.specs.Units.Function.{IsWhole, Served, begin, content_of, count_of, cut, moved, unit}
use Rattle.device_model.specs.Units.Blocks.{Partial, block, blocks, count_at, is_last, moved_on, piece}
use Rattle.unit_laws.proofs.Pieces.{read_two, write_none, written_more}
use Rattle.unit_laws.proofs.Counts.{count_bounds, count_same}

-- a request of which so many bytes were moved
abbrev pub part : Kind → Store → Request → ℕ → Partial
part kind begun request m = record { store = moved kind begun request m; content = content_of begun request m }

-- writing nothing changes nothing
pub nothing_written : (log : Bool) (bytes : List ℕ) (start : ℕ) → (if log then bytes ++ [] else write_at bytes start []) ≡ bytes
nothing_written true bytes start = append-nil bytes
nothing_written false bytes start = write_none bytes start

none_moved_by : (kind : Kind) (so_far : Partial) (id number : ℕ) (write : Bool) (start size : ℕ) (bytes : RoomyBytes) (m : ℕ) →
    let request : Request = record { id = id; number = number; write = write; start = start; size = size; bytes = bytes } in
    moved_on kind so_far request m 0 ≡ so_far
none_moved_by kind so_far id number true start size bytes m = ap (λ (b : List ℕ). record so_far { store = record so_far.store { bytes = b } }) (nothing_written (is_log kind) so_far.store.bytes (start + m))
none_moved_by kind so_far id number false start size bytes m = ap (λ (b : List ℕ). record so_far { content = b }) (append-nil so_far.content)

-- no bytes more are nothing more
none_moved : (kind : Kind) (so_far : Partial) (request : Request) (m : ℕ) → moved_on kind so_far request m 0 ≡ so_far
none_moved kind so_far request m = none_moved_by kind so_far request.id request.number request.write request.start request.size request.bytes m

more_moved_by : (kind : Kind) (begun : Store) (id number : ℕ) (write : Bool) (start size : ℕ) (bytes : RoomyBytes) (m n : ℕ) →
    let request : Request = record { id = id; number = number; write = write; start = start; size = size; bytes = bytes } in
    (write ≡ true → m ≤ length bytes.items) → (write ≡ true → is_log kind ≡ false → start + (m + n) ≤ length begun.bytes) →
    moved_on kind (part kind begun request m) request m n ≡ part kind begun request (m + n)
more_moved_by kind begun id number true start size bytes m n most fits =
    ap (λ (b : List ℕ). let r : Partial = record { store = record begun { bytes = b }; content = [] } in r) (written_more (is_log kind) begun.bytes bytes.items start m n (most refl) (fits refl))
more_moved_by kind begun id number false start size bytes m n most fits =
    ap (λ (b : List ℕ). let r : Partial = record { store = begun; content = b } in r) (read_two start m n begun.bytes)

-- bytes that are moved behind those that were moved last
more_moved : (kind : Kind) (begun : Store) (request : Request) (m n : ℕ) → (request.write ≡ true → m ≤ length request.bytes.items) → (request.write ≡ true → is_log kind ≡ false → request.start + (m + n) ≤ length begun.bytes) →
    moved_on kind (part kind begun request m) request m n ≡ part kind begun request (m + n)
more_moved kind begun request m n most fits = more_moved_by kind begun request.id request.number request.write request.start request.size request.bytes m n most fits

inside : (log : Bool) (start m room : ℕ) (bytes : List ℕ) → 0 < m → m ≤ (if log && true then room else length bytes - start) → log ≡ false → start + m ≤ length bytes
inside true start m room bytes some there is = absurd (cc is)
inside false start m room bytes some there is = omega (arith, some, there)

written_inside : (kind : Kind) (bytes : List ℕ) (write : Bool) (start m : ℕ) → write ≡ true → is_log kind ≡ false → 0 < m → m ≤ (if is_log kind && write then log_limit - length bytes else length bytes - start) → start + m ≤ length bytes
written_inside kind bytes true start m write other some there = inside (is_log kind) start m (log_limit - length bytes) bytes some there other
written_inside kind bytes false start m write other some there = absurd (cc write)

-- from where some bytes were moved, as many more are moved as the request still has
pub further : (kind : Kind) (begun : Store) (request : Request) (m n : ℕ) → IsWhole request → m + n ≤ count_of kind begun request →
    moved_on kind (part kind begun request m) request m n ≡ part kind begun request (m + n)
further kind begun request m zero whole most = none_moved kind (part kind begun request m) request m ∙ ap (λ (all : ℕ). part kind begun request all) (omega arith)
further kind begun request m (suc n) whole most =
    more_moved kind begun request m (suc n)
    (λ write. count_bounds kind begun request (m + suc n) (m ≤ length request.bytes.items) most (omega arith) (λ size there. let all : length request.bytes.items ≡ request.size = whole.size write in omega (arith, all, size)))
    (λ write other. count_bounds kind begun request (m + suc n) (request.start + (m + suc n) ≤ length begun.bytes) most (omega arith)
    (λ size there. written_inside kind begun.bytes request.write request.start (m + suc n) write other (omega arith) there))

block_from : (kind : Kind) (begun : Store) (request : Request) (k : ℕ) → IsWhole request → 64 * k ≤ count_of kind begun request →
    block kind (part kind begun request (64 * k)) request k ≡ part kind begun request (64 * k + piece (count_of kind begun request) (64 * k))
unfolding block
block_from kind begun request k whole most =
    ap (λ (count : ℕ). moved_on kind (part kind begun request (64 * k)) request (64 * k) (piece count (64 * k))) (count_same kind begun request (64 * k) whole most)
    ∙ further kind begun request (64 * k) (piece (count_of kind begun request) (64 * k)) whole (grind (arith, most))

part_none_by : (kind : Kind) (begun : Store) (id number : ℕ) (write : Bool) (start size : ℕ) (bytes : RoomyBytes) →
    let request : Request = record { id = id; number = number; write = write; start = start; size = size; bytes = bytes } in
    (let r : Partial = record { store = begun; content = [] } in r) ≡ part kind begun request 0
part_none_by kind begun id number true start size bytes = ap (λ (b : List ℕ). let r : Partial = record { store = record begun { bytes = b }; content = [] } in r) (sym (nothing_written (is_log kind) begun.bytes start))
part_none_by kind begun id number false start size bytes = refl

-- the blocks that were done are the request as far as they go
pub blocks_part : (kind : Kind) (store : Store) (request : Request) (k : ℕ) → IsWhole request → 64 * k ≤ count_of kind (begin store request) request →
    blocks kind store request k ≡ part kind (begin store request) request (64 * k)
unfolding blocks
blocks_part kind store request zero whole most = part_none_by kind (begin store request) request.id request.number request.write request.start request.size request.bytes
blocks_part kind store request (suc k) whole most =
    let before : 64 * k ≤ count_of kind (begin store request) request = omega (arith, most) in
    ap (λ (so_far : Partial). block kind so_far request k) (blocks_part kind store request k whole before)
    ∙ (block_from kind (begin store request) request k whole before
    ∙ ap (λ (all : ℕ). part kind (begin store request) request all) (grind (arith, most)))

abbrev pub whole_of : Served → Partial
whole_of served = record { store = served.store; content = served.content }

-- all blocks of a request are the whole of it
pub blocks_whole : (kind : Kind) (store : Store) (request : Request) (k : ℕ) → IsWhole request → 64 * k ≤ count_of kind (begin store request) request →
    count_of kind (begin store request) request ≤ 64 * k + 64 → blocks kind store request (suc k) ≡ whole_of (unit kind store request)
unfolding blocks unit
blocks_whole kind store request k whole before all =
    ap (λ (so_far : Partial). block kind so_far request k) (blocks_part kind store request k whole before)
    ∙ (block_from kind (begin store request) request k whole before
    ∙ ap (λ (m : ℕ). part kind (begin store request) request m) (grind (arith, before, all)))

-- where blocks stop, the request is cut off
pub blocks_cut : (kind : Kind) (store : Store) (request : Request) (k : ℕ) → IsWhole request → 64 * k ≤ count_of kind (begin store request) request →
    blocks kind store request k ≡ whole_of (cut kind store request (64 * k))
unfolding cut
blocks_cut kind store request k whole most = blocks_part kind store request k whole most

-- the last block is known by what was done
pub last_known : (kind : Kind) (store : Store) (request : Request) (k : ℕ) → IsWhole request → 64 * k ≤ count_of kind (begin store request) request →
    is_last kind (blocks kind store request k).store request k ≡ nat_le (count_of kind (begin store request) request) (64 * k + 64)
unfolding is_last
last_known kind store request k whole most =
    ap (λ (so_far : Partial). nat_le (count_at kind so_far.store request (64 * k)) (64 * k + 64)) (blocks_part kind store request k whole most)
    ∙ ap (λ (count : ℕ). nat_le count (64 * k + 64)) (count_same kind (begin store request) request (64 * k) whole most)
