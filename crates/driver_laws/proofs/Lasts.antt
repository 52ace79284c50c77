-- What a driver does with a request, block by block, is what its unit does with it: with the last block as a whole, and where
-- it is cut off before.
use Rattle.std.proofs.Common.{◌≡◌, ℕ, suc, ◌≤◌, ◌<◌, ◌+◌, ◌*◌, ◌⊎◌, inl, inr, Bool, true, false, List, refl, ap, sym, ◌∙◌, arith}
use Rattle.std.specs.Prelude.{if◌then◌else◌, ◌==◌, ◌||◌, ◌&&◌, ◌%◌, nat_le, nat_lt}
use Rattle.std.proofs.lemmas.Bool.Decides.{nat_tests}
use Rattle.tk_types.specs.declared.error_code.Er.{Er}
use Rattle.tk_types.specs.declared.error_code.Er.TheVariants as er
use Rattle.tk_types.specs.declared.script.Kind.{Kind}
use Rattle.device_model.specs.RoomyBytes.{RoomyBytes}
use Rattle.device_model.specs.declared.messages.Request.{Request}
use Rattle.device_model.specs.Units.Stores.{Store, is_log, is_spoilt}
use Rattle.device_model.specs.Units.Function.{IsWhole, Served, appends, available, begin, block_size, count_of, cut, error_of, may_cut, moved, size_of, unit}
use Rattle.device_model.specs.Units.Blocks.{Partial, blocks, count_at, is_last}
use Rattle.unit_laws.proofs.Blocks.{blocks_cut, blocks_part, blocks_whole, last_known, nothing_written, whole_of}
use Rattle.unit_laws.proofs.Counts.{count_same}
use Rattle.driver_model.specs.Ends.{error_at, size_at}

-- the store after so many blocks
abbrev store_after : Kind → Store → Request → ℕ → Store
store_after kind found request k = (blocks kind found request k).store

-- as many bytes were moved as the blocks that were done have
abbrev pub Reached : Kind → Store → Request → ℕ → Type 0
Reached kind found request k = block_size * k ≤ count_of kind (begin found request) request

store_is : (kind : Kind) (found : Store) (request : Request) (k : ℕ) → IsWhole request → Reached kind found request k →
    store_after kind found request k ≡ moved kind (begin found request) request (block_size * k)
store_is kind found request k whole done = ap (λ (p : Partial). p.store) (blocks_part kind found request k whole done)

moved_none_by : (kind : Kind) (begun : Store) (id number : ℕ) (write : Bool) (start size : ℕ) (bytes : RoomyBytes) →
    let request : Request = record { id = id; number = number; write = write; start = start; size = size; bytes = bytes } in
    (moved kind begun request 0).bytes ≡ begun.bytes
moved_none_by kind begun id number true start size bytes = nothing_written (is_log kind) begun.bytes start
moved_none_by kind begun id number false start size bytes = refl

moved_begun_by : (kind : Kind) (begun : Store) (id number : ℕ) (write : Bool) (start size : ℕ) (bytes : RoomyBytes) (m : ℕ) →
    let request : Request = record { id = id; number = number; write = write; start = start; size = size; bytes = bytes } in
    (moved kind begun request m).begun ≡ begun.begun
moved_begun_by kind begun id number true start size bytes m = refl
moved_begun_by kind begun id number false start size bytes m = refl

-- how many bytes a request moves is seen from each of its blocks
pub count_is : (kind : Kind) (found : Store) (request : Request) (k : ℕ) → IsWhole request → Reached kind found request k →
    count_at kind (blocks kind found request k).store request (block_size * k) ≡ count_of kind (begin found request) request
count_is kind found request k whole done =
    ap (λ (s : Store). count_at kind s request (block_size * k)) (store_is kind found request k whole done)
    ∙ count_same kind (begin found request) request (block_size * k) whole done

none_done : (none : Bool) (count k : ℕ) → none ≡ true → 64 * k ≤ (if none then 0 else count) → k ≡ 0
none_done true count k is most = omega (arith, most)
none_done false count k is most = absurd (cc is)

sizes : (none : Bool) (there now count counted : ℕ) → (none ≡ true → now ≡ there) → counted ≡ count → (if none then now else counted) ≡ (if none then there else count)
sizes true there now count counted same is = same refl
sizes false there now count counted same is = is

-- the size that a block answers is that of the request
pub size_is : (kind : Kind) (found : Store) (request : Request) (k : ℕ) → IsWhole request → Reached kind found request k →
    size_at kind (store_after kind found request k) request (block_size * k) ≡ size_of kind (begin found request) request
size_is kind found request k whole done =
    sizes (request.size == 0) (available kind (begin found request).bytes request) (available kind (store_after kind found request k).bytes request)
    (count_of kind (begin found request) request) (count_at kind (store_after kind found request k) request (block_size * k))
    (λ none. ap (λ (b : List ℕ). available kind b request)
    (ap (λ (s : Store). s.bytes) (store_is kind found request k whole done)
    ∙ (ap (λ (m : ℕ). (moved kind (begin found request) request (block_size * m)).bytes) (none_done (request.size == 0) _ k none done)
    ∙ moved_none_by kind (begin found request) request.id request.number request.write request.start request.size request.bytes)))
    (count_is kind found request k whole done)

-- and so is the error
pub error_is : (kind : Kind) (found : Store) (request : Request) (k : ℕ) → IsWhole request → Reached kind found request k →
    error_at kind (store_after kind found request k) request (block_size * k) ≡ error_of kind (begin found request) request
error_is kind found request k whole done =
    ap (λ (count : ℕ). if request.size == 0 then er.Ok else (if count == 0 then (if is_spoilt kind (store_after kind found request k).begun || appends kind request then er.Io else er.Par) else er.Ok))
    (count_is kind found request k whole done)
    ∙ ap (λ (begun : ℕ). if request.size == 0 then er.Ok else (if count_of kind (begin found request) request == 0 then (if is_spoilt kind begun || appends kind request then er.Io else er.Par) else er.Ok))
    (ap (λ (s : Store). s.begun) (store_is kind found request k whole done)
    ∙ moved_begun_by kind (begin found request) request.id request.number request.write request.start request.size request.bytes (block_size * k))

-- what was done with the block behind so many others, as its driver tells it
abbrev pub served_at : Kind → Store → Request → ℕ → Served
served_at kind found request k = record {
  store = (blocks kind found request (suc k)).store;
  size = size_at kind (blocks kind found request k).store request (block_size * k);
  error = error_at kind (blocks kind found request k).store request (block_size * k);
  content = (blocks kind found request (suc k)).content;
}

-- with the last block that is what the unit does with the request
pub last_is_unit : (kind : Kind) (found : Store) (request : Request) (k : ℕ) → IsWhole request → Reached kind found request k →
    count_of kind (begin found request) request ≤ block_size * k + block_size → served_at kind found request k ≡ unit kind found request
unfolding unit
last_is_unit kind found request k whole done last =
    let all : blocks kind found request (suc k) ≡ whole_of (unit kind found request) = blocks_whole kind found request k whole done last in
    let size : size_at kind (blocks kind found request k).store request (block_size * k) ≡ (unit kind found request).size = size_is kind found request k whole done in
    let error : error_at kind (blocks kind found request k).store request (block_size * k) ≡ (unit kind found request).error = error_is kind found request k whole done in
    ap (λ (q : Partial). let r : Served = record { store = q.store; size = size_at kind (blocks kind found request k).store request (block_size * k); error = error_at kind (blocks kind found request k).store request (block_size * k); content = q.content } in r) all
    ∙ (ap (λ (n : ℕ). let r : Served = record { store = (unit kind found request).store; size = n; error = error_at kind (blocks kind found request k).store request (block_size * k); content = (unit kind found request).content } in r) size
    ∙ ap (λ (e : Er). let r : Served = record { store = (unit kind found request).store; size = (unit kind found request).size; error = e; content = (unit kind found request).content } in r) error)

-- what is last is known from what was done before
pub last_is : (kind : Kind) (found : Store) (request : Request) (k : ℕ) → IsWhole request → Reached kind found request k → (last : Bool) →
    is_last kind (blocks kind found request k).store request k ≡ last → nat_le (count_of kind (begin found request) request) (block_size * k + block_size) ≡ last
last_is kind found request k whole done last is = sym (last_known kind found request k whole done) ∙ is

-- where a request is cut off before a block, that is what its unit does with it cut off there
pub cut_is_unit : (kind : Kind) (found : Store) (request : Request) (k : ℕ) → IsWhole request → Reached kind found request k →
    let cut_at : Served = record { store = (blocks kind found request k).store; size = block_size * k; error = er.Abort; content = (blocks kind found request k).content } in
    cut_at ≡ cut kind found request (block_size * k)
unfolding cut
cut_is_unit kind found request k whole done =
    ap (λ (q : Partial). let r : Served = record { store = q.store; size = block_size * k; error = er.Abort; content = q.content } in r) (blocks_cut kind found request k whole done)

may_reach : (k count : ℕ) → (64 * k < count) ⊎ (k ≡ 0) → ((64 * k) == 0 || ((64 * k) % 64 == 0 && nat_lt (64 * k) count)) ≡ true
may_reach k count (inl less) = grind (arith, nat_tests, less)
may_reach k count (inr none) = grind (arith, nat_tests, none)

-- and it may be cut off there
pub may_be_cut : (kind : Kind) (found : Store) (request : Request) (k : ℕ) → (block_size * k < count_of kind (begin found request) request) ⊎ (k ≡ 0) →
    may_cut kind found request (block_size * k) ≡ true
unfolding may_cut
may_be_cut kind found request k more = may_reach k (count_of kind (begin found request) request) more
