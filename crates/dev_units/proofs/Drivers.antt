-- What a driver's core comes to by a block, and by an Abort.
use Rattle.std.proofs.Common.{◌≡◌, ℕ, ◌+◌, ◌*◌, Bool, true, false, [], length, Option, Some, None, refl, ap, sym, subst, ◌∙◌}
use Rattle.std.specs.Prelude.{if◌then◌else◌}
use Rattle.tk_types.specs.declared.error_code.Er.{Er}
use Rattle.tk_types.specs.declared.error_code.Er.TheVariants as er
use Rattle.tk_types.specs.declared.line.How.TheVariants.{Cut, Done}
use Rattle.tk_types.specs.declared.script.Kind.{Kind}
use Rattle.device_model.specs.RoomyBytes.{RoomyBytes}
use Rattle.device_model.specs.declared.messages.Ending.{Ending}
use Rattle.device_model.specs.declared.messages.Request.{Request}
use Rattle.device_model.specs.Units.Stores.{Store}
use Rattle.device_model.specs.Units.Function.{block_size}
use Rattle.device_model.specs.Units.Blocks.{Partial, block, is_last}
use Rattle.device_model.specs.Devices.Endings.{ending_of}
use Rattle.driver_model.specs.Ends.{error_at, size_at}
use Rattle.driver_model.specs.Cores.{Core, aborted, cut_off, done, next_block, went_on, worked}
use Rattle.dev_units.specs.declared.block_end.BlockEnd.{BlockEnd}
use Rattle.dev_units.specs.declared.block_end.BlockEnd.TheVariants.{Ended, More}
use Rattle.dev_units.specs.Cores.{Progress, as_it_came, has_number, holding, request_in, served_with}
use Rattle.dev_units.specs.Ends.{block_end}
use Rattle.dev_units.specs.Progress.{partial}

-- ---- aborts

-- an Abort of another request changes nothing
pub not_named : (core : Core) (number : ℕ) (slot : Option Request) → has_number number slot ≡ false → core ≡ aborted number core slot
not_named core number None is = refl
not_named core number (Some request) is = ap (λ (b : Bool). if b then cut_off core request else core) (sym is)

-- one of the request that the driver works on cuts it off
pub named : (core : Core) (number : ℕ) (it : Progress) (ready : Ending) (moved : ℕ) → has_number number (Some it.request) ≡ true → moved ≡ block_size * it.blocks →
    ((store : Store) → ready ≡ ending_of core.device it.request (Cut moved) (served_with store moved er.Abort it.content)) →
    record (holding core None) { ready = Some ready } ≡ aborted number (holding core (Some it)) (Some it.request)
named core number it ready moved is same made =
    ap (λ (e : Ending). let r : Core = record (holding core None) { ready = Some e } in r)
    (made core.store ∙ ap (λ (n : ℕ). ending_of core.device it.request (Cut n) (served_with core.store n er.Abort it.content)) same)
    ∙ ap (λ (b : Bool). if b then cut_off (holding core (Some it)) it.request else holding core (Some it)) (sym is)

-- the same of what the driver had
pub named_there : (core : Core) (number : ℕ) (slot : Option Progress) (it : Progress) (ready : Ending) (moved : ℕ) → slot ≡ Some it → has_number number (request_in slot) ≡ true → moved ≡ block_size * it.blocks →
    ((store : Store) → ready ≡ ending_of core.device it.request (Cut moved) (served_with store moved er.Abort it.content)) →
    record (holding core None) { ready = Some ready } ≡ aborted number (holding core slot) (request_in slot)
named_there core number slot it ready moved has is same made =
    subst (λ (s : Option Progress). record (holding core None) { ready = Some ready } ≡ aborted number (holding core s) (request_in s)) (sym has)
    (named core number it ready moved (subst (λ (s : Option Progress). has_number number (request_in s) ≡ true) has is) same made)

-- ---- a request as it came

-- a block of a read asks nothing of the request's own bytes
block_by : (kind : Kind) (so_far : Partial) (out : RoomyBytes) (number : ℕ) (id serial : ℕ) (write : Bool) (start size : ℕ) (bytes : RoomyBytes) →
    let request : Request = record { id = id; number = serial; write = write; start = start; size = size; bytes = bytes } in
    block kind so_far (as_it_came request out) number ≡ block kind so_far request number
unfolding block
block_by kind so_far out number id serial true start size bytes = refl
block_by kind so_far out number id serial false start size bytes = refl

block_came : (kind : Kind) (so_far : Partial) (request : Request) (out : RoomyBytes) (number : ℕ) → block kind so_far (as_it_came request out) number ≡ block kind so_far request number
block_came kind so_far request out number = block_by kind so_far out number request.id request.number request.write request.start request.size request.bytes

last_came : (kind : Kind) (store : Store) (request : Request) (out : RoomyBytes) (number : ℕ) → is_last kind store (as_it_came request out) number ≡ is_last kind store request number
unfolding is_last
last_came kind store request out number = refl

came_by : (write : Bool) (bytes : RoomyBytes) (one other : ℕ) → one ≡ other →
    (if write then bytes else record { items = []; room = one }) ≡ (if write then bytes else record { items = []; room = other })
came_by write bytes one other same = ap (λ (n : ℕ). if write then bytes else (let r : RoomyBytes = record { items = []; room = n } in r)) same

-- what it came with is known after a block, too
came_same : (request : Request) (out next : RoomyBytes) → length next.items + next.room ≡ length out.items + out.room → as_it_came request next ≡ as_it_came request out
came_same request out next same = ap (λ (b : RoomyBytes). let r : Request = record request { bytes = b } in r) (came_by request.write request.bytes (length next.items + next.room) (length out.items + out.room) same)

-- ---- blocks

not_last : (last : Bool) (size : ℕ) (error : Er) → More ≡ (if last then Ended size error else More) → last ≡ false
not_last true size error is = absurd (cc is)
not_last false size error is = refl

abbrev size_or : BlockEnd → ℕ
size_or More = 0
size_or (Ended size error) = size

abbrev error_or : BlockEnd → Er
error_or More = er.Ok
error_or (Ended size error) = error

is_the_last : (last : Bool) (size other : ℕ) (error second : Er) → Ended size error ≡ (if last then Ended other second else More) → (last ≡ true) × (size ≡ other) × (error ≡ second)
is_the_last true size other error second is = (refl, ap size_or is, ap error_or is)
is_the_last false size other error second is = absurd (cc is)

-- the next block, of the request as it came
next_is : (core : Core) (request : Request) (out next : RoomyBytes) (blocks turns : ℕ) (store : Store) →
    partial store next.items ≡ block core.kind (partial core.store out.items) request blocks →
    partial store next.items ≡ next_block (holding core (Some (record { request = as_it_came request out; blocks = blocks; turns = turns; content = out.items }))) (as_it_came request out)
next_is core request out next blocks turns store served = served ∙ sym (block_came core.kind (partial core.store out.items) request out blocks)

-- a block that isn't the last
pub went_so : (core : Core) (request : Request) (out next : RoomyBytes) (blocks turns : ℕ) (kind : Kind) (store : Store) → kind ≡ core.kind →
    partial store next.items ≡ block core.kind (partial core.store out.items) request blocks → More ≡ block_end core.kind core.store request blocks → length next.items + next.room ≡ length out.items + out.room →
    holding (record core { kind = kind; store = store }) (Some (record { request = as_it_came request next; blocks = blocks + 1; turns = 0; content = next.items }))
    ≡ worked (holding core (Some (record { request = as_it_came request out; blocks = blocks; turns = turns; content = out.items }))) (as_it_came request out)
went_so core request out next blocks turns kind store same served end room =
    let held : Core = holding core (Some (record { request = as_it_came request out; blocks = blocks; turns = turns; content = out.items })) in
    let last : is_last core.kind core.store (as_it_came request out) blocks ≡ false = last_came core.kind core.store request out blocks ∙ not_last (is_last core.kind core.store request blocks) _ _ end in
    ap (λ (k : Kind). holding (record core { kind = k; store = store }) (Some (record { request = as_it_came request next; blocks = blocks + 1; turns = 0; content = next.items }))) same
    ∙ (ap (λ (r : Request). holding (record core { store = store }) (Some (record { request = r; blocks = blocks + 1; turns = 0; content = next.items }))) (came_same request out next room)
    ∙ (ap (λ (q : Partial). went_on held q) (next_is core request out next blocks turns store served)
    ∙ ap (λ (b : Bool). if b then done held (as_it_came request out) (next_block held (as_it_came request out)) else went_on held (next_block held (as_it_came request out))) (sym last)))

-- the last block
pub finished_so : (core : Core) (request : Request) (out next : RoomyBytes) (blocks turns : ℕ) (kind : Kind) (store : Store) (size : ℕ) (error : Er) (ready : Ending) → kind ≡ core.kind →
    partial store next.items ≡ block core.kind (partial core.store out.items) request blocks → Ended size error ≡ block_end core.kind core.store request blocks → length next.items + next.room ≡ length out.items + out.room →
    ((it : Store) → ready ≡ ending_of core.device (as_it_came request next) Done (served_with it size error next.items)) →
    record (holding (record core { kind = kind; store = store }) None) { ready = Some ready }
    ≡ worked (holding core (Some (record { request = as_it_came request out; blocks = blocks; turns = turns; content = out.items }))) (as_it_came request out)
finished_so core request out next blocks turns kind store size error ready same served end room made =
    let held : Core = holding core (Some (record { request = as_it_came request out; blocks = blocks; turns = turns; content = out.items })) in
    let facts = is_the_last (is_last core.kind core.store request blocks) size (size_at core.kind core.store request (block_size * blocks)) error (error_at core.kind core.store request (block_size * blocks)) end in
    let last : is_last core.kind core.store (as_it_came request out) blocks ≡ true = last_came core.kind core.store request out blocks ∙ facts.0 in
    ap (λ (k : Kind). let r : Core = record (holding (record core { kind = k; store = store }) None) { ready = Some ready } in r) same
    ∙ (ap (λ (e : Ending). let r : Core = record (holding (record core { store = store }) None) { ready = Some e } in r)
    (made store
    ∙ (ap (λ (r : Request). ending_of core.device r Done (served_with store size error next.items)) (came_same request out next room)
    ∙ (ap (λ (n : ℕ). ending_of core.device (as_it_came request out) Done (served_with store n error next.items)) facts.1
    ∙ ap (λ (e : Er). ending_of core.device (as_it_came request out) Done (served_with store (size_at core.kind core.store request (block_size * blocks)) e next.items)) facts.2)))
    ∙ (ap (λ (q : Partial). done held (as_it_came request out) q) (next_is core request out next blocks turns store served)
    ∙ ap (λ (b : Bool). if b then done held (as_it_came request out) (next_block held (as_it_came request out)) else went_on held (next_block held (as_it_came request out))) (sym last)))
