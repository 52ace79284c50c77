-- What an ending makes of a device's part.
use Rattle.std.proofs.Common.{◌≡◌, ℕ, ◌+◌, ◌≤◌, Bool, true, false, cond, List, [], Some, None, refl, ap, sym, subst, ◌∙◌, arith, length, take, drop}
use Rattle.std.specs.Bool.{◌==◌}
use Rattle.std.specs.Prelude.{◌&&◌}
use Rattle.std.proofs.lemmas.List.{places}
use Rattle.tk_types.specs.declared.error_code.Er.{Er}
use Rattle.tk_types.specs.declared.line.How.{How}
use Rattle.tk_types.specs.declared.line.How.TheVariants.{Done, Cut}
use Rattle.tk_types.specs.declared.script.Kind.{Kind}
use Rattle.device_model.specs.declared.messages.Ending.{Ending}
use Rattle.device_model.specs.declared.messages.Request.{Request}
use Rattle.device_model.specs.Devices.Tables.{Given, Link}
use Rattle.device_model.specs.Devices.Endings.{bytes_back, ending_of, expected_given, is_allowed, says, served_of}
use Rattle.device_model.specs.RoomyBytes.{RoomyBytes}
use Rattle.device_model.specs.Units.Function.{IsWhole, Served, available, begin, content_of, count_of, cut, moved, unit}
use Rattle.device_model.specs.Units.Stores.{Store}
use Rattle.dev_layer.specs.Links.{IsServed, allows_end, allows_given, count_by_end, ended_given, fits_given, link_ended, stored}
use Rattle.dev_layer.proofs.Stores.{available_few, begin_bytes, count_fits, moved_asked, moved_fits, served_read, served_store}

pub allowed_is : (result : Bool) (kind : Kind) (store : Store) (request : Request) (asked : Bool) (how : How) (link : Link) (given : Given) → result ≡ is_allowed kind store (record { request = request; asked = asked }) how →
    kind ≡ link.kind → store ≡ link.store → request ≡ given.request → asked ≡ given.asked → result ≡ is_allowed link.kind link.store given how
allowed_is result kind store request asked how link given is kinds stores requests askeds =
    is
    ∙ ap (λ k. is_allowed k store (record { request = request; asked = asked }) how) kinds
    ∙ ap (λ s. is_allowed link.kind s (record { request = request; asked = asked }) how) stores
    ∙ ap (λ r. is_allowed link.kind link.store (record { request = r; asked = asked }) how) requests
    ∙ ap (λ a. is_allowed link.kind link.store (record { request = given.request; asked = a }) how) askeds

-- an ending fits where it may end so and says what the unit does
pub fits_at : (ending : Ending) (link : Link) (given : Given) (told may : Bool) → link.given ≡ Some given → may ≡ is_allowed link.kind link.store given ending.how → may ≡ true →
    told ≡ says ending given.request (served_of link.kind link.store given.request ending.how) → told ≡ fits_given ending link link.given
fits_at ending link given told may there may_is allowed says_so =
    says_so
    ∙ ap (λ b. b && says ending given.request (served_of link.kind link.store given.request ending.how)) (sym allowed ∙ may_is)
    ∙ ap (fits_given ending link) (sym there)

-- what is read where a request ends so
pub read_at : (kind : Kind) (store : Store) (request : Request) (how : How) (count : ℕ) (content : List ℕ) → count ≡ count_by_end kind store request how → content ≡ content_of store request count → (served_of kind store request how).content ≡ content
read_at kind store request how count content counted is = served_read kind store request how ∙ ap (content_of store request) (sym counted) ∙ sym is

expected_if : (d : ℕ) (how : How) (link : Link) (given : Given) → is_allowed link.kind link.store given how ≡ true → expected_given d how link (Some given) ≡ Some (ending_of d given.request how (served_of link.kind link.store given.request how))
expected_if d how link given may = rw may refl

ending_is : (d : ℕ) (how : How) (request asked_for : Request) (served : Served) (size : ℕ) (error : Er) (bytes : RoomyBytes) → request ≡ asked_for → IsServed served size error → bytes ≡ bytes_back asked_for served.content →
    record { device = d; request = request.id; number = request.number; how = how; size = size; error = error; taken = 0; bytes = bytes } ≡ ending_of d asked_for how served
ending_is d how request asked_for served size error bytes requests is back =
    ap (λ r. record { device = d; request = r.id; number = r.number; how = how; size = size; error = error; taken = 0; bytes = bytes }) requests
    ∙ ap (λ n. record { device = d; request = asked_for.id; number = asked_for.number; how = how; size = n; error = error; taken = 0; bytes = bytes }) is.size_is
    ∙ ap (λ e. record { device = d; request = asked_for.id; number = asked_for.number; how = how; size = served.size; error = e; taken = 0; bytes = bytes }) is.error_is
    ∙ ap (λ b. record { device = d; request = asked_for.id; number = asked_for.number; how = how; size = served.size; error = served.error; taken = 0; bytes = b }) back

-- the ending that is fit
pub expected_at : (d : ℕ) (how : How) (link : Link) (given : Given) (request : Request) (size : ℕ) (error : Er) (content : List ℕ) (bytes : RoomyBytes) → link.given ≡ Some given → is_allowed link.kind link.store given how ≡ true → request ≡ given.request →
    IsServed (served_of link.kind link.store given.request how) size error → (served_of link.kind link.store given.request how).content ≡ content → bytes ≡ bytes_back request content →
    Some (record { device = d; request = request.id; number = request.number; how = how; size = size; error = error; taken = 0; bytes = bytes }) ≡ expected_given d how link link.given
expected_at d how link given request size error content bytes there may requests is read back =
    ap (λ (e : Ending). Some e) (ending_is d how request given.request (served_of link.kind link.store given.request how) size error bytes requests is
    (back ∙ ap (λ (r : Request). bytes_back r content) requests ∙ ap (bytes_back given.request) (sym read)))
    ∙ sym (expected_if d how link given may)
    ∙ ap (expected_given d how link) (sym there)

read_few : (write : Bool) (start count size room : ℕ) (bytes : List ℕ) → count ≤ size → (write ≡ false → size ≤ room) → length (cond write [] (take count (drop start bytes))) ≤ cond write 0 room
read_few true start count size room bytes few fits = omega arith
read_few false start count size room bytes few fits = let most : length (take count (drop start bytes)) ≤ count = grind (arith, places) in omega (arith, most, few, fits refl)

-- what is read has a place in the room that the request came with
pub back_fits : (link : Link) (how : How) (given : Given) (count : ℕ) (content : List ℕ) → IsWhole given.request → is_allowed link.kind link.store given how ≡ true → count ≡ count_by_end link.kind link.store given.request how →
    content ≡ content_of link.store given.request count → length content ≤ cond given.request.write 0 given.request.bytes.room
back_fits link how given count content whole may counted is =
    let few : count ≤ given.request.size = subst (λ (n : ℕ). n ≤ given.request.size) (sym counted) (moved_asked link.kind link.store given.request given.asked how may) in
    subst (λ (xs : List ℕ). length xs ≤ cond given.request.write 0 given.request.bytes.room) (sym is)
    (read_few given.request.write given.request.start count given.request.size given.request.bytes.room link.store.bytes few whole.room)

-- ---- the end of a request

allowed_at : (link : Link) (how : How) (given : Given) → link.given ≡ Some given → allows_end link how ≡ true → is_allowed link.kind link.store given how ≡ true
allowed_at link how given there may = ap (allows_given link how) (sym there) ∙ may

-- no more is moved than there is room
pub room_at : (link : Link) (how : How) (given : Given) (count : ℕ) → link.given ≡ Some given → allows_end link how ≡ true → count ≡ count_by_end link.kind link.store given.request how → count ≤ available link.kind link.store.bytes given.request
room_at link how given count there may counted =
    subst (λ (n : ℕ). n ≤ available link.kind link.store.bytes given.request) (sym counted) (moved_fits link.kind link.store given.request given.asked how (allowed_at link how given there may))

moved_if : (write : Bool) (begun : Store) (new : List ℕ) (store : Store) → begun.bytes ≡ store.bytes → (cond write (record begun { bytes = new }) begun).bytes ≡ cond write new store.bytes
moved_if true begun new store same = refl
moved_if false begun new store same = same

moved_begun_if : (write : Bool) (begun : Store) (new : List ℕ) → (cond write (record begun { bytes = new }) begun).begun ≡ begun.begun
moved_begun_if true begun new = refl
moved_begun_if false begun new = refl

store_is : (one other : Store) → one.bytes ≡ other.bytes → one.begun ≡ other.begun → one ≡ other
store_is one other bytes begun = ap (λ xs. record { bytes = xs; begun = one.begun }) bytes ∙ ap (λ n. record { bytes = other.bytes; begun = n }) begun

written_same : (kind : Kind) (one other : List ℕ) (request : Request) (count : ℕ) → one ≡ other → stored kind one request count ≡ stored kind other request count
written_same kind one other request count same = ap (λ xs. stored kind xs request count) same

moved_bytes : (write : Bool) (grown old begun : List ℕ) (kept : Store) → begun ≡ old → (cond write (record kept { bytes = grown }) kept).bytes ≡ cond write grown kept.bytes
moved_bytes true grown old begun kept same = refl
moved_bytes false grown old begun kept same = refl

-- the store that an ended request leaves
pub store_left : (kind : Kind) (store : Store) (request : Request) (how : How) (bytes : List ℕ) (begun count : ℕ) → count ≡ count_by_end kind store request how → bytes ≡ stored kind store.bytes request count → begun ≡ (begin store request).begun →
    record { bytes = bytes; begun = begun } ≡ (served_of kind store request how).store
store_left kind store request how bytes begun count counted is counts =
    let after : Store = moved kind (begin store request) request (count_by_end kind store request how) in
    let grown : after.bytes ≡ stored kind (begin store request).bytes request (count_by_end kind store request how) = moved_bytes request.write _ store.bytes (begin store request).bytes (begin store request) (begin_bytes store request) in
    let same : bytes ≡ after.bytes =
    is ∙ ap (stored kind store.bytes request) counted ∙ sym (written_same kind (begin store request).bytes store.bytes request (count_by_end kind store request how) (begin_bytes store request)) ∙ sym grown in
    let counts_same : begun ≡ after.begun = counts ∙ sym (moved_begun_if request.write (begin store request) _) in
    store_is (record { bytes = bytes; begun = begun }) after same counts_same ∙ sym (served_store kind store request how)

-- the device's part once its request has ended
pub ended_link : (old now : Link) (how : How) (given : Given) (store : Store) → old ≡ now → old.given ≡ Some given → store ≡ (served_of old.kind old.store given.request how).store → record old { store = store; given = None } ≡ link_ended now how
ended_link old now how given store is there stores =
    ap (λ s. record old { store = s; given = None }) stores ∙ ap (ended_given old how) (sym there) ∙ ap (λ l. link_ended l how) is

begun_if : (none : Bool) (store : Store) → (cond none store (record store { begun = store.begun + 1 })).begun ≤ store.begun + 1
begun_if true store = omega arith
begun_if false store = omega arith

pub begun_most : (store : Store) (request : Request) → (begin store request).begun ≤ store.begun + 1
begun_most store request = begun_if (request.size == 0) store

size_if : (none : Bool) (room count : ℕ) → room ≤ 65536 → count ≤ room → cond none room count ≤ 65536
size_if true room count few fits = few
size_if false room count few fits = omega (arith, few, fits)

whole_few : (kind : Kind) (store : Store) (request : Request) → length store.bytes ≤ 65536 → (unit kind store request).size ≤ 65536
unfolding unit
whole_few kind store request short =
    let few : available kind (begin store request).bytes request ≤ 65536 = available_few kind (begin store request).bytes request (subst (λ (xs : List ℕ). length xs ≤ 65536) (sym (begin_bytes store request)) short) in
    size_if (request.size == 0) (available kind (begin store request).bytes request) (count_of kind (begin store request) request) few (count_fits kind (begin store request) request)

few_by : (kind : Kind) (store : Store) (request : Request) (asked : Bool) (how : How) → is_allowed kind store (record { request = request; asked = asked }) how ≡ true → length store.bytes ≤ 65536 → (served_of kind store request how).size ≤ 65536
unfolding cut
few_by kind store request asked Done may short = whole_few kind store request short
few_by kind store request asked (Cut count) may short =
    let fits : count ≤ available kind store.bytes request = moved_fits kind store request asked (Cut count) may in
    let few : available kind store.bytes request ≤ 65536 = available_few kind store.bytes request short in
    omega (arith, fits, few)

-- a unit answers no greater size than there are bytes
pub served_few : (link : Link) (how : How) (given : Given) → link.given ≡ Some given → allows_end link how ≡ true → length link.store.bytes ≤ 65536 → (served_of link.kind link.store given.request how).size ≤ 65536
served_few link how given there may short = few_by link.kind link.store given.request given.asked how (allowed_at link how given there may) short
