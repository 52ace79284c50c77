-- A unit's store, and how many bytes are moved at most.
use Rattle.std.proofs.Common.{◌≡◌, ℕ, ◌+◌, ◌-◌, ◌≤◌, Bool, true, false, cond, List, [], ◌∷◌, ◌++◌, refl, ap, subst, ◌∙◌, arith, length, take, drop, append-nil}
use Rattle.std.specs.Bool.{◌==◌}
use Rattle.std.specs.Prelude.{min, nat_lt, ◌||◌, ◌&&◌, ◌%◌}
use Rattle.std.proofs.lemmas.Bool.Decides.{nat_tests}
use Rattle.std.proofs.lemmas.List.{take-append-drop}
use Rattle.tk_types.specs.declared.line.How.{How}
use Rattle.tk_types.specs.declared.line.How.TheVariants.{Done, Cut}
use Rattle.tk_types.specs.declared.script.Kind.{Kind}
use Rattle.device_model.specs.declared.messages.Request.{Request}
use Rattle.device_model.specs.Devices.Endings.{is_allowed, served_of}
use Rattle.device_model.specs.Units.Function.{appends, available, begin, content_of, count_of, cut, may_cut, moved, unit, written}
use Rattle.device_model.specs.Units.Stores.{Store, is_log, is_spoilt}
use Rattle.dev_layer.specs.Links.{count_by_end}

begin_if : (b : Bool) (store : Store) → (cond b store (record store { begun = store.begun + 1 })).bytes ≡ store.bytes
begin_if true store = refl
begin_if false store = refl

-- a request that is begun leaves the bytes
pub begin_bytes : (store : Store) (request : Request) → (begin store request).bytes ≡ store.bytes
begin_bytes store request = begin_if (request.size == 0) store

pub served_store : (kind : Kind) (store : Store) (request : Request) (how : How) → (served_of kind store request how).store ≡ moved kind (begin store request) request (count_by_end kind store request how)
unfolding unit cut
served_store kind store request Done = refl
served_store kind store request (Cut count) = refl

pub served_content : (kind : Kind) (store : Store) (request : Request) (how : How) → (served_of kind store request how).content ≡ content_of (begin store request) request (count_by_end kind store request how)
unfolding unit cut
served_content kind store request Done = refl
served_content kind store request (Cut count) = refl

content_same : (write : Bool) (start count : ℕ) (bytes others : List ℕ) → bytes ≡ others → cond write [] (take count (drop start bytes)) ≡ cond write [] (take count (drop start others))
content_same write start count bytes others same = ap (λ xs. cond write [] (take count (drop start xs))) same

-- what is read, from the store as it was
pub served_read : (kind : Kind) (store : Store) (request : Request) (how : How) → (served_of kind store request how).content ≡ content_of store request (count_by_end kind store request how)
served_read kind store request how = served_content kind store request how ∙ content_same request.write request.start (count_by_end kind store request how) (begin store request).bytes store.bytes (begin_bytes store request)

count_if : (none spoilt : Bool) (size room : ℕ) → cond none 0 (cond spoilt 0 (min size room)) ≤ room
count_if true spoilt size room = omega arith
count_if false true size room = omega arith
count_if false false size room = omega arith

pub count_fits : (kind : Kind) (store : Store) (request : Request) → count_of kind store request ≤ available kind store.bytes request
count_fits kind store request = count_if (request.size == 0) (is_spoilt kind store.begun) request.size (available kind store.bytes request)

whole_fits : (kind : Kind) (store : Store) (request : Request) → count_of kind (begin store request) request ≤ available kind store.bytes request
whole_fits kind store request = subst (λ (bytes : List ℕ). count_of kind (begin store request) request ≤ available kind bytes request) (begin_bytes store request) (count_fits kind (begin store request) request)

cut_fits : (count whole room : ℕ) → whole ≤ room → (count == 0 || (count % 64 == 0 && nat_lt count whole)) ≡ true → count ≤ room
cut_fits count whole room fits may = grind (arith, nat_tests, may, fits)

second_of : (a b : Bool) → (a && b) ≡ true → b ≡ true
second_of true b is = is
second_of false b is = absurd (cc is)

-- an ending that is allowed moves no more than there is
pub moved_fits : (kind : Kind) (store : Store) (request : Request) (asked : Bool) (how : How) → is_allowed kind store (record { request = request; asked = asked }) how ≡ true → count_by_end kind store request how ≤ available kind store.bytes request
unfolding may_cut
moved_fits kind store request asked Done may = whole_fits kind store request
moved_fits kind store request asked (Cut count) may =
    cut_fits count (count_of kind (begin store request) request) (available kind store.bytes request) (whole_fits kind store request)
    (second_of asked (count == 0 || (count % 64 == 0 && nat_lt count (count_of kind (begin store request) request))) may)

count_least : (none spoilt : Bool) (size room : ℕ) → cond none 0 (cond spoilt 0 (min size room)) ≤ size
count_least true spoilt size room = omega arith
count_least false true size room = omega arith
count_least false false size room = omega arith

whole_asked : (kind : Kind) (begun : Store) (request : Request) → count_of kind begun request ≤ request.size
whole_asked kind begun request = count_least (request.size == 0) (is_spoilt kind begun.begun) request.size (available kind begun.bytes request)

-- nor does it move more than was asked for
pub moved_asked : (kind : Kind) (store : Store) (request : Request) (asked : Bool) (how : How) → is_allowed kind store (record { request = request; asked = asked }) how ≡ true → count_by_end kind store request how ≤ request.size
unfolding may_cut
moved_asked kind store request asked Done may = whole_asked kind (begin store request) request
moved_asked kind store request asked (Cut count) may =
    cut_fits count (count_of kind (begin store request) request) request.size (whole_asked kind (begin store request) request)
    (second_of asked (count == 0 || (count % 64 == 0 && nat_lt count (count_of kind (begin store request) request))) may)

available_if : (grows : Bool) (held start : ℕ) → held ≤ 65536 → cond grows (65536 - held) (held - start) ≤ 65536
available_if true held start short = omega arith
available_if false held start short = omega (arith, short)

pub available_few : (kind : Kind) (bytes : List ℕ) (request : Request) → length bytes ≤ 65536 → available kind bytes request ≤ 65536
available_few kind bytes request short = available_if (appends kind request) (length bytes) request.start short

nothing_if : (grows : Bool) (bytes : List ℕ) (start : ℕ) → cond grows (bytes ++ []) (take start bytes ++ ([] ++ drop (start + 0) bytes)) ≡ bytes
nothing_if true bytes start = append-nil bytes
nothing_if false bytes start = let none : start + 0 ≡ start = omega arith in ap (λ n. take start bytes ++ drop n bytes) none ∙ take-append-drop start bytes

-- no byte that is written leaves the store
pub nothing_written : (kind : Kind) (bytes : List ℕ) (request : Request) (new : List ℕ) → length new ≡ 0 → written kind bytes request new ≡ bytes
nothing_written kind bytes request [] none = nothing_if (is_log kind) bytes request.start
nothing_written kind bytes request (x ∷ new) none = absurd (omega (arith, none))
