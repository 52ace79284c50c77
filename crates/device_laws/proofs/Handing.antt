-- Requests that go to drivers leave nobody to serve.
use Rattle.std.proofs.Common.{◌≡◌, ℕ, zero, suc, ◌+◌, Bool, true, false, not, List, [], ◌∷◌, Option, Some, None, refl, ap, sym, ◌∙◌}
use Rattle.std.specs.Prelude.{fold, slice_set, if◌then◌else◌, ◌==◌, ◌&&◌, ◌||◌, count_by, find, drop, nat_lt}
use Rattle.std.specs.List.{list_any}
use Rattle.std.specs.Option.{is_some, option_or}
use Rattle.kernel_model.specs.Words.Orders.{entry, taken_from}
use Rattle.kernel_model.specs.Tasks.Base.{Base, fifo_queue}
use Rattle.object_model.specs.Servings.{first_serving}
use Rattle.device_model.specs.declared.rows.Life.{Life}
use Rattle.device_model.specs.declared.rows.Life.TheVariants as life
use Rattle.device_model.specs.declared.rows.Opened.{Opened}
use Rattle.device_model.specs.declared.rows.Wish.{Wish}
use Rattle.device_model.specs.declared.rows.Wish.TheVariants as wish
use Rattle.device_model.specs.Devices.Tables.{Given, Link, Row, Devices, at_driver, device_ids, first_queued, given_in, handed, handed_first, handed_given, handed_link, handed_row, has_ended, is_queued, link_at, link_handed, opened_at, request_in, request_of, row_at, wish_of}
use Rattle.device_model.specs.Devices.Handing.{any_given, hand_first, hand_over, handed_one, handed_unless, has_given, suspension_object}
use Rattle.device_model.specs.Devices.Endings.{DevParts, close_object}
use Rattle.device_model.specs.Devices.Requests.{acceptance_object, ending_object, has_ended_of, has_ended_with, has_place, is_unfinished_on, picked}
use Rattle.device_model.specs.Devices.Servings as servings
use Rattle.device_laws.specs.Words.{NobodyIsServed}
use Rattle.device_laws.proofs.Follows.{first_waits}

-- what a request that goes to its driver leaves of the table, and what is known of it
record Goes (dv after : Devices) (d : ℕ) : Type 0 where
  link : Link
  id : ℕ
  row : Row
  linked : link_at dv d ≡ Some link
  free : link.given ≡ None
  there : row_at dv id ≡ Some row
  queued : is_queued row.life ≡ true
  is : after ≡ handed_row dv d link id (Some row)

by_row : (P : Devices → Type 0) (dv : Devices) (d : ℕ) (link : Link) (id : ℕ) → link_at dv d ≡ Some link → link.given ≡ None → first_queued dv d ≡ Some id → P dv → ((after : Devices) → Goes dv after d → P after) →
    (slot : Option Row) → row_at dv id ≡ slot → P (handed_row dv d link id slot)
by_row P dv d link id linked free first same goes None there = same
by_row P dv d link id linked free first same goes (Some row) there =
    goes (handed_row dv d link id (Some row)) (record { link = link; id = id; row = row; linked = linked; free = free; there = there; queued = first_waits dv d id row first there; is = refl })

by_first : (P : Devices → Type 0) (dv : Devices) (d : ℕ) (link : Link) → link_at dv d ≡ Some link → link.given ≡ None → P dv → ((after : Devices) → Goes dv after d → P after) →
    (first : Option ℕ) → first_queued dv d ≡ first → P (handed_first dv d link first)
by_first P dv d link linked free same goes None first = same
by_first P dv d link linked free same goes (Some id) first = by_row P dv d link id linked free first same goes (row_at dv id) refl

by_given : (P : Devices → Type 0) (dv : Devices) (d : ℕ) (link : Link) → link_at dv d ≡ Some link → P dv → ((after : Devices) → Goes dv after d → P after) →
    (given : Option Given) → link.given ≡ given → P (handed_given dv d link given)
by_given P dv d link linked same goes (Some given) free = same
by_given P dv d link linked same goes None free = by_first P dv d link linked free same goes (first_queued dv d) refl

by_link : (P : Devices → Type 0) (dv : Devices) (d : ℕ) → P dv → ((after : Devices) → Goes dv after d → P after) → (link : Option Link) → link_at dv d ≡ link → P (handed_link dv d link)
by_link P dv d same goes None linked = same
by_link P dv d same goes (Some link) linked = by_given P dv d link linked same goes link.given refl

-- nothing changes, or one request goes
handed_cases : (P : Devices → Type 0) (dv : Devices) (d : ℕ) → P dv → ((after : Devices) → Goes dv after d → P after) → P (handed dv d)
unfolding handed
handed_cases P dv d same goes = by_link P dv d same goes (link_at dv d) refl

-- ---- tables of which one slot was written

taken_same : {A : Type 0} (n : ℕ) (xs : List (Option A)) (i : ℕ) (x y : A) → entry xs i ≡ Some x → taken_from n (slice_set xs i (Some y)) ≡ taken_from n xs
taken_same n [] i x y there = refl
taken_same n (None ∷ xs) zero x y there = absurd (cc there)
taken_same n (Some z ∷ xs) zero x y there = refl
taken_same n (None ∷ xs) (suc i) x y there = taken_same (n + 1) xs i x y there
taken_same n (Some z ∷ xs) (suc i) x y there = ap (λ ids. n ∷ ids) (taken_same (n + 1) xs i x y there)

behind_same : {A : Type 0} (n : ℕ) (xs : List (Option A)) (i : ℕ) (x y : A) → entry xs i ≡ Some x → taken_from n (drop 1 (slice_set xs i (Some y))) ≡ taken_from n (drop 1 xs)
behind_same n [] i x y there = refl
behind_same n (z ∷ xs) zero x y there = refl
behind_same n (z ∷ xs) (suc i) x y there = taken_same n xs i x y there

counted_from : {A : Type 0} (p : Option A → Bool) (n : ℕ) (xs : List (Option A)) (i : ℕ) (x y : A) → entry xs i ≡ Some x → p (Some y) ≡ p (Some x) →
    fold (λ (a : ℕ) (z : Option A). a + (if p z then 1 else 0)) n (slice_set xs i (Some y)) ≡ fold (λ (a : ℕ) (z : Option A). a + (if p z then 1 else 0)) n xs
counted_from p n [] i x y there same = refl
counted_from {A = A} p n (z ∷ xs) zero x y there same =
    ap (λ (test : Bool). fold (λ (a : ℕ) (z : Option A). a + (if p z then 1 else 0)) (n + (if test then 1 else 0)) xs) (same ∙ ap p (sym there))
counted_from p n (z ∷ xs) (suc i) x y there same = counted_from p (n + (if p z then 1 else 0)) xs i x y there same

counted_same : {A : Type 0} (p : Option A → Bool) (xs : List (Option A)) (i : ℕ) (x y : A) → entry xs i ≡ Some x → p (Some y) ≡ p (Some x) → count_by p (slice_set xs i (Some y)) ≡ count_by p xs
counted_same p xs i x y there same = counted_from p 0 xs i x y there same

test_same : {A : Type 0} (f : Option A → Bool) (xs : List (Option A)) (i j : ℕ) (x y : A) → entry xs i ≡ Some x → f (Some y) ≡ f (Some x) → f (entry (slice_set xs i (Some y)) j) ≡ f (entry xs j)
test_same f [] i j x y there same = refl
test_same f (z ∷ xs) zero zero x y there same = same ∙ ap f (sym there)
test_same f (z ∷ xs) zero (suc j) x y there same = refl
test_same f (z ∷ xs) (suc i) zero x y there same = refl
test_same f (z ∷ xs) (suc i) (suc j) x y there same = test_same f xs i j x y there same

-- a test that fails where the slot is written holds elsewhere as before
test_elsewhere : {A : Type 0} (f : Option A → Bool) (xs : List (Option A)) (i j : ℕ) (x y : A) → entry xs i ≡ Some x → f (Some x) ≡ false → f (entry xs j) ≡ true → f (entry (slice_set xs i (Some y)) j) ≡ true
test_elsewhere f [] i j x y there fails holds = holds
test_elsewhere f (z ∷ xs) zero zero x y there fails holds = absurd (cc (sym (ap f there) ∙ holds, fails))
test_elsewhere f (z ∷ xs) zero (suc j) x y there fails holds = holds
test_elsewhere f (z ∷ xs) (suc i) zero x y there fails holds = holds
test_elsewhere f (z ∷ xs) (suc i) (suc j) x y there fails holds = test_elsewhere f xs i j x y there fails holds

or_true : (one : Bool) → (one || true) ≡ true
or_true true = refl
or_true false = refl

any_written : {A : Type 0} (p : A → Bool) (xs : List A) (i : ℕ) (y : A) → p y ≡ true → list_any p xs ≡ true → list_any p (slice_set xs i y) ≡ true
any_written p [] i y new any = any
any_written p (x ∷ xs) zero y new any = ap (λ (test : Bool). test || list_any p xs) new
any_written p (x ∷ xs) (suc i) y new any = by_test (p x) any (any_written p xs i y new)
  where
    by_test : (test : Bool) → (test || list_any p xs) ≡ true → (list_any p xs ≡ true → list_any p (slice_set xs i y) ≡ true) → (test || list_any p (slice_set xs i y)) ≡ true
    by_test true any rest = refl
    by_test false any rest = rest any

find_same : (p q : ℕ → Bool) (ids : List ℕ) → ((id : ℕ) → q id ≡ p id) → find q ids ≡ find p ids
find_same p q [] same = refl
find_same p q (id ∷ ids) same = ap (λ (test : Bool). if test then Some id else find q ids) (same id) ∙ ap (λ (rest : Option ℕ). if p id then Some id else rest) (find_same p q ids same)

none_first : (one other : Option DevParts) → option_or one other ≡ None → (one ≡ None) × (other ≡ None)
none_first None other none = (refl, none)
none_first (Some q) other none = absurd (cc none)

-- what is served nowhere is served nowhere still
none_still : (serve again : ℕ → Option DevParts) (ids : List ℕ) → ((id : ℕ) → serve id ≡ None → again id ≡ None) → first_serving serve ids ≡ None → first_serving again ids ≡ None
unfolding first_serving
none_still serve again [] still none = refl
none_still serve again (id ∷ ids) still none =
    let both = none_first (serve id) (first_serving serve ids) none in
    ap (λ (one : Option DevParts). option_or one (first_serving again ids)) (still id both.0) ∙ none_still serve again ids still both.1

-- ---- what stays as it was

not_over : (now : Life) → is_queued now ≡ true → has_ended now ≡ false
not_over life.Queued queued = refl
not_over life.AtDriver queued = refl
not_over (life.Ended size error) queued = absurd (cc queued)

-- the request as it is with its driver
abbrev away : Row → Row
away row = record row { bytes = []; life = life.AtDriver }

-- the link as it is then
abbrev busy : ℕ → Link → ℕ → Row → Link
busy d link id row = link_handed d link (request_of id (link.number + 1) row)

ids_same : (dv after : Devices) (d : ℕ) → Goes dv after d → device_ids after ≡ device_ids dv
ids_same dv after d goes = ap (λ (now : Devices). device_ids now) goes.is ∙ behind_same 1 dv.links d goes.link (busy d goes.link goes.id goes.row) goes.linked

and_same : (one other : Bool) → other ≡ false → (one && false) ≡ (one && other)
and_same true other is = sym is
and_same false other is = refl

place_same : (dv after : Devices) (d other : ℕ) → Goes dv after d → has_place after other ≡ has_place dv other
place_same dv after d other goes =
    ap (λ (now : Devices). has_place now other) goes.is
    ∙ ap (λ (n : ℕ). nat_lt n 16) (counted_same (is_unfinished_on other) dv.rows goes.id goes.row (away goes.row) goes.there
    (ap (λ (over : Bool). (goes.row.device == other) && not over) (sym (not_over goes.row.life goes.queued))))

ended_of_same : (dv after : Devices) (d dd n : ℕ) → Goes dv after d → has_ended_of dd (row_at after n) ≡ has_ended_of dd (row_at dv n)
ended_of_same dv after d dd n goes =
    ap (λ (now : Devices). has_ended_of dd (row_at now n)) goes.is
    ∙ test_same (has_ended_of dd) dv.rows goes.id n goes.row (away goes.row) goes.there
    (ap (λ (over : Bool). (goes.row.descriptor == dd) && over) (sym (not_over goes.row.life goes.queued)))

ended_with_same : (dv after : Devices) (d dd serial n : ℕ) → Goes dv after d → has_ended_with dd serial (row_at after n) ≡ has_ended_with dd serial (row_at dv n)
ended_with_same dv after d dd serial n goes =
    ap (λ (now : Devices). has_ended_with dd serial (row_at now n)) goes.is
    ∙ test_same (has_ended_with dd serial) dv.rows goes.id n goes.row (away goes.row) goes.there
    (ap (λ (over : Bool). (goes.row.serial == serial) && ((goes.row.descriptor == dd) && over)) (sym (not_over goes.row.life goes.queued)))

picked_same : (dv after : Devices) (d dd : ℕ) → Goes dv after d → (asked_for : Wish) → picked after dd asked_for ≡ picked dv dd asked_for
unfolding picked
picked_same dv after d dd goes wish.Nothing = refl
picked_same dv after d dd goes (wish.Acceptance transfer stays) = refl
picked_same dv after d dd goes (wish.Ending named serial own) = ap (λ (test : Bool). if test then Some named else None) (ended_with_same dv after d dd serial named goes)
picked_same dv after d dd goes wish.AnyEnding =
    ap (λ (now : Devices). find (λ n. has_ended_of dd (row_at after n)) now.ended) goes.is
    ∙ find_same (λ n. has_ended_of dd (row_at dv n)) (λ n. has_ended_of dd (row_at after n)) dv.ended (λ n. ended_of_same dv after d dd n goes)

wishes_same : (dv after : Devices) (d : ℕ) → Goes dv after d → (t : ℕ) → wish_of after t ≡ wish_of dv t
wishes_same dv after d goes t = ap (λ (now : Devices). wish_of now t) goes.is

opened_same : (dv after : Devices) (d : ℕ) → Goes dv after d → after.opened ≡ dv.opened
opened_same dv after d goes = ap (λ (now : Devices). now.opened) goes.is

of_descriptor_same : (dv after : Devices) (d dd n : ℕ) → Goes dv after d → servings.is_of_descriptor dd (row_at after n) ≡ servings.is_of_descriptor dd (row_at dv n)
of_descriptor_same dv after d dd n goes =
    ap (λ (now : Devices). servings.is_of_descriptor dd (row_at now n)) goes.is
    ∙ test_same (servings.is_of_descriptor dd) dv.rows goes.id n goes.row (away goes.row) goes.there refl

given_same : (dv after : Devices) (d dd : ℕ) → Goes dv after d → (id : Option ℕ) → servings.is_request_of after dd id ≡ servings.is_request_of dv dd id
given_same dv after d dd goes None = refl
given_same dv after d dd goes (Some n) = of_descriptor_same dv after d dd n goes

-- a driver that has a request of a descriptor has it still
driver_still : (dv after : Devices) (d dd : ℕ) → Goes dv after d → (slot : Option Opened) → servings.driver_has dv dd slot ≡ true → servings.driver_has after dd slot ≡ true
unfolding at_driver
driver_still dv after d dd goes None has = absurd (cc has)
driver_still dv after d dd goes (Some opened) has =
    ap (λ (now : Devices). servings.is_request_of after dd (request_in (given_in (link_at now opened.device)))) goes.is
    ∙ (given_same dv after d dd goes (request_in (given_in (link_at (handed_row dv d goes.link goes.id (Some goes.row)) opened.device)))
    ∙ test_elsewhere (λ link. servings.is_request_of dv dd (request_in (given_in link))) dv.links d opened.device goes.link (busy d goes.link goes.id goes.row) goes.linked
    (ap (λ (given : Option Given). servings.is_request_of dv dd (request_in given)) goes.free) has)

any_still : (dv after : Devices) (d : ℕ) → Goes dv after d → any_given dv ≡ true → any_given after ≡ true
any_still dv after d goes any = ap (λ (now : Devices). any_given now) goes.is ∙ any_written has_given dv.links d (Some (busy d goes.link goes.id goes.row)) refl any

-- ---- nobody is served still

by_wish : (p q : DevParts) (d t : ℕ) (asked_for : Wish) → servings.admitted_wish p d t asked_for ≡ None → servings.admitted_wish q d t asked_for ≡ None
by_wish p q d t wish.Nothing none = refl
by_wish p q d t (wish.Acceptance transfer stays) none = absurd (cc none)
by_wish p q d t (wish.Ending named serial own) none = refl
by_wish p q d t wish.AnyEnding none = refl

by_place : (p q : DevParts) (d t : ℕ) (place : Bool) → wish_of q.table t ≡ wish_of p.table t → servings.admitted_if place p d t ≡ None → servings.admitted_if place q d t ≡ None
by_place p q d t false same none = refl
by_place p q d t true same none = ap (λ (asked_for : Wish). servings.admitted_wish q d t asked_for) same ∙ by_wish p q d t (wish_of p.table t) none

acceptance_still : (p q : DevParts) (d : ℕ) (waiters : List ℕ) → has_place q.table d ≡ has_place p.table d → ((t : ℕ) → wish_of q.table t ≡ wish_of p.table t) →
    servings.acceptance_by p d waiters ≡ None → servings.acceptance_by q d waiters ≡ None
acceptance_still p q d [] place wishes none = refl
acceptance_still p q d (t ∷ ts) place wishes none =
    ap (λ (has : Bool). servings.admitted_if has q d t) place ∙ by_place p q d t (has_place p.table d) (wishes t) none

by_picked : (p q : DevParts) (t : ℕ) (one : Option ℕ) → servings.ending_claimed p t one ≡ None → servings.ending_claimed q t one ≡ None
by_picked p q t None none = refl
by_picked p q t (Some id) none = absurd (cc none)

ending_still : (p q : DevParts) (dd : ℕ) (first : Option ℕ) → ((t : ℕ) → picked q.table dd (wish_of q.table t) ≡ picked p.table dd (wish_of p.table t)) →
    servings.ending_of_first p dd first ≡ None → servings.ending_of_first q dd first ≡ None
ending_still p q dd None same none = refl
ending_still p q dd (Some t) same none =
    ap (λ (one : Option ℕ). servings.ending_claimed q t one) (same t) ∙ by_picked p q t (picked p.table dd (wish_of p.table t)) none

busy_then : (p : DevParts) (dd t : ℕ) (has : Bool) → servings.closed_unless has p dd t ≡ None → has ≡ true
busy_then p dd t true none = refl
busy_then p dd t false none = absurd (cc none)

close_still : (p q : DevParts) (dd : ℕ) (waiters : List ℕ) → (servings.is_with_driver p.table dd ≡ true → servings.is_with_driver q.table dd ≡ true) →
    servings.close_by p dd waiters ≡ None → servings.close_by q dd waiters ≡ None
close_still p q dd [] still none = refl
close_still p q dd (t ∷ ts) still none =
    ap (λ (has : Bool). servings.closed_unless has q dd t) (still (busy_then p dd t (servings.is_with_driver p.table dd) none))

given_then : (p : DevParts) (t : ℕ) (any : Bool) → servings.suspended_unless any p t ≡ None → any ≡ true
given_then p t true none = refl
given_then p t false none = absurd (cc none)

suspension_still : (p q : DevParts) (waiters : List ℕ) → (any_given p.table ≡ true → any_given q.table ≡ true) →
    servings.suspension_by p waiters ≡ None → servings.suspension_by q waiters ≡ None
suspension_still p q [] still none = refl
suspension_still p q (t ∷ ts) still none = ap (λ (any : Bool). servings.suspended_unless any q t) (still (given_then p t (any_given p.table) none))

with_devices : DevParts → Devices → DevParts
with_devices p dv = record p { table = dv }

-- a request that goes to its driver leaves nobody to serve
quiet_after : (p : DevParts) (dv after : Devices) (d : ℕ) → Goes dv after d → NobodyIsServed (with_devices p dv) → NobodyIsServed (with_devices p after)
unfolding with_devices servings.serve_acceptances servings.serve_acceptance servings.serve_endings servings.serve_ending servings.serve_closes servings.serve_close servings.serve_suspension servings.is_with_driver
quiet_after p dv after d goes quiet = record {
  acceptances =
      ap (λ (ids : List ℕ). first_serving (servings.serve_acceptance (with_devices p after)) ids) (ids_same dv after d goes)
      ∙ none_still (servings.serve_acceptance (with_devices p dv)) (servings.serve_acceptance (with_devices p after)) (device_ids dv)
      (λ other none. acceptance_still (with_devices p dv) (with_devices p after) other (fifo_queue p.base (acceptance_object other)) (place_same dv after d other goes) (wishes_same dv after d goes) none) quiet.acceptances;
  endings =
      ap (λ (slots : List (Option Opened)). first_serving (servings.serve_ending (with_devices p after)) (taken_from 1 (drop 1 slots))) (opened_same dv after d goes)
      ∙ none_still (servings.serve_ending (with_devices p dv)) (servings.serve_ending (with_devices p after)) (taken_from 1 (drop 1 dv.opened))
      (λ dd none.
      ap (λ (first : Option ℕ). servings.ending_of_first (with_devices p after) dd first)
      (find_same (λ t. is_some (picked dv dd (wish_of dv t))) (λ t. is_some (picked after dd (wish_of after t))) (fifo_queue p.base (ending_object dd)) (λ t. ap is_some (wanted_same dd t)))
      ∙ ending_still (with_devices p dv) (with_devices p after) dd (find (λ t. is_some (picked dv dd (wish_of dv t))) (fifo_queue p.base (ending_object dd))) (wanted_same dd) none) quiet.endings;
  closes =
      ap (λ (slots : List (Option Opened)). first_serving (servings.serve_close (with_devices p after)) (taken_from 1 (drop 1 slots))) (opened_same dv after d goes)
      ∙ none_still (servings.serve_close (with_devices p dv)) (servings.serve_close (with_devices p after)) (taken_from 1 (drop 1 dv.opened))
      (λ dd none. close_still (with_devices p dv) (with_devices p after) dd (fifo_queue p.base (close_object dd))
      (λ has. ap (λ (slots : List (Option Opened)). servings.driver_has after dd (entry slots dd)) (opened_same dv after d goes) ∙ driver_still dv after d dd goes (opened_at dv dd) has) none) quiet.closes;
  suspension = suspension_still (with_devices p dv) (with_devices p after) (fifo_queue p.base suspension_object) (any_still dv after d goes) quiet.suspension;
}
  where
    wanted_same : (dd t : ℕ) → picked after dd (wish_of after t) ≡ picked dv dd (wish_of dv t)
    wanted_same dd t = picked_same dv after d dd goes (wish_of after t) ∙ ap (λ (asked_for : Wish). picked dv dd asked_for) (wishes_same dv after d goes t)

handed_quiet : (p : DevParts) (dv : Devices) (d : ℕ) → NobodyIsServed (with_devices p dv) → NobodyIsServed (with_devices p (handed dv d))
handed_quiet p dv d quiet = handed_cases (λ now. NobodyIsServed (with_devices p now)) dv d quiet (λ after goes. quiet_after p dv after d goes quiet)

all_quiet : (p : DevParts) (ids : List ℕ) (dv : Devices) → NobodyIsServed (with_devices p dv) → NobodyIsServed (with_devices p (fold handed dv ids))
all_quiet p [] dv quiet = quiet
all_quiet p (d ∷ ids) dv quiet = all_quiet p ids (handed dv d) (handed_quiet p dv d quiet)

unless_quiet : (p : DevParts) (waiters : List ℕ) → NobodyIsServed p → NobodyIsServed (with_devices p (handed_unless waiters p.table))
unfolding with_devices
unless_quiet p [] quiet = all_quiet p (device_ids p.table) p.table quiet
unless_quiet p (t ∷ ts) quiet = quiet

pub hand_over_quiet : (p : DevParts) (b : Base) → NobodyIsServed p → NobodyIsServed (record p { table = hand_over b p.table })
unfolding with_devices hand_over
hand_over_quiet p b quiet = unless_quiet p (fifo_queue b suspension_object) quiet

one_quiet : (p : DevParts) (first : Option ℕ) → NobodyIsServed p → NobodyIsServed (with_devices p (handed_one first p.table))
unfolding with_devices
one_quiet p None quiet = quiet
one_quiet p (Some d) quiet = handed_quiet p p.table d quiet

pub hand_first_quiet : (p : DevParts) → NobodyIsServed p → NobodyIsServed (record p { table = hand_first p.table })
unfolding with_devices hand_first
hand_first_quiet p quiet = one_quiet p (find (λ d. is_some (first_queued p.table d)) (device_ids p.table)) quiet
