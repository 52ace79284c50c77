-- Requests that go to their drivers leave nobody to serve: a device has as many unfinished requests as before, nothing has
-- ended, and no driver has got rid of one.
use Rattle.std.proofs.Common.{◌≡◌, ℕ, zero, suc, ◌+◌, Bool, true, false, cond, ◌&&◌, ◌||◌, List, [], ◌∷◌, Option, Some, None, refl, ◌∙◌, ap, sym, subst}
use Rattle.std.specs.Prelude.{count_by, drop, nat_lt, slice_set}
use Rattle.std.specs.Bool.{◌==◌}
use Rattle.std.specs.List.{find, list_any, slice_index_or}
use Rattle.std.specs.Option.{is_some, option_map, option_or}
use Rattle.std.proofs.lemmas.List.Sums.{sum_by-cons}
use Rattle.tk_types.specs.declared.run.Mode.{Mode}
use Rattle.tk_types.specs.declared.run.Mode.TheVariants as modes
use Rattle.kernel_model.specs.Words.Orders.{entry, taken_from}
use Rattle.kernel_model.specs.Tasks.Base.{Base, fifo_queue}
use Rattle.object_model.specs.Servings.{first_serving as first_of_ids}
use Rattle.device_model.specs.declared.rows.Life.{Life}
use Rattle.device_model.specs.declared.rows.Life.TheVariants.{Queued, AtDriver, Ended}
use Rattle.device_model.specs.declared.rows.Opened.{Opened}
use Rattle.device_model.specs.declared.rows.Wish.{Wish}
use Rattle.device_model.specs.declared.rows.Wish.TheVariants as wish
use Rattle.device_model.specs.Devices.Tables.{Devices, Given, Link, Row, at_driver, device_ids, first_queued, given_in, handed, handed_first, handed_given, handed_link, handed_row, is_queued, link_at, link_handed, opened_at, queues_on, request_in, request_of, row_at, wish_of}
use Rattle.device_model.specs.Devices.Handing.{any_given, hand_first, hand_over, handed_all, handed_one, handed_unless, has_given, suspension_object}
use Rattle.device_model.specs.Devices.Endings.{DevParts, close_object}
use Rattle.device_model.specs.Devices.Requests.{acceptance_object, ending_object, has_ended_of, has_ended_with, has_place, is_unfinished_on, picked}
use Rattle.device_model.specs.Devices.Servings.{acceptance_by, admitted_if, admitted_wish, close_by, closed_unless, driver_has, ending_claimed, ending_of_first, is_of_descriptor, is_request_of, is_with_driver, serve_acceptance, serve_acceptances, serve_close, serve_closes, serve_ending, serve_endings, serve_suspension, suspended_unless, suspension_by}
use Rattle.machine_model.specs.States.Objects.{Parts, dev_parts, first_serving, kinds, serve_object}
use Rattle.machine_model.specs.Events.Settle.{handed as handed_parts}
use Rattle.kernel_lemmas.proofs.Tables.{entry_each, entry_there}

-- ---- what a hand over leaves

-- what serving reads of the devices is as before, but that a driver may have a request now
pub record AsReady (dv now : Devices) : Type 0 where
  pub ids : device_ids now ≡ device_ids dv
  pub unfinished : (d : ℕ) → count_by (is_unfinished_on d) now.rows ≡ count_by (is_unfinished_on d) dv.rows
  pub wishes : now.wishes ≡ dv.wishes
  pub opened : now.opened ≡ dv.opened
  pub ended : now.ended ≡ dv.ended
  pub has_ended : (dd id : ℕ) → has_ended_of dd (row_at now id) ≡ has_ended_of dd (row_at dv id)
  pub has_ended_by : (dd serial id : ℕ) → has_ended_with dd serial (row_at now id) ≡ has_ended_with dd serial (row_at dv id)
  pub descriptor : (dd id : ℕ) → is_of_descriptor dd (row_at now id) ≡ is_of_descriptor dd (row_at dv id)
  pub given : (d id : ℕ) → at_driver dv d ≡ Some id → at_driver now d ≡ Some id
  pub any_given : any_given dv ≡ true → any_given now ≡ true

ready_itself : (dv : Devices) → AsReady dv dv
ready_itself dv = record {
  ids = refl;
  unfinished = λ d. refl;
  wishes = refl;
  opened = refl;
  ended = refl;
  has_ended = λ dd id. refl;
  has_ended_by = λ dd serial id. refl;
  descriptor = λ dd id. refl;
  given = λ d id is. is;
  any_given = λ is. is;
}

ready_then : (a b c : Devices) → AsReady a b → AsReady b c → AsReady a c
ready_then a b c first then = record {
  ids = then.ids ∙ first.ids;
  unfinished = λ d. then.unfinished d ∙ first.unfinished d;
  wishes = then.wishes ∙ first.wishes;
  opened = then.opened ∙ first.opened;
  ended = then.ended ∙ first.ended;
  has_ended = λ dd id. then.has_ended dd id ∙ first.has_ended dd id;
  has_ended_by = λ dd serial id. then.has_ended_by dd serial id ∙ first.has_ended_by dd serial id;
  descriptor = λ dd id. then.descriptor dd id ∙ first.descriptor dd id;
  given = λ d id is. then.given d id (first.given d id is);
  any_given = λ is. then.any_given (first.any_given is);
}

-- ---- one request goes

-- a taken slot that is written stays taken
taken_same : {A : Type 0} → (from : ℕ) (slots : List (Option A)) (i : ℕ) (k now : A) → entry slots i ≡ Some k → taken_from from (slice_set slots i (Some now)) ≡ taken_from from slots
taken_same from [] i k now at = refl
taken_same from (slot ∷ slots) zero k now at = let e : slot ≡ Some k = at in subst (λ (it : Option _). taken_from from (Some now ∷ slots) ≡ taken_from from (it ∷ slots)) (sym e) refl
taken_same from (None ∷ slots) (suc i) k now at = taken_same (from + 1) slots i k now at
taken_same from (Some other ∷ slots) (suc i) k now at = ap (λ (ids : List ℕ). from ∷ ids) (taken_same (from + 1) slots i k now at)

ids_same : {A : Type 0} → (slots : List (Option A)) (d : ℕ) (k now : A) → entry slots d ≡ Some k → taken_from 1 (drop 1 (slice_set slots d (Some now))) ≡ taken_from 1 (drop 1 slots)
ids_same [] d k now at = refl
ids_same (slot ∷ slots) zero k now at = refl
ids_same (slot ∷ slots) (suc d) k now at = taken_same 1 slots d k now at

abbrev as_number : Bool → ℕ
as_number test = cond test 1 0

-- a row that is written and counts as before leaves the number of those that count
count_same : {A : Type 0} → (passes : A → Bool) (xs : List A) (i : ℕ) (y : A) → ((x : A) → (j : ℕ) → j ≡ i → passes y ≡ passes x) → count_by passes (slice_set xs i y) ≡ count_by passes xs
count_same passes [] i y same = refl
count_same passes (x ∷ xs) zero y same = sum_by-cons (λ it. as_number (passes it)) y xs ∙ ap (λ test. as_number test + count_by passes xs) (same x 0 refl) ∙ sym (sum_by-cons (λ it. as_number (passes it)) x xs)
count_same passes (x ∷ xs) (suc i) y same =
    sum_by-cons (λ it. as_number (passes it)) x (slice_set xs i y)
    ∙ ap (λ n. as_number (passes x) + n) (count_same passes xs i y (λ it j is. same it (suc j) (ap (λ n. suc n) is)))
    ∙ sym (sum_by-cons (λ it. as_number (passes it)) x xs)

count_at : {A : Type 0} → (passes : Option A → Bool) (xs : List (Option A)) (i : ℕ) (k : A) (y : Option A) → entry xs i ≡ Some k → passes y ≡ passes (Some k) → count_by passes (slice_set xs i y) ≡ count_by passes xs
count_at passes [] i k y at same = refl
count_at passes (x ∷ xs) zero k y at same =
    sum_by-cons (λ it. as_number (passes it)) y xs ∙ ap (λ test. as_number test + count_by passes xs) (same ∙ ap passes (sym at)) ∙ sym (sum_by-cons (λ it. as_number (passes it)) x xs)
count_at passes (x ∷ xs) (suc i) k y at same =
    sum_by-cons (λ it. as_number (passes it)) x (slice_set xs i y)
    ∙ ap (λ n. as_number (passes x) + n) (count_at passes xs i k y at same)
    ∙ sym (sum_by-cons (λ it. as_number (passes it)) x xs)

-- what is read of a row that was queued is the same once it is with its driver
row_reads : {A : Type 0} → (read : Option Row → A) (rows : List (Option Row)) (id : ℕ) (row now : Row) → entry rows id ≡ Some row → read (Some now) ≡ read (Some row) → (other : ℕ) → read (entry (slice_set rows id (Some now)) other) ≡ read (entry rows other)
row_reads read rows id row now at same other =
    entry_each (λ i slot. read slot ≡ read (entry rows i)) rows id (Some now)
    (ap read (entry_there rows id row (Some now) at) ∙ same ∙ sym (ap read at)) (λ j apart. refl) other

-- a device that had a request keeps it: the one that gets a request had none
given_keeps : (links : List (Option Link)) (d : ℕ) (link now : Link) → entry links d ≡ Some link → link.given ≡ None → (other id : ℕ) → request_in (given_in (entry links other)) ≡ Some id → request_in (given_in (entry (slice_set links d (Some now)) other)) ≡ Some id
given_keeps links d link now at none other id =
    entry_each (λ i slot. request_in (given_in (entry links i)) ≡ Some id → request_in (given_in slot) ≡ Some id) links d (Some now)
    (λ is. let no_request : request_in (given_in (entry links d)) ≡ None = ap (λ slot. request_in (given_in slot)) at ∙ ap request_in none in absurd (cc (no_request, is)))
    (λ j apart is. is) other

any_if : {A : Type 0} → (passes : A → Bool) (rest now : List A) (test : Bool) → (test || list_any passes rest) ≡ true →
    (list_any passes rest ≡ true → list_any passes now ≡ true) → (test || list_any passes now) ≡ true
any_if passes rest now true any later = refl
any_if passes rest now false any later = later any

-- where any passed, and what is written passes, any passes still
any_written : {A : Type 0} → (passes : A → Bool) (xs : List A) (i : ℕ) (y : A) → passes y ≡ true → list_any passes xs ≡ true → list_any passes (slice_set xs i y) ≡ true
any_written passes [] i y does any = any
any_written passes (x ∷ xs) zero y does any = ap (λ test. test || list_any passes xs) does
any_written passes (x ∷ xs) (suc i) y does any = any_if passes xs (slice_set xs i y) (passes x) any (any_written passes xs i y does)

queued_is : (life : Life) → is_queued life ≡ true → life ≡ Queued
queued_is Queued is = refl
queued_is AtDriver is = absurd (cc is)
queued_is (Ended size error) is = absurd (cc is)

row_ready : (dv : Devices) (d : ℕ) (link : Link) (id : ℕ) (slot : Option Row) → link_at dv d ≡ Some link → link.given ≡ None → row_at dv id ≡ slot → queues_on d slot ≡ true → AsReady dv (handed_row dv d link id slot)
unfolding at_driver
row_ready dv d link id None at none is queued = absurd (cc queued)
row_ready dv d link id (Some row) at none is queued =
    let life : row.life ≡ Queued = queued_is row.life (second (row.device == d) (is_queued row.life) queued) in
    let now : Row = record row { bytes = []; life = AtDriver } in
    record {
      ids = ids_same dv.links d link (link_handed d link (request_of id (link.number + 1) row)) at;
      unfinished = λ e. count_at (is_unfinished_on e) dv.rows id row (Some now) is (by_life e row life);
      wishes = refl;
      opened = refl;
      ended = refl;
      has_ended = λ dd other. row_reads (has_ended_of dd) dv.rows id row now is (ended_by_life dd row life) other;
      has_ended_by = λ dd serial other. row_reads (has_ended_with dd serial) dv.rows id row now is (serial_by_life dd serial row life) other;
      descriptor = λ dd other. row_reads (is_of_descriptor dd) dv.rows id row now is refl other;
      given = λ e other has. given_keeps dv.links d link (link_handed d link (request_of id (link.number + 1) row)) at none e other has;
      any_given = λ any. any_written has_given dv.links d (Some (link_handed d link (request_of id (link.number + 1) row))) refl any;
    }
  where
    second : (a b : Bool) → (a && b) ≡ true → b ≡ true
    second true b is = is
    second false b is = absurd (cc is)

    by_life : (e : ℕ) (row : Row) → row.life ≡ Queued → is_unfinished_on e (Some (record row { bytes = []; life = AtDriver })) ≡ is_unfinished_on e (Some row)
    by_life e row life = sym (ap (λ (it : Life). is_unfinished_on e (Some (record row { life = it }))) life)

    ended_by_life : (dd : ℕ) (row : Row) → row.life ≡ Queued → has_ended_of dd (Some (record row { bytes = []; life = AtDriver })) ≡ has_ended_of dd (Some row)
    ended_by_life dd row life = sym (ap (λ (it : Life). has_ended_of dd (Some (record row { life = it }))) life)

    serial_by_life : (dd serial : ℕ) (row : Row) → row.life ≡ Queued → has_ended_with dd serial (Some (record row { bytes = []; life = AtDriver })) ≡ has_ended_with dd serial (Some row)
    serial_by_life dd serial row life = sym (ap (λ (it : Life). has_ended_with dd serial (Some (record row { life = it }))) life)

passing_if : (passes : ℕ → Bool) (id found : ℕ) (later : Option ℕ) (test : Bool) → passes id ≡ test → cond test (Some id) later ≡ Some found → (later ≡ Some found → passes found ≡ true) → passes found ≡ true
passing_if passes id found later true is found_at rest = let e : id ≡ found = cc found_at in subst (λ (it : ℕ). passes it ≡ true) e is
passing_if passes id found later false is found_at rest = rest found_at

-- what is found passes
pub found_passes : (passes : ℕ → Bool) (ids : List ℕ) (found : ℕ) → find passes ids ≡ Some found → passes found ≡ true
found_passes passes [] found is = absurd (cc is)
found_passes passes (id ∷ ids) found is = passing_if passes id found (find passes ids) (passes id) refl is (found_passes passes ids found)

first_ready : (dv : Devices) (d : ℕ) (link : Link) (first : Option ℕ) → link_at dv d ≡ Some link → link.given ≡ None → first_queued dv d ≡ first → AsReady dv (handed_first dv d link first)
unfolding first_queued
first_ready dv d link None at none is = ready_itself dv
first_ready dv d link (Some id) at none is = row_ready dv d link id (row_at dv id) at none refl (found_passes (λ it. queues_on d (row_at dv it)) dv.queued id is)

given_ready : (dv : Devices) (d : ℕ) (link : Link) (given : Option Given) → link_at dv d ≡ Some link → link.given ≡ given → AsReady dv (handed_given dv d link given)
given_ready dv d link None at none = first_ready dv d link (first_queued dv d) at none refl
given_ready dv d link (Some given) at none = ready_itself dv

link_ready : (dv : Devices) (d : ℕ) (slot : Option Link) → link_at dv d ≡ slot → AsReady dv (handed_link dv d slot)
link_ready dv d None at = ready_itself dv
link_ready dv d (Some link) at = given_ready dv d link link.given at refl

handed_ready : (dv : Devices) (d : ℕ) → AsReady dv (handed dv d)
unfolding handed
handed_ready dv d = link_ready dv d (link_at dv d) refl

each_ready : (ids : List ℕ) (dv : Devices) → AsReady dv (handed_all ids dv)
each_ready [] dv = ready_itself dv
each_ready (d ∷ ids) dv = ready_then dv (handed dv d) (handed_all ids (handed dv d)) (handed_ready dv d) (each_ready ids (handed dv d))

unless_ready : (waiters : List ℕ) (dv : Devices) → AsReady dv (handed_unless waiters dv)
unless_ready [] dv = each_ready (device_ids dv) dv
unless_ready (t ∷ ts) dv = ready_itself dv

pub hand_over_ready : (b : Base) (dv : Devices) → AsReady dv (hand_over b dv)
unfolding hand_over
hand_over_ready b dv = unless_ready (fifo_queue b suspension_object) dv

one_ready : (first : Option ℕ) (dv : Devices) → AsReady dv (handed_one first dv)
one_ready None dv = ready_itself dv
one_ready (Some d) dv = handed_ready dv d

pub hand_first_ready : (dv : Devices) → AsReady dv (hand_first dv)
unfolding hand_first
hand_first_ready dv = one_ready (find (λ d. is_some (first_queued dv d)) (device_ids dv)) dv

-- ---- nobody can be served after it who couldn't before

-- at the IDs of a list nobody is served, where it is so at each
AllNone : {A : Type 0} → (ℕ → Option A) → List ℕ → Type 0
AllNone serve [] = Unit {0}
AllNone serve (id ∷ ids) = (serve id ≡ None) × AllNone serve ids

none_of_two : {A : Type 0} → (here later : Option A) → option_or here later ≡ None → (here ≡ None) × (later ≡ None)
none_of_two None later is = (refl, is)
none_of_two (Some found) later is = absurd (cc is)

each_none : {A : Type 0} → (serve : ℕ → Option A) (ids : List ℕ) → first_of_ids serve ids ≡ None → AllNone serve ids
unfolding first_of_ids AllNone
each_none serve [] is = tt
each_none serve (id ∷ ids) is = let both = none_of_two (serve id) (first_of_ids serve ids) is in (both.0, each_none serve ids both.1)

none_each : {A : Type 0} → (serve : ℕ → Option A) (ids : List ℕ) → AllNone serve ids → first_of_ids serve ids ≡ None
unfolding first_of_ids AllNone
none_each serve [] all = refl
none_each serve (id ∷ ids) all = ap (λ here. option_or here (first_of_ids serve ids)) all.0 ∙ none_each serve ids all.1

all_none_by : {A B : Type 0} → (serve : ℕ → Option A) (other : ℕ → Option B) (ids : List ℕ) → ((id : ℕ) → serve id ≡ None → other id ≡ None) → AllNone serve ids → AllNone other ids
unfolding AllNone
all_none_by serve other [] by all = tt
all_none_by serve other (id ∷ ids) by all = (by id all.0, all_none_by serve other ids by all.1)

-- the first of IDs serves nobody by another rule that serves nobody where this one doesn't
pub first_none_by : {A B : Type 0} → (serve : ℕ → Option A) (other : ℕ → Option B) (ids now : List ℕ) → now ≡ ids → ((id : ℕ) → serve id ≡ None → other id ≡ None) → first_of_ids serve ids ≡ None → first_of_ids other now ≡ None
first_none_by serve other ids now same by is = subst (λ (list : List ℕ). first_of_ids other list ≡ None) (sym same) (none_each other ids (all_none_by serve other ids by (each_none serve ids is)))

abbrev with_devices_in : DevParts → Devices → DevParts
with_devices_in p now = record p { table = now }

wish_none : (p q : DevParts) (d t : ℕ) (asked : Wish) → admitted_wish p d t asked ≡ None → admitted_wish q d t asked ≡ None
wish_none p q d t wish.Nothing is = refl
wish_none p q d t (wish.Acceptance transfer stays) is = absurd (cc is)
wish_none p q d t (wish.Ending request serial own) is = refl
wish_none p q d t wish.AnyEnding is = refl

pub place_none : (p q : DevParts) (place : Bool) (d t : ℕ) → wish_of q.table t ≡ wish_of p.table t → admitted_if place p d t ≡ None → admitted_if place q d t ≡ None
place_none p q false d t same is = refl
place_none p q true d t same is = ap (admitted_wish q d t) same ∙ wish_none p q d t (wish_of p.table t) is

by_none : (p : DevParts) (now : Devices) (d : ℕ) (waiters : List ℕ) → AsReady p.table now → acceptance_by p d waiters ≡ None → acceptance_by (with_devices_in p now) d waiters ≡ None
by_none p now d [] ready is = refl
by_none p now d (t ∷ ts) ready is =
    let same : has_place now d ≡ has_place p.table d = ap (λ n. nat_lt n 16) (ready.unfinished d) in
    ap (λ place. admitted_if place (with_devices_in p now) d t) same
    ∙ place_none p (with_devices_in p now) (has_place p.table d) d t (ap (λ wishes. slice_index_or wishes t wish.Nothing) ready.wishes) is

acceptances_none : (p : DevParts) (now : Devices) → AsReady p.table now → serve_acceptances p ≡ None → serve_acceptances (with_devices_in p now) ≡ None
unfolding serve_acceptances serve_acceptance
acceptances_none p now ready is =
    first_none_by (serve_acceptance p) (serve_acceptance (with_devices_in p now)) (device_ids p.table) (device_ids now) ready.ids
    (λ d none. by_none p now d (fifo_queue p.base (acceptance_object d)) ready none) is

-- the endings that fulfil a wish are the same
find_same : (passes other : ℕ → Bool) (ids : List ℕ) → ((id : ℕ) → other id ≡ passes id) → find other ids ≡ find passes ids
find_same passes other [] same = refl
find_same passes other (id ∷ ids) same =
    ap (λ test. cond test (Some id) (find other ids)) (same id) ∙ ap (λ (later : Option ℕ). cond (passes id) (Some id) later) (find_same passes other ids same)

picked_same : (dv now : Devices) (dd : ℕ) (asked : Wish) → AsReady dv now → picked now dd asked ≡ picked dv dd asked
unfolding picked
picked_same dv now dd wish.Nothing ready = refl
picked_same dv now dd (wish.Acceptance transfer stays) ready = refl
picked_same dv now dd (wish.Ending id serial own) ready = ap (λ test. cond test (Some id) None) (ready.has_ended_by dd serial id)
picked_same dv now dd wish.AnyEnding ready =
    ap (find (λ id. has_ended_of dd (row_at now id))) ready.ended
    ∙ find_same (λ id. has_ended_of dd (row_at dv id)) (λ id. has_ended_of dd (row_at now id)) dv.ended (λ id. ready.has_ended dd id)

wish_same : (dv now : Devices) (t : ℕ) → AsReady dv now → wish_of now t ≡ wish_of dv t
wish_same dv now t ready = ap (λ wishes. slice_index_or wishes t wish.Nothing) ready.wishes

wished_same : (dv now : Devices) (dd t : ℕ) → AsReady dv now → picked now dd (wish_of now t) ≡ picked dv dd (wish_of dv t)
wished_same dv now dd t ready = ap (picked now dd) (wish_same dv now t ready) ∙ picked_same dv now dd (wish_of dv t) ready

pub claimed_none : (p q : DevParts) (t : ℕ) (id : Option ℕ) → ending_claimed p t id ≡ None → ending_claimed q t id ≡ None
claimed_none p q t None is = refl
claimed_none p q t (Some id) is = absurd (cc is)

first_none : (p : DevParts) (now : Devices) (dd : ℕ) (first : Option ℕ) → AsReady p.table now → ending_of_first p dd first ≡ None → ending_of_first (with_devices_in p now) dd first ≡ None
first_none p now dd None ready is = refl
first_none p now dd (Some t) ready is =
    ap (ending_claimed (with_devices_in p now) t) (wished_same p.table now dd t ready) ∙ claimed_none p (with_devices_in p now) t (picked p.table dd (wish_of p.table t)) is

ending_none : (p : DevParts) (now : Devices) (dd : ℕ) → AsReady p.table now → serve_ending p dd ≡ None → serve_ending (with_devices_in p now) dd ≡ None
unfolding serve_ending
ending_none p now dd ready is =
    ap (ending_of_first (with_devices_in p now) dd) (find_same (λ t. is_some (picked p.table dd (wish_of p.table t))) (λ t. is_some (picked now dd (wish_of now t))) (fifo_queue p.base (ending_object dd)) (λ t. ap is_some (wished_same p.table now dd t ready)))
    ∙ first_none p now dd (find (λ t. is_some (picked p.table dd (wish_of p.table t))) (fifo_queue p.base (ending_object dd))) ready is

endings_none : (p : DevParts) (now : Devices) → AsReady p.table now → serve_endings p ≡ None → serve_endings (with_devices_in p now) ≡ None
unfolding serve_endings
endings_none p now ready is =
    first_none_by (serve_ending p) (serve_ending (with_devices_in p now)) (taken_from 1 (drop 1 p.table.opened)) (taken_from 1 (drop 1 now.opened))
    (ap (λ opened. taken_from 1 (drop 1 opened)) ready.opened) (λ dd none. ending_none p now dd ready none) is

-- a driver that has a request of a descriptor still has it
request_still : (dv now : Devices) (dd d : ℕ) (has : Option ℕ) → AsReady dv now → at_driver dv d ≡ has → is_request_of dv dd has ≡ true → is_request_of now dd (at_driver now d) ≡ true
request_still dv now dd d None ready at is = absurd (cc is)
request_still dv now dd d (Some id) ready at is = ap (is_request_of now dd) (ready.given d id at) ∙ ready.descriptor dd id ∙ is

driver_still : (dv now : Devices) (dd : ℕ) (slot : Option Opened) → AsReady dv now → driver_has dv dd slot ≡ true → driver_has now dd slot ≡ true
driver_still dv now dd None ready is = absurd (cc is)
driver_still dv now dd (Some opened) ready is = request_still dv now dd opened.device (at_driver dv opened.device) ready refl is

with_driver_still : (dv now : Devices) (dd : ℕ) → AsReady dv now → is_with_driver dv dd ≡ true → is_with_driver now dd ≡ true
unfolding is_with_driver
with_driver_still dv now dd ready is =
    ap (λ opened. driver_has now dd (entry opened dd)) ready.opened ∙ driver_still dv now dd (opened_at dv dd) ready is

unless_closed : (with_driver : Bool) (p : DevParts) (dd t : ℕ) → closed_unless with_driver p dd t ≡ None → with_driver ≡ true
unless_closed true p dd t is = refl
unless_closed false p dd t is = absurd (cc is)

close_by_none : (p : DevParts) (now : Devices) (dd : ℕ) (waiters : List ℕ) → AsReady p.table now → close_by p dd waiters ≡ None → close_by (with_devices_in p now) dd waiters ≡ None
close_by_none p now dd [] ready is = refl
close_by_none p now dd (t ∷ ts) ready is =
    ap (λ busy. closed_unless busy (with_devices_in p now) dd t) (with_driver_still p.table now dd ready (unless_closed (is_with_driver p.table dd) p dd t is))

closes_none : (p : DevParts) (now : Devices) → AsReady p.table now → serve_closes p ≡ None → serve_closes (with_devices_in p now) ≡ None
unfolding serve_closes serve_close
closes_none p now ready is =
    first_none_by (serve_close p) (serve_close (with_devices_in p now)) (taken_from 1 (drop 1 p.table.opened)) (taken_from 1 (drop 1 now.opened))
    (ap (λ opened. taken_from 1 (drop 1 opened)) ready.opened) (λ dd none. close_by_none p now dd (fifo_queue p.base (close_object dd)) ready none) is

-- the caller of a suspension waits while any driver has a request
unless_suspended : (any : Bool) (p : DevParts) (t : ℕ) → suspended_unless any p t ≡ None → any ≡ true
unless_suspended true p t is = refl
unless_suspended false p t is = absurd (cc is)

suspension_by_none : (p : DevParts) (now : Devices) (waiters : List ℕ) → AsReady p.table now → suspension_by p waiters ≡ None → suspension_by (with_devices_in p now) waiters ≡ None
suspension_by_none p now [] ready is = refl
suspension_by_none p now (t ∷ ts) ready is =
    ap (λ any. suspended_unless any (with_devices_in p now) t) (ready.any_given (unless_suspended (any_given p.table) p t is))

suspension_none : (p : DevParts) (now : Devices) → AsReady p.table now → serve_suspension p ≡ None → serve_suspension (with_devices_in p now) ≡ None
unfolding serve_suspension
suspension_none p now ready is = suspension_by_none p now (fifo_queue p.base suspension_object) ready is

-- ---- all kinds

unfoldable pub AllKinds : List (Parts → Option Parts) → Parts → Type 0
AllKinds [] p = Unit {0}
AllKinds (kind ∷ later) p = (kind p ≡ None) × AllKinds later p

kinds_of_two : (here : Option Parts) (later : List (Parts → Option Parts)) (p : Parts) → elim here as (λ _. Option Parts) [ Some served ↦ Some served | None ↦ first_serving later p ] ≡ None → (here ≡ None) × (first_serving later p ≡ None)
kinds_of_two None later p is = (refl, is)
kinds_of_two (Some served) later p is = absurd (cc is)

pub each_kind : (ks : List (Parts → Option Parts)) (p : Parts) → first_serving ks p ≡ None → AllKinds ks p
unfolding first_serving AllKinds
each_kind [] p is = tt
each_kind (kind ∷ later) p is = let both = kinds_of_two (kind p) later p is in (both.0, each_kind later p both.1)

pub no_kind : (ks : List (Parts → Option Parts)) (p : Parts) → AllKinds ks p → first_serving ks p ≡ None
unfolding first_serving AllKinds
no_kind [] p all = refl
no_kind (kind ∷ later) p all = ap (λ here. elim here as (λ _. Option Parts) [ Some served ↦ Some served | None ↦ first_serving later p ]) all.0 ∙ no_kind later p all.1

pub unmapped : {A : Type 0} → (put : A → Parts) (served : Option A) → option_map put served ≡ None → served ≡ None
unmapped put None is = refl
unmapped put (Some found) is = absurd (cc is)

pub mapped_none : {A : Type 0} → (put : A → Parts) (served : Option A) → served ≡ None → option_map put served ≡ None
mapped_none put served is = ap (option_map put) is

remapped : {A : Type 0} → (put other : A → Parts) (served : Option A) → option_map put served ≡ None → option_map other served ≡ None
remapped put other served is = mapped_none other served (unmapped put served is)

-- where nobody can be served, nobody can be once requests have gone to their drivers
pub ready_unserved : (p : Parts) (now : Devices) → AsReady p.objects.devices now → serve_object p ≡ None → serve_object (record p { objects = record p.objects { devices = now } }) ≡ None
unfolding serve_object AllKinds
ready_unserved p now ready is =
    let all = each_kind kinds p is in
    no_kind kinds (record p { objects = record p.objects { devices = now } }) (
      remapped _ _ _ all.0,
      (
        remapped _ _ _ all.1.0,
        (
          remapped _ _ _ all.1.1.0,
          (
            remapped _ _ _ all.1.1.1.0,
            (
              remapped _ _ _ all.1.1.1.1.0,
              (
                remapped _ _ _ all.1.1.1.1.1.0,
                (
                  mapped_none _ _ (acceptances_none (dev_parts p) now ready (unmapped _ _ all.1.1.1.1.1.1.0)),
                  (
                    mapped_none _ _ (endings_none (dev_parts p) now ready (unmapped _ _ all.1.1.1.1.1.1.1.0)),
                    (
                      mapped_none _ _ (closes_none (dev_parts p) now ready (unmapped _ _ all.1.1.1.1.1.1.1.1.0)),
                      (
                        mapped_none _ _ (suspension_none (dev_parts p) now ready (unmapped _ _ all.1.1.1.1.1.1.1.1.1.0)),
                        tt,
                      ),
                    ),
                  ),
                ),
              ),
            ),
          ),
        ),
      ),
    )

-- requests that go to drivers leave nobody to serve
pub handed_none : (mode : Mode) (p : Parts) → serve_object p ≡ None → serve_object (handed_parts mode p) ≡ None
handed_none modes.Sync p is = is
handed_none modes.Free p is = ready_unserved p (hand_over p.base p.objects.devices) (hand_over_ready p.base p.objects.devices) is

-- and so does the one that goes first in sync mode
pub handed_first_none : (p : Parts) → serve_object p ≡ None → serve_object (record p { objects = record p.objects { devices = hand_first p.objects.devices } }) ≡ None
handed_first_none p is = ready_unserved p (hand_first p.objects.devices) (hand_first_ready p.objects.devices) is
