-- Where a machine in sync mode needs an ending there is one: a driver has a request, and its ending, done whole, is fit.
use Rattle.std.proofs.Common.{◌≡◌, ℕ, zero, suc, ◌+◌, ◌≤◌, Bool, true, false, ◌&&◌, ◌||◌, cond, List, [], ◌∷◌, Option, Some, None, refl, ◌∙◌, ap, sym, subst, arith}
use Rattle.std.specs.Bool.{◌==◌}
use Rattle.std.specs.Prelude.{drop, slice_set, unwrap_or}
use Rattle.std.specs.List.{find, list_any}
use Rattle.std.specs.Option.{is_some}
use Rattle.std.proofs.lemmas.Bool.Decides.{nat_tests}
use Rattle.tk_types.specs.declared.line.How.TheVariants as hows
use Rattle.kernel_model.specs.LawWords.Once.{times}
use Rattle.kernel_model.specs.Words.Orders.{entry, taken_from}
use Rattle.kernel_lemmas.proofs.Tables.{entry_there}
use Rattle.device_model.specs.declared.messages.Ending.{Ending}
use Rattle.device_model.specs.Devices.Endings.{ending_of, expected, expected_given, expected_link, served_of}
use Rattle.device_model.specs.Devices.Handing.{any_given, any_queued, hand_first, handed_one, has_given, is_any}
use Rattle.device_model.specs.Devices.Tables.{Devices, Given, Link, Row, at_driver, device_ids, first_queued, given_in, handed, handed_first, handed_given, handed_link, handed_row, is_queued, link_at, link_handed, queues_on, request_in, request_of, row_at}
use Rattle.machine_model.specs.Runs.SyncTrace.{first_given}
use Rattle.machine_lemmas.proofs.HandingServes.{found_passes}
use Rattle.journal_laws.proofs.Linked.{AreLinked, Linked, QueuedRow, RowLinked}

-- ---- who is found

found_if : (passes : ℕ → Bool) (id : ℕ) (rest : List ℕ) (test : Bool) → passes id ≡ test → (passes id ≡ false → (d : ℕ) × (find passes rest ≡ Some d)) → (d : ℕ) × (cond test (Some id) (find passes rest) ≡ Some d)
found_if passes id rest true is later = (id, refl)
found_if passes id rest false is later = later is

-- where a slot that has something passes one is found
found_in : {A : Type 0} → (passes : ℕ → Bool) (from : ℕ) (slots : List (Option A)) (i : ℕ) → is_some (entry slots i) ≡ true → passes (from + i) ≡ true → (d : ℕ) × (find passes (taken_from from slots) ≡ Some d)
found_in passes from [] i some is = absurd (cc some)
found_in passes from (None ∷ slots) zero some is = absurd (cc some)
found_in passes from (None ∷ slots) (suc i) some is = let same : from + suc i ≡ (from + 1) + i = omega arith in found_in passes (from + 1) slots i some (ap passes (sym same) ∙ is)
found_in passes from (Some k ∷ slots) zero some is =
    found_if passes from (taken_from (from + 1) slots) (passes from) refl (λ fails. let same : from + 0 ≡ from = omega arith in let passed : passes from ≡ true = ap passes (sym same) ∙ is in absurd (cc (fails, passed)))
found_in passes from (Some k ∷ slots) (suc i) some is =
    found_if passes from (taken_from (from + 1) slots) (passes from) refl
    (λ fails. let same : from + suc i ≡ (from + 1) + i = omega arith in found_in passes (from + 1) slots i some (ap passes (sym same) ∙ is))

-- one of a list with a place
at_if : {A : Type 0} → (f : Option A → Bool) (x : Option A) (xs : List (Option A)) (first : Bool) → f x ≡ first → (first || list_any f xs) ≡ true → (list_any f xs ≡ true → (i : ℕ) × (f (entry xs i) ≡ true)) → (i : ℕ) × (f (entry (x ∷ xs) i) ≡ true)
at_if f x xs true at is later = (0, at)
at_if f x xs false at is later = let found = later is in (suc found.0, found.1)

any_at : {A : Type 0} → (f : Option A → Bool) (xs : List (Option A)) → list_any f xs ≡ true → (i : ℕ) × (f (entry xs i) ≡ true)
any_at f [] is = absurd (cc is)
any_at f (x ∷ xs) is = at_if f x xs (f x) refl is (any_at f xs)

or_second : (one other : Bool) → other ≡ true → (one || other) ≡ true
or_second true other is = refl
or_second false other is = is

or_first : (one other : Bool) → one ≡ true → (one || other) ≡ true
or_first true other is = refl
or_first false other is = absurd (cc is)

any_by : {A : Type 0} → (f : Option A → Bool) (xs : List (Option A)) (i : ℕ) → f None ≡ false → f (entry xs i) ≡ true → list_any f xs ≡ true
any_by f [] i none is = absurd (cc (none, is))
any_by f (x ∷ xs) zero none is = or_first (f x) (list_any f xs) is
any_by f (x ∷ xs) (suc i) none is = or_second (f x) (list_any f xs) (any_by f xs i none is)

-- ---- an ending that is there

at_drop : {A : Type 0} → (xs : List (Option A)) (i : ℕ) → entry (drop 1 xs) i ≡ entry xs (suc i)
at_drop [] i = refl
at_drop (x ∷ xs) i = refl

-- a slot with something that isn't the first is found among the devices
device_found : (dv : Devices) (passes : ℕ → Bool) (d : ℕ) → link_at dv 0 ≡ None → is_some (link_at dv d) ≡ true → passes d ≡ true → (found : ℕ) × (find passes (device_ids dv) ≡ Some found)
device_found dv passes zero none some is = let gone = ap is_some none in absurd (cc (gone, some))
device_found dv passes (suc i) none some is = found_in passes 1 (drop 1 dv.links) i (ap is_some (at_drop dv.links i) ∙ some) (let same : 1 + i ≡ suc i = omega arith in ap passes same ∙ is)

given_some : (slot : Option Link) → has_given slot ≡ true → is_some slot ≡ true
given_some None is = is
given_some (Some link) is = refl

requested_some : (given : Option Given) → is_some given ≡ true → is_some (request_in given) ≡ true
requested_some None is = is
requested_some (Some given) is = refl

driver_has : (dv : Devices) (d : ℕ) → has_given (link_at dv d) ≡ true → is_some (at_driver dv d) ≡ true
unfolding at_driver
driver_has dv d is = requested_some (given_in (link_at dv d)) is

given_expected : (d : ℕ) (link : Link) (given : Option Given) → is_some (request_in given) ≡ true → (e : Ending) × (expected_given d hows.Done link given ≡ Some e)
given_expected d link None is = absurd (cc is)
given_expected d link (Some given) is = (ending_of d given.request hows.Done (served_of link.kind link.store given.request hows.Done), refl)

link_expected : (d : ℕ) (slot : Option Link) → is_some (request_in (given_in slot)) ≡ true → (e : Ending) × (expected_link d hows.Done slot ≡ Some e)
link_expected d None is = absurd (cc is)
link_expected d (Some link) is = given_expected d link link.given is

driver_expected : (dv : Devices) (d : ℕ) → is_some (at_driver dv d) ≡ true → (e : Ending) × (expected dv d hows.Done ≡ Some e)
unfolding at_driver expected
driver_expected dv d is = link_expected d (link_at dv d) is

first_is : (dv : Devices) (found : Option ℕ) (d : ℕ) → find (λ d. is_some (at_driver dv d)) (device_ids dv) ≡ found → found ≡ Some d → first_given dv ≡ d
first_is dv found d at is = ap (λ it. unwrap_or it 0) (at ∙ is)

-- where a driver has a request, the ending that is needed is there
pub given_needed : (dv : Devices) → AreLinked dv → any_given dv ≡ true → (e : Ending) × (expected dv (first_given dv) hows.Done ≡ Some e)
given_needed dv linked is =
    let given = any_at has_given dv.links is in
    let found = device_found dv (λ d. is_some (at_driver dv d)) given.0 linked.none (given_some (link_at dv given.0) given.1) (driver_has dv given.0 given.1) in
    let there = driver_expected dv found.0 (found_passes (λ d. is_some (at_driver dv d)) (device_ids dv) found.0 found.1) in
    (there.0, ap (λ d. expected dv d hows.Done) (first_is dv (Some found.0) found.0 found.1 refl) ∙ there.1)

-- ---- a request that is handed out

row_some : (slot : Option Row) → QueuedRow slot → (row : Row) × (slot ≡ Some row) × (is_queued row.life ≡ true)
row_some None is = absurd is
row_some (Some row) is = (row, refl, is)

both_are : (one other : Bool) → one ≡ true → other ≡ true → (one && other) ≡ true
both_are true other is also = also
both_are false other is also = absurd (cc is)

first_of_all : (passes : ℕ → Bool) (id : ℕ) (ids queued : List ℕ) → queued ≡ id ∷ ids → passes id ≡ true → find passes queued ≡ Some id
first_of_all passes id ids queued same is = ap (find passes) same ∙ ap (λ test. cond test (Some id) (find passes ids)) is

-- the device of the first request that waits has a first one
device_waits : (dv : Devices) (id : ℕ) (ids : List ℕ) (row : Row) → dv.queued ≡ id ∷ ids → row_at dv id ≡ Some row → is_queued row.life ≡ true → first_queued dv row.device ≡ Some id
unfolding first_queued
device_waits dv id ids row same there waits =
    first_of_all (λ other. queues_on row.device (row_at dv other)) id ids dv.queued same
    (ap (queues_on row.device) there ∙ both_are (row.device == row.device) (is_queued row.life) (grind (arith, nat_tests)) waits)

some_first : (first : Option ℕ) → is_some first ≡ true → (id : ℕ) × (first ≡ Some id)
some_first None is = absurd (cc is)
some_first (Some id) is = (id, refl)

some_link : (slot : Option Link) → is_some slot ≡ true → (link : Link) × (slot ≡ Some link)
some_link None is = absurd (cc is)
some_link (Some link) is = (link, refl)

row_of_device : (links : List (Option Link)) (d : ℕ) (slot : Option Row) → queues_on d slot ≡ true → RowLinked links slot → (row : Row) × (slot ≡ Some row) × Linked links d
row_of_device links d None is has = absurd (cc is)
row_of_device links d (Some row) is has = (row, refl, subst (Linked links) (of_both (row.device == d) (is_queued row.life) refl is) has)
  where
    of_both : (one other : Bool) → (row.device == d) ≡ one → (one && other) ≡ true → row.device ≡ d
    of_both true other at is = grind (arith, nat_tests, at)
    of_both false other at is = absurd (cc is)

no_given : (given : Option Given) → is_some given ≡ false → given ≡ None
no_given None is = refl
no_given (Some given) is = absurd (cc is)

given_test : (links : List (Option Link)) (d : ℕ) (test : Bool) → has_given (entry links d) ≡ test → list_any has_given links ≡ false → test ≡ false
given_test links d true at none = let any = any_by has_given links d refl at in absurd (cc (any, none))
given_test links d false at none = refl

queues_first : (dv : Devices) (d id : ℕ) → first_queued dv d ≡ Some id → queues_on d (row_at dv id) ≡ true
unfolding first_queued
queues_first dv d id at = found_passes (λ other. queues_on d (row_at dv other)) dv.queued id at

-- the first that waits for a device goes to its driver
handed_has : (dv : Devices) (d : ℕ) → AreLinked dv → any_given dv ≡ false → is_some (first_queued dv d) ≡ true → any_given (handed dv d) ≡ true
unfolding handed
handed_has dv d linked none is =
    let first = some_first (first_queued dv d) is in
    let row = row_of_device dv.links d (row_at dv first.0) (queues_first dv d first.0 first.1) (linked.rows first.0) in
    let link = some_link (link_at dv d) row.2 in
    let free : link.0.given ≡ None = no_given link.0.given (ap has_given (sym link.1) ∙ given_test dv.links d (has_given (link_at dv d)) refl none) in
    let goes : handed_link dv d (link_at dv d) ≡ handed_row dv d link.0 first.0 (Some row.0) =
    ap (handed_link dv d) link.1 ∙ ap (handed_given dv d link.0) free ∙ ap (handed_first dv d link.0) first.1 ∙ ap (handed_row dv d link.0 first.0) row.1 in
    let now : Link = link_handed d link.0 (request_of first.0 (link.0.number + 1) row.0) in
    ap any_given goes ∙ any_by has_given (slice_set dv.links d (Some now)) d refl (ap has_given (entry_there dv.links d link.0 (Some now) link.1))

waiting_has : (dv : Devices) (queued : List ℕ) → dv.queued ≡ queued → AreLinked dv → any_given dv ≡ false → is_any queued ≡ true → any_given (hand_first dv) ≡ true
unfolding hand_first
waiting_has dv [] same linked none some = absurd (cc some)
waiting_has dv (id ∷ ids) same linked none some =
    let stands : 1 ≤ times id dv.queued = subst (λ queued. 1 ≤ times id queued) (sym same) (itself id ids (id == id) (grind (arith, nat_tests))) in
    let row = row_some (row_at dv id) (linked.queued id stands) in
    let waits = device_waits dv id ids row.0 same row.1 row.2 in
    let has : Linked dv.links row.0.device = subst (RowLinked dv.links) row.1 (linked.rows id) in
    let found = device_found dv (λ d. is_some (first_queued dv d)) row.0.device linked.none has (ap is_some waits) in
    ap (λ first. any_given (handed_one first dv)) found.1 ∙ handed_has dv found.0 linked none (found_passes (λ d. is_some (first_queued dv d)) (device_ids dv) found.0 found.1)
  where
    itself : (id : ℕ) (ids : List ℕ) (test : Bool) → test ≡ true → 1 ≤ cond test 1 0 + times id ids
    itself id ids true is = omega arith
    itself id ids false is = absurd (cc is)

-- where no driver has a request, and one waits, a driver gets one
pub queued_given : (dv : Devices) → AreLinked dv → any_given dv ≡ false → any_queued dv ≡ true → any_given (hand_first dv) ≡ true
queued_given dv linked none some = waiting_has dv dv.queued refl linked none some
