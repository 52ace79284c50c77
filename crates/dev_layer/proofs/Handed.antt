-- Requests go to drivers, of the table's parts.
use Rattle.std.proofs.Common.{◌≡◌, ℕ, zero, suc, ◌+◌, ◌<◌, Bool, true, false, List, [], ◌∷◌, Option, Some, None, refl, ap, sym, ◌∙◌, arith, length, drop, add-one}
use Rattle.std.specs.List.{find, fold, list_any}
use Rattle.std.specs.Option.{is_some}
use Rattle.std.specs.Bool.{◌==◌}
use Rattle.std.specs.Prelude.{◌&&◌, ◌||◌, ◌^◌}
use Rattle.std.proofs.lemmas.Bool.Decides.{nat_tests}
use Rattle.kernel_model.specs.Words.Orders.{entry, taken_from}
use Rattle.kernel_lemmas.proofs.Tables.{entry_other}
use Rattle.device_model.specs.declared.messages.Request.{Request}
use Rattle.device_model.specs.Devices.Handing.{hand_first, handed_one, has_given}
use Rattle.device_model.specs.Devices.Tables.{Devices, Given, Link, Row, first_queued, given_in, handed, handed_first, handed_given, handed_link, handed_row, is_queued, link_at, queues_on, request_of, row_at}
use Rattle.dev_layer.specs.Handing.{MayCount, is_worn, with_parts}
use Rattle.dev_layer.specs.Messages.{handed_entry, links_handed, number_in}
use Rattle.dev_layer.specs.Requests.{Requests, first_waiting, handed_slot, queues_some, request_handed}
use Rattle.dev_layer.specs.Tables.{requests_of}

first_of : (dv : Devices) (rq : Requests) (d : ℕ) → requests_of dv ≡ rq → first_queued dv d ≡ first_waiting rq d
unfolding first_queued
first_of dv rq d is = ap (λ (r : Requests). first_waiting r d) is

same_parts : (dv : Devices) (links : List (Option Link)) (rq : Requests) → dv.links ≡ links → requests_of dv ≡ rq → dv ≡ with_parts dv links rq
same_parts dv links rq one other = ap (λ (r : Requests). with_parts dv dv.links r) other ∙ ap (λ (all : List (Option Link)). with_parts dv all rq) one

-- without a device nothing goes
pub none_handed : (dv : Devices) (links : List (Option Link)) (rq : Requests) (d : ℕ) → dv.links ≡ links → requests_of dv ≡ rq → entry links d ≡ None → handed dv d ≡ with_parts dv links rq
unfolding handed
none_handed dv links rq d one other none =
    ap (handed_link dv d) (ap (λ (all : List (Option Link)). entry all d) one ∙ none) ∙ same_parts dv links rq one other

given_by : (dv : Devices) (d : ℕ) (slot : Option Link) → has_given slot ≡ true → handed_link dv d slot ≡ dv
given_by dv d None has = refl
given_by dv d (Some link) has = given_if link.given has
  where
    given_if : (given : Option Given) → is_some given ≡ true → handed_given dv d link given ≡ dv
    given_if None some = absurd (cc some)
    given_if (Some given) some = refl

-- where a driver has a request, none goes
pub busy_handed : (dv : Devices) (links : List (Option Link)) (rq : Requests) (d : ℕ) → dv.links ≡ links → requests_of dv ≡ rq → has_given (entry links d) ≡ true → handed dv d ≡ with_parts dv links rq
unfolding handed
busy_handed dv links rq d one other has =
    given_by dv d (link_at dv d) (ap (λ (all : List (Option Link)). has_given (entry all d)) one ∙ has) ∙ same_parts dv links rq one other

free_by : (dv : Devices) (d : ℕ) (slot : Option Link) (link : Link) → slot ≡ Some link → link.given ≡ None → handed_link dv d slot ≡ handed_first dv d link (first_queued dv d)
free_by dv d slot link there free = ap (handed_link dv d) there ∙ ap (handed_given dv d link) free

free_of : (link : Link) → has_given (Some link) ≡ false → link.given ≡ None
free_of link not_so = none_of link.given not_so
  where
    none_of : (given : Option Given) → is_some given ≡ false → given ≡ None
    none_of None is = refl
    none_of (Some given) is = absurd (cc is)

idle_by : (dv : Devices) (d : ℕ) (slot : Option Link) → is_some slot ≡ true → has_given slot ≡ false → first_queued dv d ≡ None → handed_link dv d slot ≡ dv
idle_by dv d None some free none = absurd (cc some)
idle_by dv d (Some link) some free none = free_by dv d (Some link) link refl (free_of link free) ∙ ap (handed_first dv d link) none

-- nor where no request waits for it
pub idle_handed : (dv : Devices) (links : List (Option Link)) (rq : Requests) (d : ℕ) → dv.links ≡ links → requests_of dv ≡ rq → is_some (entry links d) ≡ true → has_given (entry links d) ≡ false → first_waiting rq d ≡ None → handed dv d ≡ with_parts dv links rq
unfolding handed
idle_handed dv links rq d one other some free none =
    idle_by dv d (link_at dv d) (ap (λ (all : List (Option Link)). is_some (entry all d)) one ∙ some) (ap (λ (all : List (Option Link)). has_given (entry all d)) one ∙ free) (first_of dv rq d other ∙ none)
    ∙ same_parts dv links rq one other

handed_by : (dv : Devices) (d id : ℕ) (link : Link) (row : Row) (request : Request) → link_at dv d ≡ Some link → link.given ≡ None → first_queued dv d ≡ Some id → row_at dv id ≡ Some row → request ≡ request_of id (link.number + 1) row →
    handed_link dv d (link_at dv d) ≡ with_parts dv (links_handed dv.links d request) (request_handed (requests_of dv) id)
handed_by dv d id link row request there free first has is =
    free_by dv d (link_at dv d) link there free
    ∙ ap (handed_first dv d link) first
    ∙ ap (handed_row dv d link id) has
    ∙ ap (λ (r : Request). with_parts dv (handed_entry dv.links d r (Some link)) (handed_slot (Some row) (requests_of dv) id)) (sym is)
    ∙ ap (λ (slot : Option Link). with_parts dv (handed_entry dv.links d request slot) (handed_slot (Some row) (requests_of dv) id)) (sym there)
    ∙ ap (λ (slot : Option Row). with_parts dv (links_handed dv.links d request) (handed_slot slot (requests_of dv) id)) (sym has)

row_of_waiting : (slot : Option Row) → queues_some slot ≡ true → (P : Type 0) → ((row : Row) → slot ≡ Some row → P) → P
row_of_waiting None waits P go = absurd (cc waits)
row_of_waiting (Some row) waits P go = go row refl

link_of_slot : (slot : Option Link) → is_some slot ≡ true → (P : Type 0) → ((link : Link) → slot ≡ Some link → P) → P
link_of_slot None some P go = absurd (cc some)
link_of_slot (Some link) some P go = go link refl

number_at : (slot : Option Link) (link : Link) → slot ≡ Some link → number_in slot ≡ link.number
number_at slot link there = ap number_in there

-- the first request that waits goes to a driver that has none
pub first_handed : (dv : Devices) (links after : List (Option Link)) (rq left : Requests) (d id : ℕ) (request : Request) → dv.links ≡ links → requests_of dv ≡ rq → is_some (entry links d) ≡ true → has_given (entry links d) ≡ false →
    first_waiting rq d ≡ Some id → queues_some (entry rq.rows id) ≡ true → ((row : Row) → entry rq.rows id ≡ Some row → request ≡ request_of id (number_in (entry links d) + 1) row) →
    after ≡ links_handed links d request → left ≡ request_handed rq id → handed dv d ≡ with_parts dv after left
unfolding handed
first_handed dv links after rq left d id request one other some free first waits told moved taken =
    link_of_slot (entry links d) some (handed_link dv d (link_at dv d) ≡ with_parts dv after left) (λ link there.
    row_of_waiting (entry rq.rows id) waits (handed_link dv d (link_at dv d) ≡ with_parts dv after left) (λ row has.
    let shown : link_at dv d ≡ Some link = ap (λ (all : List (Option Link)). entry all d) one ∙ there in
    let unheld : link.given ≡ None = free_of link (ap has_given (sym there) ∙ free) in
    let has_row : row_at dv id ≡ Some row = ap (λ (r : Requests). entry r.rows id) other ∙ has in
    let is : request ≡ request_of id (link.number + 1) row = told row has ∙ ap (λ (n : ℕ). request_of id (n + 1) row) (number_at (entry links d) link there) in
    handed_by dv d id link row request shown unheld (first_of dv rq d other ∙ first) has_row is
    ∙ ap (λ (all : List (Option Link)). with_parts dv (links_handed all d request) (request_handed (requests_of dv) id)) one
    ∙ ap (λ (r : Requests). with_parts dv (links_handed links d request) (request_handed r id)) other
    ∙ ap (λ (all : List (Option Link)). with_parts dv all (request_handed rq id)) (sym moved)
    ∙ ap (λ (r : Requests). with_parts dv after r) (sym taken)))

queued_slot : (d : ℕ) (slot : Option Row) → queues_on d slot ≡ true → queues_some slot ≡ true
queued_slot d None is = absurd (cc is)
queued_slot d (Some row) is = second_of (row.device == d) (is_queued row.life) is
  where
    second_of : (a b : Bool) → (a && b) ≡ true → b ≡ true
    second_of true b is = is
    second_of false b is = absurd (cc is)

pub waits_there : (rq : Requests) (d id : ℕ) → queues_on d (entry rq.rows id) ≡ true → queues_some (entry rq.rows id) ≡ true
waits_there rq d id is = queued_slot d (entry rq.rows id) is

pub given_none : (slot : Option Link) → has_given slot ≡ false → given_in slot ≡ None
given_none None free = refl
given_none (Some link) free = free_of link free

handed_other : (links : List (Option Link)) (d : ℕ) (request : Request) (slot : Option Link) (n : ℕ) → (n ≡ d → ⊥) → entry (handed_entry links d request slot) n ≡ entry links n
handed_other links d request None n apart = refl
handed_other links d request (Some link) n apart = entry_other links d n _ apart

-- all other devices are as they were
pub others_kept : (links after : List (Option Link)) (d : ℕ) (request : Request) → after ≡ links_handed links d request → (n : ℕ) → (n ≡ d → ⊥) → entry after n ≡ entry links n
others_kept links after d request is n apart = ap (λ (all : List (Option Link)). entry all n) is ∙ handed_other links d request (entry links d) n apart

-- ---- counting

both_false : (a b : Bool) → (a || b) ≡ false → (a ≡ false) × (b ≡ false)
both_false true b is = absurd (cc is)
both_false false b is = (refl, is)

one_counts : (slot : Option Link) → is_worn slot ≡ false → number_in slot + 1 < 2 ^ 64
one_counts None fresh = omega arith
one_counts (Some link) fresh = grind (arith, nat_tests, fresh)

each_counts : (links : List (Option Link)) → list_any is_worn links ≡ false → (d : ℕ) → number_in (entry links d) + 1 < 2 ^ 64
each_counts [] none d = omega arith
each_counts (slot ∷ slots) none zero = one_counts slot (both_false (is_worn slot) (list_any is_worn slots) none).0
each_counts (slot ∷ slots) none (suc d) = each_counts slots (both_false (is_worn slot) (list_any is_worn slots) none).1 d

-- where no driver has had as many requests as can be counted, one more can be for each
pub may_count : (links : List (Option Link)) → list_any is_worn links ≡ false → MayCount links
may_count links none = record { few = each_counts links none }

-- ---- one device after another

pub passed_slot : {A : Type 0} (slots : List (Option A)) (place id : ℕ) → place < length slots → entry slots place ≡ None → taken_from id (drop place slots) ≡ taken_from (id + 1) (drop (suc place) slots)
passed_slot [] place id inside none = absurd (omega (arith, inside))
passed_slot (None ∷ slots) zero id inside none = refl
passed_slot (Some k ∷ slots) zero id inside none = absurd (cc none)
passed_slot (slot ∷ slots) (suc place) id inside none = passed_slot slots place id (omega (arith, inside)) none

pub taken_slot : {A : Type 0} (slots : List (Option A)) (place id : ℕ) → is_some (entry slots place) ≡ true → taken_from id (drop place slots) ≡ id ∷ taken_from (id + 1) (drop (suc place) slots)
taken_slot [] place id some = absurd (cc some)
taken_slot (None ∷ slots) zero id some = absurd (cc some)
taken_slot (Some k ∷ slots) zero id some = refl
taken_slot (slot ∷ slots) (suc place) id some = taken_slot slots place id some

handed_nothing : (now : Devices) (d : ℕ) → link_at now d ≡ None → handed now d ≡ now
unfolding handed
handed_nothing now d none = ap (handed_link now d) none

step_if : (slots : List (Option Link)) (d : ℕ) (now next all : Devices) (slot : Option Link) → entry slots d ≡ slot → d < length slots → link_at now d ≡ slot → next ≡ handed now d →
    fold handed now (taken_from d (drop d slots)) ≡ all → fold handed next (taken_from (d + 1) (drop (suc d) slots)) ≡ all
step_if slots d now next all None there inside same is left =
    ap (λ (dv : Devices). fold handed dv (taken_from (d + 1) (drop (suc d) slots))) (is ∙ handed_nothing now d same)
    ∙ ap (fold handed now) (sym (passed_slot slots d d inside there)) ∙ left
step_if slots d now next all (Some link) there inside same is left =
    ap (λ (dv : Devices). fold handed dv (taken_from (d + 1) (drop (suc d) slots))) is
    ∙ ap (fold handed now) (sym (taken_slot slots d d (ap is_some there))) ∙ left

-- one device more
pub one_handed : (slots : List (Option Link)) (d : ℕ) (now next all : Devices) → d < length slots → link_at now d ≡ entry slots d → next ≡ handed now d →
    fold handed now (taken_from d (drop d slots)) ≡ all → fold handed next (taken_from (d + 1) (drop (d + 1) slots)) ≡ all
one_handed slots d now next all inside same is left =
    ap (λ n. fold handed next (taken_from (d + 1) (drop n slots))) (add-one d) ∙ step_if slots d now next all (entry slots d) refl inside same is left

found_if : (p : ℕ → Bool) (id : ℕ) (rest : List ℕ) → p id ≡ true → find p (id ∷ rest) ≡ Some id
found_if p id rest is = rw is refl

missed_if : (p : ℕ → Bool) (id : ℕ) (rest : List ℕ) → p id ≡ false → find p (id ∷ rest) ≡ find p rest
missed_if p id rest is = rw is refl

abbrev Both : Bool → Bool → Type 0
Both a b = (a ≡ true) × (b ≡ true)

both_of : (a b : Bool) → (a && b) ≡ true → Both a b
both_of true b is = (refl, is)
both_of false b is = absurd (cc is)

-- the first device for whose driver a request waits
pub here_first : (p : ℕ → Bool) (slots : List (Option Link)) (d : ℕ) (all : Option ℕ) → (is_some (entry slots d) && p d) ≡ true → find p (taken_from d (drop d slots)) ≡ all → Some d ≡ all
here_first p slots d all is left =
    let both = both_of (is_some (entry slots d)) (p d) is in
    sym (found_if p d (taken_from (d + 1) (drop (suc d) slots)) both.1) ∙ ap (find p) (sym (taken_slot slots d d both.0)) ∙ left

further_if : (p : ℕ → Bool) (slots : List (Option Link)) (d : ℕ) (slot : Option Link) → entry slots d ≡ slot → d < length slots → (is_some slot && p d) ≡ false → find p (taken_from d (drop d slots)) ≡ find p (taken_from (d + 1) (drop (suc d) slots))
further_if p slots d None there inside is = ap (find p) (passed_slot slots d d inside there)
further_if p slots d (Some link) there inside is = ap (find p) (taken_slot slots d d (ap is_some there)) ∙ missed_if p d (taken_from (d + 1) (drop (suc d) slots)) is

pub further_first : (p : ℕ → Bool) (slots : List (Option Link)) (d : ℕ) (all : Option ℕ) → d < length slots → (is_some (entry slots d) && p d) ≡ false → find p (taken_from d (drop d slots)) ≡ all → find p (taken_from (d + 1) (drop (d + 1) slots)) ≡ all
further_first p slots d all inside is left =
    ap (λ n. find p (taken_from (d + 1) (drop n slots))) (add-one d) ∙ sym (further_if p slots d (entry slots d) refl inside is) ∙ left

abbrev first_by : Requests → List (Option Link) → Option ℕ
first_by rq links = find (λ d. is_some (first_waiting rq d)) (taken_from 1 (drop 1 links))

first_same : (dv : Devices) (links : List (Option Link)) (rq : Requests) → dv.links ≡ links → requests_of dv ≡ rq → first_by (requests_of dv) dv.links ≡ first_by rq links
first_same dv links rq one other = ap (λ (all : List (Option Link)). first_by (requests_of dv) all) one ∙ ap (λ (r : Requests). first_by r links) other

-- in sync mode the least device for whose driver a request waits gets its first
pub first_goes : (dv : Devices) (links : List (Option Link)) (rq : Requests) (d : ℕ) → dv.links ≡ links → requests_of dv ≡ rq → first_by rq links ≡ Some d → hand_first dv ≡ handed dv d
unfolding hand_first first_queued
first_goes dv links rq d one other is = ap (λ o. handed_one o dv) (first_same dv links rq one other ∙ is)

pub none_goes : (dv : Devices) (links : List (Option Link)) (rq : Requests) → dv.links ≡ links → requests_of dv ≡ rq → first_by rq links ≡ None → hand_first dv ≡ dv
unfolding hand_first first_queued
none_goes dv links rq one other is = ap (λ o. handed_one o dv) (first_same dv links rq one other ∙ is)
