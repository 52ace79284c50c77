-- Once requests have gone to the drivers none is left that could go: each driver has one, or nothing waits for it.
use Rattle.std.proofs.Common.{◌≡◌, ℕ, ◌+◌, Bool, true, false, not, cond, ◌&&◌, List, [], ◌∷◌, Option, Some, None, refl, ◌∙◌, ap, sym}
use Rattle.std.specs.Prelude.{slice_set}
use Rattle.std.specs.Bool.{◌==◌}
use Rattle.std.specs.List.{find}
use Rattle.tk_types.specs.declared.run.Mode.{Mode}
use Rattle.tk_types.specs.declared.run.Mode.TheVariants as modes
use Rattle.kernel_model.specs.Words.Orders.{entry, without}
use Rattle.kernel_model.specs.Tasks.Base.{Base, fifo_queue}
use Rattle.device_model.specs.declared.rows.Life.TheVariants.{AtDriver}
use Rattle.device_model.specs.Devices.Tables.{Devices, Given, Link, Row, device_ids, first_queued, handed, handed_first, handed_given, handed_link, handed_row, link_at, link_handed, queues_on, request_of, row_at}
use Rattle.device_model.specs.Devices.Handing.{hand_over, handed_all, handed_unless, suspension_object}
use Rattle.machine_model.specs.States.Objects.{Parts}
use Rattle.machine_model.specs.Events.Settle.{handed as handed_parts}
use Rattle.kernel_lemmas.proofs.Tables.{entry_each, entry_same, entry_there}
use Rattle.machine_lemmas.proofs.HandingServes.{found_passes, hand_over_ready}

-- no request can go to the driver of a device: there is no such device, it has one, or none waits for it
pub data Stays (dv : Devices) (d : ℕ) : Type 0 where
  absent : link_at dv d ≡ None → Stays dv d
  busy : (link : Link) (given : Given) → link_at dv d ≡ Some link → link.given ≡ Some given → Stays dv d
  empty : first_queued dv d ≡ None → Stays dv d

given_same : (dv : Devices) (d : ℕ) (link : Link) (given : Option Given) → first_queued dv d ≡ None → handed_given dv d link given ≡ dv
given_same dv d link (Some given) none = refl
given_same dv d link None none = ap (handed_first dv d link) none

link_same : (dv : Devices) (d : ℕ) (slot : Option Link) → first_queued dv d ≡ None → handed_link dv d slot ≡ dv
link_same dv d None none = refl
link_same dv d (Some link) none = given_same dv d link link.given none

-- then nothing goes
stays_same : (dv : Devices) (d : ℕ) → Stays dv d → handed dv d ≡ dv
unfolding handed
stays_same dv d (absent none) = ap (handed_link dv d) none
stays_same dv d (busy link given at has) = ap (handed_link dv d) at ∙ ap (handed_given dv d link) has
stays_same dv d (empty none) = link_same dv d (link_at dv d) none

-- ---- the device itself

row_stays : (dv : Devices) (d : ℕ) (link : Link) (id : ℕ) (slot : Option Row) → link_at dv d ≡ Some link → queues_on d slot ≡ true → Stays (handed_row dv d link id slot) d
row_stays dv d link id None at queued = absurd (cc queued)
row_stays dv d link id (Some row) at queued = busy (link_handed d link (request_of id (link.number + 1) row)) _ (entry_there dv.links d link _ at) refl

first_stays : (dv : Devices) (d : ℕ) (link : Link) (first : Option ℕ) → link_at dv d ≡ Some link → first_queued dv d ≡ first → Stays (handed_first dv d link first) d
unfolding first_queued
first_stays dv d link None at is = empty is
first_stays dv d link (Some id) at is = row_stays dv d link id (row_at dv id) at (found_passes (λ it. queues_on d (row_at dv it)) dv.queued id is)

given_stays : (dv : Devices) (d : ℕ) (link : Link) (given : Option Given) → link_at dv d ≡ Some link → link.given ≡ given → Stays (handed_given dv d link given) d
given_stays dv d link None at has = first_stays dv d link (first_queued dv d) at refl
given_stays dv d link (Some given) at has = busy link given at has

link_stays : (dv : Devices) (d : ℕ) (slot : Option Link) → link_at dv d ≡ slot → Stays (handed_link dv d slot) d
link_stays dv d None at = absent at
link_stays dv d (Some link) at = given_stays dv d link link.given at refl

-- once its first request has gone, none can go
handed_stays : (dv : Devices) (d : ℕ) → Stays (handed dv d) d
unfolding handed
handed_stays dv d = link_stays dv d (link_at dv d) refl

-- ---- another device

-- of fewer IDs, of which none passes that didn't before, none is found either
kept_none : (other : ℕ → Bool) (id it : ℕ) (ids later : List ℕ) (found : Option ℕ) (kept test : Bool) → (test ≡ false → other it ≡ false) → cond test (Some it) found ≡ None → (found ≡ None → find other later ≡ None) →
    find other (cond kept (it ∷ later) later) ≡ None
kept_none other id it ids later found kept true less is rest = absurd (cc is)
kept_none other id it ids later found true false less is rest = ap (λ passed. cond passed (Some it) (find other later)) (less refl) ∙ rest is
kept_none other id it ids later found false false less is rest = rest is

none_without : (passes other : ℕ → Bool) (id : ℕ) (ids : List ℕ) → ((it : ℕ) → passes it ≡ false → other it ≡ false) → find passes ids ≡ None → find other (without id ids) ≡ None
none_without passes other id [] less is = refl
none_without passes other id (it ∷ ids) less is =
    kept_none other id it ids (without id ids) (find passes ids) (not (it == id)) (passes it) (less it) is (none_without passes other id ids less)

-- a request that went waits for no driver any more
went_passes : (dv : Devices) (e id : ℕ) (row : Row) (it : ℕ) → queues_on e (row_at dv it) ≡ false → queues_on e (entry (slice_set dv.rows id (Some (record row { bytes = []; life = AtDriver }))) it) ≡ false
went_passes dv e id row it =
    entry_each (λ i slot. queues_on e (row_at dv i) ≡ false → queues_on e slot ≡ false) dv.rows id (Some (record row { bytes = []; life = AtDriver }))
    (λ before. entry_same (λ slot. queues_on e slot ≡ false) dv.rows id (Some (record row { bytes = []; life = AtDriver })) (never (row.device == e)) refl) (λ j apart is. is) it
  where
    never : (test : Bool) → (test && false) ≡ false
    never true = refl
    never false = refl

row_others : (dv : Devices) (d e : ℕ) (link : Link) (id : ℕ) (slot : Option Row) → link_at dv d ≡ Some link → link.given ≡ None → Stays dv e → Stays (handed_row dv d link id slot) e
unfolding first_queued
row_others dv d e link id None at free stays = stays
row_others dv d e link id (Some row) at free (empty none) = empty (none_without (λ it. queues_on e (row_at dv it)) _ id dv.queued (went_passes dv e id row) none)
row_others dv d e link id (Some row) at free (absent none) =
    absent (entry_each (λ i slot. entry dv.links i ≡ None → slot ≡ None) dv.links d _ (λ is. absurd (let both : None ≡ Some link = sym is ∙ at in cc both)) (λ j apart is. is) e none)
row_others dv d e link id (Some row) at free (busy other given there has) =
    busy other given (entry_each (λ i slot. entry dv.links i ≡ Some other → slot ≡ Some other) dv.links d _
    (λ is. absurd (let same : other ≡ link = cc (is, at) in let both : None ≡ Some given = sym free ∙ ap (λ (it : Link). it.given) (sym same) ∙ has in cc both)) (λ j apart is. is) e there) has

first_others : (dv : Devices) (d e : ℕ) (link : Link) (first : Option ℕ) → link_at dv d ≡ Some link → link.given ≡ None → Stays dv e → Stays (handed_first dv d link first) e
first_others dv d e link None at free stays = stays
first_others dv d e link (Some id) at free stays = row_others dv d e link id (row_at dv id) at free stays

given_others : (dv : Devices) (d e : ℕ) (link : Link) (given : Option Given) → link_at dv d ≡ Some link → link.given ≡ given → Stays dv e → Stays (handed_given dv d link given) e
given_others dv d e link None at free stays = first_others dv d e link (first_queued dv d) at free stays
given_others dv d e link (Some given) at has stays = stays

link_others : (dv : Devices) (d e : ℕ) (slot : Option Link) → link_at dv d ≡ slot → Stays dv e → Stays (handed_link dv d slot) e
link_others dv d e None at stays = stays
link_others dv d e (Some link) at stays = given_others dv d e link link.given at refl stays

handed_others : (dv : Devices) (d e : ℕ) → Stays dv e → Stays (handed dv d) e
unfolding handed
handed_others dv d e stays = link_others dv d e (link_at dv d) refl stays

-- ---- all devices

-- so it is for each of these
unfoldable pub AllStay : Devices → List ℕ → Type 0
AllStay dv [] = Unit {0}
AllStay dv (d ∷ ids) = Stays dv d × AllStay dv ids

all_others : (dv : Devices) (d : ℕ) (ids : List ℕ) → AllStay dv ids → AllStay (handed dv d) ids
unfolding AllStay
all_others dv d [] all = tt
all_others dv d (e ∷ ids) all = (handed_others dv d e all.0, all_others dv d ids all.1)

stays_through : (ids : List ℕ) (dv : Devices) (e : ℕ) → Stays dv e → Stays (handed_all ids dv) e
stays_through [] dv e stays = stays
stays_through (d ∷ ids) dv e stays = stays_through ids (handed dv d) e (handed_others dv d e stays)

-- once requests have gone to the drivers of these none can go
pub all_stay : (ids : List ℕ) (dv : Devices) → AllStay (handed_all ids dv) ids
unfolding AllStay
all_stay [] dv = tt
all_stay (d ∷ ids) dv = (stays_through ids (handed dv d) d (handed_stays dv d), all_stay ids (handed dv d))

-- where none can go nothing changes
pub all_same : (ids : List ℕ) (dv : Devices) → AllStay dv ids → handed_all ids dv ≡ dv
unfolding AllStay
all_same [] dv all = refl
all_same (d ∷ ids) dv all = let same = stays_same dv d all.0 in ap (handed_all ids) same ∙ all_same ids dv all.1

unless_twice : (waiters : List ℕ) (dv : Devices) → device_ids (handed_unless waiters dv) ≡ device_ids dv → handed_unless waiters (handed_unless waiters dv) ≡ handed_unless waiters dv
unless_twice [] dv same =
    let now : Devices = handed_all (device_ids dv) dv in
    ap (λ ids. handed_all ids now) same ∙ all_same (device_ids dv) now (all_stay (device_ids dv) dv)
unless_twice (t ∷ ts) dv same = refl

hand_over_twice : (b : Base) (dv : Devices) → hand_over b (hand_over b dv) ≡ hand_over b dv
unfolding hand_over
hand_over_twice b dv = unless_twice (fifo_queue b suspension_object) dv (hand_over_ready b dv).ids

-- where requests have gone to drivers none is left to go
pub handed_twice : (mode : Mode) (p : Parts) → handed_parts mode (handed_parts mode p) ≡ handed_parts mode p
handed_twice modes.Sync p = refl
handed_twice modes.Free p = ap (λ dv. record p { objects = record p.objects { devices = dv } }) (hand_over_twice p.base p.objects.devices)

-- ---- nothing waits

each_empty : (ids : List ℕ) (dv : Devices) → ((d : ℕ) → first_queued dv d ≡ None) → AllStay dv ids
unfolding AllStay
each_empty [] dv none = tt
each_empty (d ∷ ids) dv none = (empty (none d), each_empty ids dv none)

unless_empty : (waiters : List ℕ) (dv : Devices) → ((d : ℕ) → first_queued dv d ≡ None) → handed_unless waiters dv ≡ dv
unless_empty [] dv none = all_same (device_ids dv) dv (each_empty (device_ids dv) dv none)
unless_empty (t ∷ ts) dv none = refl

-- where no request waits for a driver none goes
pub hand_over_none : (b : Base) (dv : Devices) → dv.queued ≡ [] → hand_over b dv ≡ dv
unfolding hand_over first_queued
hand_over_none b dv none = unless_empty (fifo_queue b suspension_object) dv (λ d. ap (find (λ id. queues_on d (row_at dv id))) none)
