-- What the kernel has given to a driver is with it by the table of requests, after every list of moves.
use Rattle.std.proofs.Common.{◌≡◌, ℕ, zero, suc, Bool, true, false, List, [], ◌∷◌, Option, Some, None, refl, ap, sym, subst, ◌∙◌, ◌⊎◌, inl, inr, arith}
use Rattle.std.proofs.lemmas.Bool.Decides.{nat_tests}
use Rattle.std.specs.Prelude.{◌+◌, slice_set, if◌then◌else◌, ◌==◌, ◌&&◌, map}
use Rattle.tk_types.specs.declared.line.How.{How}
use Rattle.tk_types.specs.declared.script.Device.{Device}
use Rattle.tk_types.specs.declared.script.Script.{Script}
use Rattle.kernel_model.specs.Words.Orders.{entry, without}
use Rattle.kernel_lemmas.proofs.Tables.{entry_other, entry_there}
use Rattle.device_model.specs.declared.rows.Life.{Life}
use Rattle.device_model.specs.declared.rows.Life.TheVariants as life
use Rattle.device_model.specs.Units.Function.{Served}
use Rattle.device_model.specs.Devices.Tables.{Given, Link, Row, Devices, devices_start, given_in, link_start, first_queued, is_at_driver, is_queued, queues_on, link_at, row_at, accepted, accepted_in, asked, asked_given, asked_link, dropped, dropped_in, handed, handed_first, handed_given, handed_link, handed_row, link_asked, link_handed, request_of}
use Rattle.device_model.specs.Devices.Endings.{ended_at, is_allowed, served_of}
use Rattle.device_model.specs.Devices.Handing.{emptied, link_emptied}
use Rattle.device_lemmas.proofs.Emptied.{emptied_at}
use Rattle.device_laws.specs.Moves.{Move, Opens, Wishes, Buffers, Offs, Accepts, Drops, Hands, Asks, Arrives, Takes, all_moved, ended, ended_given, ended_if, ended_link, ended_row, moved}
use Rattle.device_laws.specs.Requests.{AreTied, IsAway}
use Rattle.device_laws.proofs.Follows.{found}

-- a slot that was written, or another one
slot_apart : {A : Type 0} (xs : List (Option A)) (i j : ℕ) (y : Option A) (r : A) → entry (slice_set xs i y) j ≡ Some r → ((j ≡ i) × (y ≡ Some r)) ⊎ ((j ≡ i → ⊥) × (entry xs j ≡ Some r))
slot_apart [] i j y r there = absurd (cc there)
slot_apart (x ∷ xs) zero zero y r there = inl (refl, there)
slot_apart (x ∷ xs) zero (suc j) y r there = inr (λ is. omega (arith, is), there)
slot_apart (x ∷ xs) (suc i) zero y r there = inr (λ is. omega (arith, is), there)
slot_apart {A = A} (x ∷ xs) (suc i) (suc j) y r there = up (slot_apart xs i j y r there)
  where
    up : ((j ≡ i) × (y ≡ Some r)) ⊎ ((j ≡ i → ⊥) × (entry xs j ≡ Some r)) → ((suc j ≡ suc i) × (y ≡ Some r)) ⊎ ((suc j ≡ suc i → ⊥) × (entry (x ∷ xs) (suc j) ≡ Some r))
    up (inl both) = inl (ap (λ (n : ℕ). suc n) both.0, both.1)
    up (inr old) = inr (λ is. old.0 (omega (arith, is)), old.1)

abbrev life_or : Option Row → Life
life_or None = life.Queued
life_or (Some row) = row.life

abbrev device_or : Option Row → ℕ
device_or None = 0
device_or (Some row) = row.device

-- a request that is away stays so where another slot of the table is written
away_apart : (dv : Devices) (d id i : ℕ) (slot : Option Row) (after : Devices) → after.rows ≡ slice_set dv.rows i slot → (id ≡ i → ⊥) → IsAway dv d id → IsAway after d id
away_apart dv d id i slot after rows apart before = record {
  row = before.row;
  there = ap (λ slots. entry slots id) rows ∙ (entry_other dv.rows i id slot apart ∙ before.there);
  away = before.away;
  device = before.device;
}

-- and where the table is the same
away_same : (dv after : Devices) (d id : ℕ) → after.rows ≡ dv.rows → IsAway dv d id → IsAway after d id
away_same dv after d id rows before = record {
  row = before.row;
  there = ap (λ slots. entry slots id) rows ∙ before.there;
  away = before.away;
  device = before.device;
}

same_links : (dv after : Devices) → after.links ≡ dv.links → after.rows ≡ dv.rows → AreTied dv → AreTied after
same_links dv after links rows before = record {
  given = λ d link given linked has. away_same dv after d given.request.id rows (before.given d link given (ap (λ slots. entry slots d) (sym links) ∙ linked) has);
}

-- ---- accepting and letting go

accepted_tied : (dv : Devices) (id : ℕ) (new : Row) (slot : Option Row) → row_at dv id ≡ slot → AreTied dv → AreTied (accepted_in slot dv id new)
accepted_tied dv id new (Some other) there before = before
accepted_tied dv id new None there before = record {
  given = λ d link given linked has. stays d given.request.id (before.given d link given linked has);
}
  where
    stays : (d other : ℕ) → IsAway dv d other → IsAway (accepted_in None dv id new) d other
    stays d other is = away_apart dv d other id (Some (record new { serial = dv.serial })) (accepted_in None dv id new) refl
        (λ same. let nothing : row_at dv other ≡ None = ap (λ (n : ℕ). row_at dv n) same ∙ there in cc (nothing, is.there)) is

dropped_by : (dv : Devices) (id : ℕ) (row : Row) (away : Bool) → row_at dv id ≡ Some row → is_at_driver row.life ≡ away → AreTied dv →
    AreTied (if away then dv else record dv { rows = slice_set dv.rows id None; queued = without id dv.queued; ended = without id dv.ended })
dropped_by dv id row true there is before = before
dropped_by dv id row false there is before = record {
  given = λ d link given linked has. stays d given.request.id (before.given d link given linked has);
}
  where
    stays : (d other : ℕ) → IsAway dv d other → IsAway (record dv { rows = slice_set dv.rows id None; queued = without id dv.queued; ended = without id dv.ended }) d other
    stays d other held = away_apart dv d other id None _ refl
        (λ same. let here : is_at_driver held.row.life ≡ is_at_driver row.life = ap (λ (o : Option Row). is_at_driver (life_or o)) (sym held.there ∙ (ap (λ (n : ℕ). row_at dv n) same ∙ there)) in cc (here, held.away, is)) held

dropped_tied : (dv : Devices) (id : ℕ) (slot : Option Row) → row_at dv id ≡ slot → AreTied dv → AreTied (dropped_in slot dv id)
dropped_tied dv id None there before = before
dropped_tied dv id (Some row) there before = dropped_by dv id row (is_at_driver row.life) there refl before

-- ---- going to a driver

both : (one other : Bool) → (one && other) ≡ true → (one ≡ true) × (other ≡ true)
both true other is = (refl, is)
both false other is = absurd (cc is)

not_away : (now : Life) → is_queued now ≡ true → is_at_driver now ≡ true → ⊥
not_away life.Queued waits away = absurd (cc away)
not_away life.AtDriver waits away = absurd (cc waits)
not_away (life.Ended size error) waits away = absurd (cc waits)

abbrev id_in : Option Given → ℕ
id_in None = 0
id_in (Some given) = given.request.id

handed_by_row : (dv : Devices) (d : ℕ) (link : Link) (id : ℕ) → first_queued dv d ≡ Some id → AreTied dv → (slot : Option Row) → row_at dv id ≡ slot → AreTied (handed_row dv d link id slot)
unfolding first_queued
handed_by_row dv d link id first before None there = before
handed_by_row dv d link id first before (Some row) there = record {
  given = λ other now given linked has. by_slot other now given has (slot_apart dv.links d other (Some (link_handed d link (request_of id (link.number + 1) row))) now linked);
}
  where
    facts : ((row.device == d) ≡ true) × (is_queued row.life ≡ true)
    facts = both (row.device == d) (is_queued row.life) (ap (λ (slot : Option Row). queues_on d slot) (sym there) ∙ found (λ n. queues_on d (row_at dv n)) dv.queued id first)

    fresh : IsAway (handed_row dv d link id (Some row)) d id
    fresh = record {
      row = record row { bytes = []; life = life.AtDriver };
      there = entry_there dv.rows id row (Some (record row { bytes = []; life = life.AtDriver })) there;
      away = refl;
      device = same_device;
    }
      where
        same_device : row.device ≡ d
        same_device = grind (arith, nat_tests, facts.0)

    by_slot : (other : ℕ) (now : Link) (given : Given) → now.given ≡ Some given →
        ((other ≡ d) × (Some (link_handed d link (request_of id (link.number + 1) row)) ≡ Some now)) ⊎ ((other ≡ d → ⊥) × (link_at dv other ≡ Some now)) →
        IsAway (handed_row dv d link id (Some row)) other given.request.id
    by_slot other now given has (inl written) =
        let same : id ≡ given.request.id = ap (λ (o : Option Link). id_in (given_in o)) written.1 ∙ ap (λ (o : Option Given). id_in o) has in
        subst (λ (n : ℕ). IsAway (handed_row dv d link id (Some row)) other n) same (subst (λ (n : ℕ). IsAway (handed_row dv d link id (Some row)) n id) (sym written.0) fresh)
    by_slot other now given has (inr old) =
        let held : IsAway dv other given.request.id = before.given other now given old.1 has in
        away_apart dv other given.request.id id (Some (record row { bytes = []; life = life.AtDriver })) (handed_row dv d link id (Some row)) refl
        (λ same. let here : is_at_driver held.row.life ≡ is_at_driver row.life = ap (λ (o : Option Row). is_at_driver (life_or o)) (sym held.there ∙ (ap (λ (n : ℕ). row_at dv n) same ∙ there)) in not_away row.life facts.1 (sym here ∙ held.away)) held

handed_by_first : (dv : Devices) (d : ℕ) (link : Link) → AreTied dv → (first : Option ℕ) → first_queued dv d ≡ first → AreTied (handed_first dv d link first)
handed_by_first dv d link before None first = before
handed_by_first dv d link before (Some id) first = handed_by_row dv d link id first before (row_at dv id) refl

handed_by_given : (dv : Devices) (d : ℕ) (link : Link) (given : Option Given) → AreTied dv → AreTied (handed_given dv d link given)
handed_by_given dv d link (Some given) before = before
handed_by_given dv d link None before = handed_by_first dv d link before (first_queued dv d) refl

handed_by_link : (dv : Devices) (d : ℕ) (link : Option Link) → AreTied dv → AreTied (handed_link dv d link)
handed_by_link dv d None before = before
handed_by_link dv d (Some link) before = handed_by_given dv d link link.given before

-- ---- asking

asked_by : (dv : Devices) (d : ℕ) (link : Link) (given : Given) (so : Bool) → link_at dv d ≡ Some link → link.given ≡ Some given → AreTied dv →
    AreTied (if so then dv else record dv { links = slice_set dv.links d (Some (link_asked d link given)) })
asked_by dv d link given true linked has before = before
asked_by dv d link given false linked has before = record {
  given = λ other now held at there. by_slot other now held there (slot_apart dv.links d other (Some (link_asked d link given)) now at);
}
  where
    by_slot : (other : ℕ) (now : Link) (held : Given) → now.given ≡ Some held → ((other ≡ d) × (Some (link_asked d link given) ≡ Some now)) ⊎ ((other ≡ d → ⊥) × (link_at dv other ≡ Some now)) →
        IsAway (record dv { links = slice_set dv.links d (Some (link_asked d link given)) }) other held.request.id
    by_slot other now held there (inl written) =
        let same : given.request.id ≡ held.request.id = ap (λ (o : Option Link). id_in (given_in o)) written.1 ∙ ap (λ (o : Option Given). id_in o) there in
        away_same dv _ other held.request.id refl
        (subst (λ (n : ℕ). IsAway dv other n) same (subst (λ (n : ℕ). IsAway dv n given.request.id) (sym written.0) (before.given d link given linked has)))
    by_slot other now held there (inr old) = away_same dv _ other held.request.id refl (before.given other now held old.1 there)

asked_by_given : (dv : Devices) (d : ℕ) (link : Link) → link_at dv d ≡ Some link → AreTied dv → (given : Option Given) → link.given ≡ given → AreTied (asked_given dv d link given)
asked_by_given dv d link linked before None has = before
asked_by_given dv d link linked before (Some given) has = asked_by dv d link given given.asked linked has before

asked_by_link : (dv : Devices) (d : ℕ) → AreTied dv → (link : Option Link) → link_at dv d ≡ link → AreTied (asked_link dv d link)
asked_by_link dv d before None linked = before
asked_by_link dv d before (Some link) linked = asked_by_given dv d link linked before link.given refl

-- ---- ending

ended_by_life : (dv : Devices) (d : ℕ) (link : Link) (id : ℕ) (row : Row) (served : Served) → IsAway dv d id → row_at dv id ≡ Some row → (away : Bool) → AreTied dv → AreTied (if away then ended_at dv d link id row served else dv)
ended_by_life dv d link id row served held there false before = before
ended_by_life dv d link id row served held there true before = record {
  given = λ other now given at has. by_slot other now given has (slot_apart dv.links d other (Some (record link { store = served.store; given = None })) now at);
}
  where
    by_slot : (other : ℕ) (now : Link) (given : Given) → now.given ≡ Some given →
        ((other ≡ d) × (Some (record link { store = served.store; given = None }) ≡ Some now)) ⊎ ((other ≡ d → ⊥) × (link_at dv other ≡ Some now)) → IsAway (ended_at dv d link id row served) other given.request.id
    by_slot other now given has (inl written) = let none : None ≡ now.given = ap (λ (o : Option Link). given_in o) written.1 in absurd (cc (none, has))
    by_slot other now given has (inr old) =
        let elsewhere : IsAway dv other given.request.id = before.given other now given old.1 has in
        away_apart dv other given.request.id id (Some (record row { life = life.Ended served.size served.error })) (ended_at dv d link id row served) refl
        (λ same. old.0 (sym elsewhere.device ∙ (ap (λ (o : Option Row). device_or o) (sym elsewhere.there ∙ (ap (λ (n : ℕ). row_at dv n) same ∙ held.there)) ∙ held.device))) elsewhere

ended_by_row : (dv : Devices) (d : ℕ) (link : Link) (given : Given) (how : How) → IsAway dv d given.request.id → AreTied dv → (slot : Option Row) → row_at dv given.request.id ≡ slot → AreTied (ended_row dv d link given how slot)
ended_by_row dv d link given how held before None there = before
ended_by_row dv d link given how held before (Some row) there =
    ended_by_life dv d link given.request.id row (served_of link.kind link.store given.request how) held there (is_at_driver row.life) before

ended_by_if : (dv : Devices) (d : ℕ) (link : Link) (given : Given) (how : How) (allowed : Bool) → IsAway dv d given.request.id → AreTied dv → AreTied (ended_if allowed dv d link given how)
ended_by_if dv d link given how false held before = before
ended_by_if dv d link given how true held before = ended_by_row dv d link given how held before (row_at dv given.request.id) refl

ended_by_given : (dv : Devices) (d : ℕ) (link : Link) (how : How) → link_at dv d ≡ Some link → AreTied dv → (given : Option Given) → link.given ≡ given → AreTied (ended_given dv d link how given)
ended_by_given dv d link how linked before None has = before
ended_by_given dv d link how linked before (Some given) has = ended_by_if dv d link given how (is_allowed link.kind link.store given how) (before.given d link given linked has) before

ended_by_link : (dv : Devices) (d : ℕ) (how : How) → AreTied dv → (link : Option Link) → link_at dv d ≡ link → AreTied (ended_link dv d how link)
ended_by_link dv d how before None linked = before
ended_by_link dv d how before (Some link) linked = ended_by_given dv d link how linked before link.given refl

-- ---- messages that are taken

-- a link has what it had
emptied_from : (slot : Option Link) (link : Link) (given : Given) → link_emptied slot ≡ Some link → link.given ≡ Some given → (old : Link) × (slot ≡ Some old) × (old.given ≡ Some given)
emptied_from None link given linked has = absurd (cc linked)
emptied_from (Some old) link given linked has = (old, refl, let same : record old { out = [] } ≡ link = cc linked in ap (λ (now : Link). now.given) same ∙ has)

pub emptied_tied : (dv : Devices) → AreTied dv → AreTied (emptied dv)
unfolding emptied
emptied_tied dv before = record {
  given = λ d link given linked has.
      let old = emptied_from (link_at dv d) link given (sym (emptied_at dv d) ∙ linked) has in away_same dv (emptied dv) d given.request.id refl (before.given d old.0 given old.1 old.2);
}

-- ---- all moves

moved_tied : (dv : Devices) (move : Move) → AreTied dv → AreTied (moved dv move)
unfolding moved accepted dropped handed asked ended
moved_tied dv (Opens dd slot) before = same_links dv _ refl refl before
moved_tied dv (Wishes t wish) before = same_links dv _ refl refl before
moved_tied dv (Buffers d id) before = same_links dv _ refl refl before
moved_tied dv (Offs off) before = same_links dv _ refl refl before
moved_tied dv (Accepts id row new) before = accepted_tied dv id row (row_at dv id) refl before
moved_tied dv (Drops id) before = dropped_tied dv id (row_at dv id) refl before
moved_tied dv (Hands d) before = handed_by_link dv d (link_at dv d) before
moved_tied dv (Asks d) before = asked_by_link dv d before (link_at dv d) refl
moved_tied dv (Arrives d how) before = ended_by_link dv d how before (link_at dv d) refl
moved_tied dv Takes before = emptied_tied dv before

pub stay_tied : (moves : List Move) (dv : Devices) → AreTied dv → AreTied (all_moved dv moves)
unfolding all_moved
stay_tied [] dv before = before
stay_tied (move ∷ moves) dv before = stay_tied moves (moved dv move) (moved_tied dv move before)

none_given : (devices : List Device) (d : ℕ) (link : Link) (given : Given) → entry (map link_start devices) d ≡ Some link → link.given ≡ Some given → ⊥
none_given [] d link given linked has = absurd (cc linked)
none_given (device ∷ devices) zero link given linked has = let none : None ≡ link.given = ap (λ (o : Option Link). given_in o) linked in absurd (cc (none, has))
none_given (device ∷ devices) (suc d) link given linked has = none_given devices d link given linked has

none_at_first : (devices : List Device) (d : ℕ) (link : Link) (given : Given) → entry (None ∷ map link_start devices) d ≡ Some link → link.given ≡ Some given → ⊥
none_at_first devices zero link given linked has = absurd (cc linked)
none_at_first devices (suc d) link given linked has = none_given devices d link given linked has

pub tied_at_first : (script : Script) → AreTied (devices_start script)
unfolding devices_start
tied_at_first script = record { given = λ d link given linked has. absurd (none_at_first script.devices d link given linked has) }
