-- What becomes of each request in one move.
use Rattle.std.proofs.Common.{◌≡◌, ℕ, zero, suc, ◌+◌, ◌<◌, ◌≤◌, Bool, true, false, List, [], ◌∷◌, Option, Some, None, refl, ap, sym, subst, ◌∙◌, ◌⊎◌, inl, inr, arith}
use Rattle.std.specs.Prelude.{if◌then◌else◌, slice_set, find, fold, ◌==◌, ◌&&◌}
use Rattle.tk_types.specs.declared.line.How.{How}
use Rattle.kernel_model.specs.Words.Orders.{entry, without}
use Rattle.device_model.specs.declared.rows.Life.TheVariants.{AtDriver, Ended}
use Rattle.device_model.specs.Devices.Tables.{Given, Link, Row, Devices, is_queued, is_at_driver, queues_on, link_at, row_at, accepted, accepted_in, asked, asked_given, asked_link, dropped, dropped_in, first_queued, handed, handed_first, handed_given, handed_link, handed_row, link_asked}
use Rattle.device_model.specs.Units.Function.{Served}
use Rattle.device_model.specs.Devices.Endings.{ended_at, is_allowed, served_of}
use Rattle.device_model.specs.Devices.MoveProofs.{is_aborted}
use Rattle.device_model.specs.Devices.Handing.{emptied}
use Rattle.device_laws.specs.Moves.{Move, Opens, Wishes, Buffers, Offs, Accepts, Drops, Hands, Asks, Arrives, Takes, ended, ended_given, ended_if, ended_link, ended_row, moved}

-- what stands in a slot after one was written is what was written, or stood there before
pub slot_of : {A : Type 0} (xs : List (Option A)) (i j : ℕ) (y : Option A) (r : A) → entry (slice_set xs i y) j ≡ Some r → ((j ≡ i) × (y ≡ Some r)) ⊎ (entry xs j ≡ Some r)
slot_of [] i j y r there = inr there
slot_of (x ∷ xs) zero zero y r there = inl (refl, there)
slot_of (x ∷ xs) zero (suc j) y r there = inr there
slot_of (x ∷ xs) (suc i) zero y r there = inr there
slot_of {A = A} (x ∷ xs) (suc i) (suc j) y r there = up (slot_of xs i j y r there)
  where
    up : ((j ≡ i) × (y ≡ Some r)) ⊎ (entry xs j ≡ Some r) → ((suc j ≡ suc i) × (y ≡ Some r)) ⊎ (entry (x ∷ xs) (suc j) ≡ Some r)
    up (inl both) = inl (ap (λ (n : ℕ). suc n) both.0, both.1)
    up (inr old) = inr old

-- a request stays as it is, goes to its driver, or ends there
pub data Change (dv : Devices) (before after : Row) : Type 0 where
  Same : (is : after ≡ before) → Change dv before after
  Went : (queued : is_queued before.life ≡ true) (is : after ≡ record before { bytes = []; life = AtDriver }) → Change dv before after
  Came : (away : is_at_driver before.life ≡ true) (d : ℕ) (link : Link) (given : Given) (how : How) (linked : link_at dv d ≡ Some link) (has : link.given ≡ Some given)
      (fit : is_allowed link.kind link.store given how ≡ true) (its : row_at dv given.request.id ≡ Some before)
      (is : after ≡ record before { life = Ended (served_of link.kind link.store given.request how).size (served_of link.kind link.store given.request how).error }) → Change dv before after

pub record From (dv : Devices) (id : ℕ) (row : Row) : Type 0 where
  pub before : Row
  pub there : row_at dv id ≡ Some before
  pub change : Change dv before row

-- each request of the later table was there before, or is the one that was accepted
pub record Follows (dv after : Devices) : Type 0 where
  pub fresh : ℕ
  pub serials : dv.serial ≤ after.serial
  pub rows : (id : ℕ) (row : Row) → row_at after id ≡ Some row → ((id ≡ fresh) × (row.serial ≡ dv.serial) × (dv.serial < after.serial) × (is_aborted row.life ≡ false) × (is_at_driver row.life ≡ false)) ⊎ From dv id row

-- a table with the same requests
same_rows : (dv after : Devices) → after.rows ≡ dv.rows → after.serial ≡ dv.serial → Follows dv after
same_rows dv after rows serial = record {
  fresh = 0;
  serials = omega (arith, serial);
  rows = λ id row there. inr (record { before = row; there = ap (λ slots. entry slots id) (sym rows) ∙ there; change = Same refl });
}

pub itself : (dv : Devices) → Follows dv dv
itself dv = same_rows dv dv refl refl

-- a table of which one slot was written, with what comes from there
one_row : (dv after : Devices) (id : ℕ) (slot : Option Row) → after.rows ≡ slice_set dv.rows id slot → after.serial ≡ dv.serial → ((row : Row) → slot ≡ Some row → From dv id row) → Follows dv after
one_row dv after id slot rows serial comes = record {
  fresh = 0;
  serials = omega (arith, serial);
  rows = λ other row there. by_slot other row (slot_of dv.rows id other slot row (ap (λ slots. entry slots other) (sym rows) ∙ there));
}
  where
    by_slot : (other : ℕ) (row : Row) → ((other ≡ id) × (slot ≡ Some row)) ⊎ (entry dv.rows other ≡ Some row) → ((other ≡ 0) × (row.serial ≡ dv.serial) × (dv.serial < after.serial) × (is_aborted row.life ≡ false) × (is_at_driver row.life ≡ false)) ⊎ From dv other row
    by_slot other row (inl written) = inr (subst (λ (n : ℕ). From dv n row) (sym written.0) (comes row written.1))
    by_slot other row (inr old) = inr (record { before = row; there = old; change = Same refl })

abbrev serial_or : Option Row → ℕ → ℕ
serial_or None otherwise = otherwise
serial_or (Some row) otherwise = row.serial

abbrev aborted_in : Option Row → Bool
aborted_in None = false
aborted_in (Some row) = is_aborted row.life

abbrev away_in : Option Row → Bool
away_in None = false
away_in (Some row) = is_at_driver row.life

accepted_new : (dv : Devices) (id : ℕ) (new : Row) (slot : Option Row) → is_aborted new.life ≡ false → is_at_driver new.life ≡ false → Follows dv (accepted_in slot dv id new)
accepted_new dv id new (Some other) plain apart = itself dv
accepted_new dv id new None plain apart = record {
  fresh = id;
  serials = omega arith;
  rows = λ other row there. by_slot other row (slot_of dv.rows id other (Some (record new { serial = dv.serial })) row there);
}
  where
    by_slot : (other : ℕ) (row : Row) → ((other ≡ id) × (Some (record new { serial = dv.serial }) ≡ Some row)) ⊎ (entry dv.rows other ≡ Some row) → ((other ≡ id) × (row.serial ≡ dv.serial) × (dv.serial < dv.serial + 1) × (is_aborted row.life ≡ false) × (is_at_driver row.life ≡ false)) ⊎ From dv other row
    by_slot other row (inl written) = inl (written.0, sym (ap (λ (o : Option Row). serial_or o dv.serial) written.1), omega arith, sym (ap (λ (o : Option Row). aborted_in o) written.1) ∙ plain, sym (ap (λ (o : Option Row). away_in o) written.1) ∙ apart)
    by_slot other row (inr old) = inr (record { before = row; there = old; change = Same refl })

accepted_follows : (dv : Devices) (id : ℕ) (new : Row) → is_aborted new.life ≡ false → is_at_driver new.life ≡ false → Follows dv (accepted dv id new)
unfolding accepted
accepted_follows dv id new plain apart = accepted_new dv id new (row_at dv id) plain apart

dropped_by : (dv : Devices) (id : ℕ) (away : Bool) (queued ended : List ℕ) → Follows dv (if away then dv else record dv { rows = slice_set dv.rows id None; queued = queued; ended = ended })
dropped_by dv id true queued ended = itself dv
dropped_by dv id false queued ended = one_row dv (record dv { rows = slice_set dv.rows id None; queued = queued; ended = ended }) id None refl refl (λ row is. absurd (cc is))

dropped_row : (dv : Devices) (id : ℕ) (slot : Option Row) → Follows dv (dropped_in slot dv id)
dropped_row dv id None = itself dv
dropped_row dv id (Some row) = dropped_by dv id (is_at_driver row.life) (without id dv.queued) (without id dv.ended)

dropped_follows : (dv : Devices) (id : ℕ) → Follows dv (dropped dv id)
unfolding dropped
dropped_follows dv id = dropped_row dv id (row_at dv id)

-- ---- going to a driver

abbrev or_zero : Option ℕ → ℕ
or_zero None = 0
or_zero (Some n) = n

found_by : (passes : ℕ → Bool) (first : ℕ) (ids : List ℕ) (id : ℕ) (test : Bool) → passes first ≡ test → (find passes ids ≡ Some id → passes id ≡ true) → (if test then Some first else find passes ids) ≡ Some id → passes id ≡ true
found_by passes first ids id true passed later is = subst (λ (n : ℕ). passes n ≡ true) (ap (λ (o : Option ℕ). or_zero o) is) passed
found_by passes first ids id false passed later is = later is

-- what is found passes
pub found : (passes : ℕ → Bool) (ids : List ℕ) (id : ℕ) → find passes ids ≡ Some id → passes id ≡ true
found passes [] id is = absurd (cc is)
found passes (first ∷ ids) id is = found_by passes first ids id (passes first) refl (found passes ids id) is

waits_there : (d : ℕ) (row : Row) → queues_on d (Some row) ≡ true → is_queued row.life ≡ true
waits_there d row is = second (row.device == d) (is_queued row.life) is
  where
    second : (one other : Bool) → (one && other) ≡ true → other ≡ true
    second true other is = is
    second false other is = absurd (cc is)

-- the first request that waits for a driver does wait
pub first_waits : (dv : Devices) (d id : ℕ) (row : Row) → first_queued dv d ≡ Some id → row_at dv id ≡ Some row → is_queued row.life ≡ true
unfolding first_queued
first_waits dv d id row first there = waits_there d row (ap (λ (slot : Option Row). queues_on d slot) (sym there) ∙ found (λ n. queues_on d (row_at dv n)) dv.queued id first)

abbrev row_or : Option Row → Row → Row
row_or None otherwise = otherwise
row_or (Some row) otherwise = row

handed_by_row : (dv : Devices) (d : ℕ) (link : Link) (id : ℕ) → first_queued dv d ≡ Some id → (slot : Option Row) → row_at dv id ≡ slot → Follows dv (handed_row dv d link id slot)
handed_by_row dv d link id first None there = itself dv
handed_by_row dv d link id first (Some row) there =
    let after : Devices = handed_row dv d link id (Some row) in
    one_row dv after id (Some (record row { bytes = []; life = AtDriver })) refl refl
    (λ now is. record { before = row; there = there; change = Went (first_waits dv d id row first there) (sym (ap (λ (o : Option Row). row_or o row) is)) })

handed_by_first : (dv : Devices) (d : ℕ) (link : Link) (first : Option ℕ) → first_queued dv d ≡ first → Follows dv (handed_first dv d link first)
handed_by_first dv d link None is = itself dv
handed_by_first dv d link (Some id) is = handed_by_row dv d link id is (row_at dv id) refl

handed_by_given : (dv : Devices) (d : ℕ) (link : Link) (given : Option Given) → Follows dv (handed_given dv d link given)
handed_by_given dv d link (Some given) = itself dv
handed_by_given dv d link None = handed_by_first dv d link (first_queued dv d) refl

handed_by_link : (dv : Devices) (d : ℕ) (link : Option Link) → Follows dv (handed_link dv d link)
handed_by_link dv d None = itself dv
handed_by_link dv d (Some link) = handed_by_given dv d link link.given

handed_follows : (dv : Devices) (d : ℕ) → Follows dv (handed dv d)
unfolding handed
handed_follows dv d = handed_by_link dv d (link_at dv d)

-- ---- asking, and ending

asked_by : (dv : Devices) (links : List (Option Link)) (before : Bool) → Follows dv (if before then dv else record dv { links = links })
asked_by dv links true = itself dv
asked_by dv links false = same_rows dv (record dv { links = links }) refl refl

asked_by_given : (dv : Devices) (d : ℕ) (link : Link) (given : Option Given) → Follows dv (asked_given dv d link given)
asked_by_given dv d link None = itself dv
asked_by_given dv d link (Some given) = asked_by dv (slice_set dv.links d (Some (link_asked d link given))) given.asked

asked_by_link : (dv : Devices) (d : ℕ) (link : Option Link) → Follows dv (asked_link dv d link)
asked_by_link dv d None = itself dv
asked_by_link dv d (Some link) = asked_by_given dv d link link.given

asked_follows : (dv : Devices) (d : ℕ) → Follows dv (asked dv d)
unfolding asked
asked_follows dv d = asked_by_link dv d (link_at dv d)

ended_by_life : (dv : Devices) (d : ℕ) (link : Link) (given : Given) (how : How) (row : Row) → link_at dv d ≡ Some link → link.given ≡ Some given → is_allowed link.kind link.store given how ≡ true →
    row_at dv given.request.id ≡ Some row → (away : Bool) → is_at_driver row.life ≡ away →
    Follows dv (if away then ended_at dv d link given.request.id row (served_of link.kind link.store given.request how) else dv)
ended_by_life dv d link given how row linked has fit there false is = itself dv
ended_by_life dv d link given how row linked has fit there true is =
    let served : Served = served_of link.kind link.store given.request how in
    let after : Devices = ended_at dv d link given.request.id row served in
    one_row dv after given.request.id (Some (record row { life = Ended served.size served.error })) refl refl
    (λ now same. record { before = row; there = there; change = Came is d link given how linked has fit there (sym (ap (λ (o : Option Row). row_or o row) same)) })

ended_by_row : (dv : Devices) (d : ℕ) (link : Link) (given : Given) (how : How) → link_at dv d ≡ Some link → link.given ≡ Some given → is_allowed link.kind link.store given how ≡ true →
    (slot : Option Row) → row_at dv given.request.id ≡ slot → Follows dv (ended_row dv d link given how slot)
ended_by_row dv d link given how linked has fit None there = itself dv
ended_by_row dv d link given how linked has fit (Some row) there = ended_by_life dv d link given how row linked has fit there (is_at_driver row.life) refl

ended_by_if : (dv : Devices) (d : ℕ) (link : Link) (given : Given) (how : How) → link_at dv d ≡ Some link → link.given ≡ Some given → (allowed : Bool) → is_allowed link.kind link.store given how ≡ allowed →
    Follows dv (ended_if allowed dv d link given how)
ended_by_if dv d link given how linked has false fit = itself dv
ended_by_if dv d link given how linked has true fit = ended_by_row dv d link given how linked has fit (row_at dv given.request.id) refl

ended_by_given : (dv : Devices) (d : ℕ) (link : Link) (how : How) → link_at dv d ≡ Some link → (given : Option Given) → link.given ≡ given → Follows dv (ended_given dv d link how given)
ended_by_given dv d link how linked None has = itself dv
ended_by_given dv d link how linked (Some given) has = ended_by_if dv d link given how linked has (is_allowed link.kind link.store given how) refl

ended_by_link : (dv : Devices) (d : ℕ) (how : How) (link : Option Link) → link_at dv d ≡ link → Follows dv (ended_link dv d how link)
ended_by_link dv d how None linked = itself dv
ended_by_link dv d how (Some link) linked = ended_by_given dv d link how linked link.given refl

ended_follows : (dv : Devices) (d : ℕ) (how : How) → Follows dv (ended dv d how)
unfolding ended
ended_follows dv d how = ended_by_link dv d how (link_at dv d) refl

-- what comes after any move
pub moved_follows : (dv : Devices) (move : Move) → Follows dv (moved dv move)
unfolding moved emptied
moved_follows dv (Opens dd slot) = same_rows dv _ refl refl
moved_follows dv (Wishes t wish) = same_rows dv _ refl refl
moved_follows dv (Buffers d id) = same_rows dv _ refl refl
moved_follows dv (Offs off) = same_rows dv _ refl refl
moved_follows dv (Accepts id row new) = accepted_follows dv id row new.unaborted new.apart
moved_follows dv (Drops id) = dropped_follows dv id
moved_follows dv (Hands d) = handed_follows dv d
moved_follows dv (Asks d) = asked_follows dv d
moved_follows dv (Arrives d how) = ended_follows dv d how
moved_follows dv Takes = same_rows dv _ refl refl

-- what holds after each move holds after a list of them
pub all_keep : (P : Devices → Type 0) → ((dv after : Devices) → Follows dv after → P dv → P after) → (moves : List Move) (dv : Devices) → P dv → P (fold moved dv moves)
all_keep P keeps [] dv before = before
all_keep P keeps (move ∷ moves) dv before = all_keep P keeps moves (moved dv move) (keeps dv (moved dv move) (moved_follows dv move) before)
