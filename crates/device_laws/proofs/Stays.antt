-- A request is there, and its ID taken, until it is let go.
use Rattle.std.proofs.Common.{◌≡◌, ℕ, zero, suc, Bool, true, false, List, [], ◌∷◌, Option, Some, None, refl, ap, sym, ◌∙◌, arith}
use Rattle.std.specs.Prelude.{slice_set, if◌then◌else◌, ◌==◌, ◌||◌}
use Rattle.std.specs.List.{list_any}
use Rattle.std.proofs.lemmas.Bool.Decides.{nat_tests}
use Rattle.tk_types.specs.declared.line.How.{How}
use Rattle.kernel_model.specs.Words.Orders.{entry, without}
use Rattle.kernel_lemmas.proofs.Tables.{entry_other}
use Rattle.device_model.specs.declared.rows.Life.TheVariants.{AtDriver, Ended}
use Rattle.device_model.specs.Units.Function.{Served}
use Rattle.device_model.specs.Devices.Tables.{Given, Link, Row, Devices, is_at_driver, link_at, row_at, accepted, accepted_in, asked, asked_given, asked_link, dropped, dropped_in, first_queued, handed, handed_first, handed_given, handed_link, handed_row, link_asked}
use Rattle.device_model.specs.Devices.Endings.{ended_at, is_allowed, served_of}
use Rattle.device_model.specs.Devices.Handing.{emptied}
use Rattle.device_laws.specs.Moves.{Move, Opens, Wishes, Buffers, Offs, Accepts, Drops, Hands, Asks, Arrives, Takes, all_moved, ended, ended_given, ended_if, ended_link, ended_row, lets_go, moved}
use Rattle.device_laws.specs.Requests.{IsThere}

record StandsIn (xs : List (Option Row)) (id serial : ℕ) : Type 0 where
  row : Row
  there : entry xs id ≡ Some row
  same : row.serial ≡ serial

up_one : (x : Option Row) (xs : List (Option Row)) (id serial : ℕ) → StandsIn xs id serial → StandsIn (x ∷ xs) (suc id) serial
up_one x xs id serial before = record { row = before.row; there = before.there; same = before.same }

-- one slot is written, with the same request where it stands
written : (xs : List (Option Row)) (i id serial : ℕ) (new : Row) → (row : Row) → entry xs id ≡ Some row → row.serial ≡ serial → (id ≡ i → new.serial ≡ serial) → StandsIn (slice_set xs i (Some new)) id serial
written [] i id serial new row there same is = absurd (cc there)
written (x ∷ xs) zero zero serial new row there same is = record { row = new; there = refl; same = is refl }
written (x ∷ xs) zero (suc id) serial new row there same is = record { row = row; there = there; same = same }
written (x ∷ xs) (suc i) zero serial new row there same is = record { row = row; there = there; same = same }
written (x ∷ xs) (suc i) (suc id) serial new row there same is =
    up_one x (slice_set xs i (Some new)) id serial (written xs i id serial new row there same (λ e. is (ap (λ (n : ℕ). suc n) e)))

by_rows : (dv : Devices) (id serial : ℕ) → StandsIn dv.rows id serial → IsThere id serial dv
by_rows dv id serial stands = record { row = stands.row; there = stands.there; same = stands.same }

same_rows : (dv after : Devices) (id serial : ℕ) → after.rows ≡ dv.rows → IsThere id serial dv → IsThere id serial after
same_rows dv after id serial rows before = record { row = before.row; there = ap (λ slots. entry slots id) rows ∙ before.there; same = before.same }

abbrev row_or : Option Row → Row → Row
row_or None otherwise = otherwise
row_or (Some row) otherwise = row

-- the row of a request changes, but for its serial
changed : (dv : Devices) (id serial i : ℕ) (old new : Row) → row_at dv i ≡ Some old → new.serial ≡ old.serial → IsThere id serial dv → StandsIn (slice_set dv.rows i (Some new)) id serial
changed dv id serial i old new there kept before = written dv.rows i id serial new before.row before.there before.same
    (λ is. kept ∙ (ap (λ (slot : Option Row). (row_or slot old).serial) (sym there ∙ (ap (λ (n : ℕ). row_at dv n) (sym is) ∙ before.there)) ∙ before.same))

accepted_stays : (dv : Devices) (id serial other : ℕ) (new : Row) (slot : Option Row) → row_at dv other ≡ slot → IsThere id serial dv → IsThere id serial (accepted_in slot dv other new)
accepted_stays dv id serial other new (Some row) there before = before
accepted_stays dv id serial other new None there before =
    by_rows (accepted_in None dv other new) id serial (written dv.rows other id serial (record new { serial = dv.serial }) before.row before.there before.same (λ is. absurd (taken is)))
  where
    taken : id ≡ other → ⊥
    taken is = let nothing : row_at dv id ≡ None = ap (λ (n : ℕ). row_at dv n) is ∙ there in cc (nothing, before.there)

dropped_by : (dv : Devices) (id serial other : ℕ) (away : Bool) → (other == id) ≡ false → IsThere id serial dv → IsThere id serial (if away then dv else record dv { rows = slice_set dv.rows other None; queued = without other dv.queued; ended = without other dv.ended })
dropped_by dv id serial other true apart before = before
dropped_by dv id serial other false apart before = record {
  row = before.row;
  there = entry_other dv.rows other id None (λ is. grind (arith, nat_tests, apart, is)) ∙ before.there;
  same = before.same;
}

dropped_stays : (dv : Devices) (id serial other : ℕ) (slot : Option Row) → (other == id) ≡ false → IsThere id serial dv → IsThere id serial (dropped_in slot dv other)
dropped_stays dv id serial other None apart before = before
dropped_stays dv id serial other (Some row) apart before = dropped_by dv id serial other (is_at_driver row.life) apart before

handed_by_row : (dv : Devices) (id serial d : ℕ) (link : Link) (other : ℕ) (slot : Option Row) → row_at dv other ≡ slot → IsThere id serial dv → IsThere id serial (handed_row dv d link other slot)
handed_by_row dv id serial d link other None there before = before
handed_by_row dv id serial d link other (Some row) there before =
    by_rows (handed_row dv d link other (Some row)) id serial (changed dv id serial other row (record row { bytes = []; life = AtDriver }) there refl before)

handed_by_first : (dv : Devices) (id serial d : ℕ) (link : Link) (first : Option ℕ) → IsThere id serial dv → IsThere id serial (handed_first dv d link first)
handed_by_first dv id serial d link None before = before
handed_by_first dv id serial d link (Some other) before = handed_by_row dv id serial d link other (row_at dv other) refl before

handed_by_given : (dv : Devices) (id serial d : ℕ) (link : Link) (given : Option Given) → IsThere id serial dv → IsThere id serial (handed_given dv d link given)
handed_by_given dv id serial d link (Some given) before = before
handed_by_given dv id serial d link None before = handed_by_first dv id serial d link (first_queued dv d) before

handed_by_link : (dv : Devices) (id serial d : ℕ) (link : Option Link) → IsThere id serial dv → IsThere id serial (handed_link dv d link)
handed_by_link dv id serial d None before = before
handed_by_link dv id serial d (Some link) before = handed_by_given dv id serial d link link.given before

asked_by : (dv : Devices) (id serial : ℕ) (links : List (Option Link)) (so : Bool) → IsThere id serial dv → IsThere id serial (if so then dv else record dv { links = links })
asked_by dv id serial links true before = before
asked_by dv id serial links false before = same_rows dv (record dv { links = links }) id serial refl before

asked_by_given : (dv : Devices) (id serial d : ℕ) (link : Link) (given : Option Given) → IsThere id serial dv → IsThere id serial (asked_given dv d link given)
asked_by_given dv id serial d link None before = before
asked_by_given dv id serial d link (Some given) before = asked_by dv id serial (slice_set dv.links d (Some (link_asked d link given))) given.asked before

asked_by_link : (dv : Devices) (id serial d : ℕ) (link : Option Link) → IsThere id serial dv → IsThere id serial (asked_link dv d link)
asked_by_link dv id serial d None before = before
asked_by_link dv id serial d (Some link) before = asked_by_given dv id serial d link link.given before

ended_by_life : (dv : Devices) (id serial d : ℕ) (link : Link) (other : ℕ) (row : Row) (served : Served) → row_at dv other ≡ Some row → (away : Bool) → IsThere id serial dv → IsThere id serial (if away then ended_at dv d link other row served else dv)
ended_by_life dv id serial d link other row served there false before = before
ended_by_life dv id serial d link other row served there true before =
    by_rows (ended_at dv d link other row served) id serial (changed dv id serial other row (record row { life = Ended served.size served.error }) there refl before)

ended_by_row : (dv : Devices) (id serial d : ℕ) (link : Link) (given : Given) (how : How) (slot : Option Row) → row_at dv given.request.id ≡ slot → IsThere id serial dv → IsThere id serial (ended_row dv d link given how slot)
ended_by_row dv id serial d link given how None there before = before
ended_by_row dv id serial d link given how (Some row) there before =
    ended_by_life dv id serial d link given.request.id row (served_of link.kind link.store given.request how) there (is_at_driver row.life) before

ended_by_if : (dv : Devices) (id serial d : ℕ) (link : Link) (given : Given) (how : How) (allowed : Bool) → IsThere id serial dv → IsThere id serial (ended_if allowed dv d link given how)
ended_by_if dv id serial d link given how false before = before
ended_by_if dv id serial d link given how true before = ended_by_row dv id serial d link given how (row_at dv given.request.id) refl before

ended_by_given : (dv : Devices) (id serial d : ℕ) (link : Link) (how : How) (given : Option Given) → IsThere id serial dv → IsThere id serial (ended_given dv d link how given)
ended_by_given dv id serial d link how None before = before
ended_by_given dv id serial d link how (Some given) before = ended_by_if dv id serial d link given how (is_allowed link.kind link.store given how) before

ended_by_link : (dv : Devices) (id serial d : ℕ) (how : How) (link : Option Link) → IsThere id serial dv → IsThere id serial (ended_link dv d how link)
ended_by_link dv id serial d how None before = before
ended_by_link dv id serial d how (Some link) before = ended_by_given dv id serial d link how link.given before

moved_stays : (dv : Devices) (id serial : ℕ) (move : Move) → lets_go id move ≡ false → IsThere id serial dv → IsThere id serial (moved dv move)
unfolding moved accepted dropped handed asked ended emptied
moved_stays dv id serial (Opens dd slot) apart before = same_rows dv _ id serial refl before
moved_stays dv id serial (Wishes t wish) apart before = same_rows dv _ id serial refl before
moved_stays dv id serial (Buffers d other) apart before = same_rows dv _ id serial refl before
moved_stays dv id serial (Offs off) apart before = same_rows dv _ id serial refl before
moved_stays dv id serial (Accepts other row new) apart before = accepted_stays dv id serial other row (row_at dv other) refl before
moved_stays dv id serial (Drops other) apart before = dropped_stays dv id serial other (row_at dv other) apart before
moved_stays dv id serial (Hands d) apart before = handed_by_link dv id serial d (link_at dv d) before
moved_stays dv id serial (Asks d) apart before = asked_by_link dv id serial d (link_at dv d) before
moved_stays dv id serial (Arrives d how) apart before = ended_by_link dv id serial d how (link_at dv d) before
moved_stays dv id serial Takes apart before = same_rows dv _ id serial refl before

neither : (one other : Bool) → (one || other) ≡ false → (one ≡ false) × (other ≡ false)
neither true other is = absurd (cc is)
neither false other is = (refl, is)

-- a request is there until a move lets it go
pub stays_there : (moves : List Move) (dv : Devices) (id serial : ℕ) → list_any (lets_go id) moves ≡ false → IsThere id serial dv → IsThere id serial (all_moved dv moves)
unfolding all_moved
stays_there [] dv id serial none before = before
stays_there (move ∷ moves) dv id serial none before =
    let both = neither (lets_go id move) (list_any (lets_go id) moves) none in
    stays_there moves (moved dv move) id serial both.1 (moved_stays dv id serial move both.0 before)
