-- A request ends aborted only where that was asked.
use Rattle.std.proofs.Common.{◌≡◌, ℕ, zero, suc, Bool, true, false, List, [], ◌∷◌, Option, Some, None, refl, ap, sym, ◌∙◌, ◌⊎◌, inl, inr}
use Rattle.std.specs.Prelude.{slice_set, if◌then◌else◌, ◌==◌, ◌&&◌, ◌||◌, ◌<◌}
use Rattle.std.specs.List.{list_any}
use Rattle.tk_types.specs.declared.error_code.Er.{Er}
use Rattle.tk_types.specs.declared.error_code.Er.TheVariants as er
use Rattle.tk_types.specs.declared.line.How.{How}
use Rattle.tk_types.specs.declared.line.How.TheVariants.{Done, Cut}
use Rattle.tk_types.specs.declared.script.Kind.{Kind}
use Rattle.kernel_model.specs.Words.Orders.{entry, without}
use Rattle.device_model.specs.declared.messages.Ending.{Ending}
use Rattle.device_model.specs.declared.messages.Request.{Request}
use Rattle.device_model.specs.Units.Stores.{Store, is_spoilt}
use Rattle.device_model.specs.Units.Function.{appends, begin, count_of, may_cut, unit}
use Rattle.device_model.specs.Devices.Tables.{Given, Link, Row, Devices, first_queued, given_in, is_at_driver, link_at, row_at, accepted, accepted_in, dropped, dropped_in, handed, handed_first, handed_given, handed_link, handed_row}
use Rattle.device_model.specs.Devices.Endings.{ended_at, ending_of, expected, expected_given, expected_link, is_allowed, served_of}
use Rattle.device_model.specs.Devices.MoveProofs.{is_abort, is_aborted}
use Rattle.device_lemmas.proofs.Emptied.{emptied_given}
use Rattle.device_laws.specs.Moves.{Move, Opens, Wishes, Buffers, Offs, Accepts, Drops, Hands, Asks, Arrives, Takes, all_moved, asks, ended, ended_given, ended_if, ended_link, ended_row, moved}
use Rattle.device_laws.specs.Requests.{NoneAborted, asked_in, is_asked}
use Rattle.device_laws.proofs.Follows.{Change, Same, Went, Came, From, moved_follows}

-- ---- the error of a unit

plain_cause : (spoilt : Bool) → is_abort (if spoilt then er.Io else er.Par) ≡ false
plain_cause true = refl
plain_cause false = refl

plain_error : (none nothing spoilt : Bool) → is_abort (if none then er.Ok else (if nothing then (if spoilt then er.Io else er.Par) else er.Ok)) ≡ false
plain_error true nothing spoilt = refl
plain_error false true spoilt = plain_cause spoilt
plain_error false false spoilt = refl

-- a unit by itself aborts nothing
pub unit_plain : (kind : Kind) (store : Store) (request : Request) → is_abort (unit kind store request).error ≡ false
unfolding unit
unit_plain kind store request =
    plain_error (request.size == 0) (count_of kind (begin store request) request == 0) (is_spoilt kind (begin store request).begun || appends kind request)

and_first : (one other : Bool) → (one && other) ≡ true → one ≡ true
and_first true other is = refl
and_first false other is = absurd (cc is)

-- an ending that says aborted was asked
pub plain_unless : (kind : Kind) (store : Store) (given : Given) (how : How) → is_allowed kind store given how ≡ true → given.asked ≡ false → is_abort (served_of kind store given.request how).error ≡ false
plain_unless kind store given Done fit asked = unit_plain kind store given.request
plain_unless kind store given (Cut count) fit asked = absurd (cc (asked, and_first given.asked (may_cut kind store given.request count) fit))

-- ---- endings that are fit

cut_asked_by : (test : Bool) (given : Given) (d : ℕ) (other : Bool) (some : Ending) (ending : Ending) → (given.asked && other) ≡ test → (if test then Some some else None) ≡ Some ending → given.asked ≡ true
cut_asked_by true given d other some ending fit is = and_first given.asked other fit
cut_asked_by false given d other some ending fit is = absurd (cc is)

cut_by_given : (d count : ℕ) (link : Link) (given : Option Given) (ending : Ending) → expected_given d (Cut count) link given ≡ Some ending → asked_in given ≡ true
cut_by_given d count link None ending is = absurd (cc is)
cut_by_given d count link (Some given) ending is =
    cut_asked_by (is_allowed link.kind link.store given (Cut count)) given d (may_cut link.kind link.store given.request count)
    (ending_of d given.request (Cut count) (served_of link.kind link.store given.request (Cut count))) ending refl is

cut_by_link : (d count : ℕ) (link : Option Link) (ending : Ending) → expected_link d (Cut count) link ≡ Some ending → asked_in (given_in link) ≡ true
cut_by_link d count None ending is = absurd (cc is)
cut_by_link d count (Some link) ending is = cut_by_given d count link link.given ending is

-- a cut is fit only where it was asked
pub cut_was_asked : (dv : Devices) (d count : ℕ) (ending : Ending) → expected dv d (Cut count) ≡ Some ending → is_asked dv d ≡ true
unfolding expected
cut_was_asked dv d count ending is = cut_by_link d count (link_at dv d) ending is

abbrev error_or : Option Ending → Er → Er
error_or None otherwise = otherwise
error_or (Some ending) otherwise = ending.error

done_by_given : (d : ℕ) (link : Link) (given : Option Given) (ending : Ending) → expected_given d Done link given ≡ Some ending → is_abort ending.error ≡ false
done_by_given d link None ending is = absurd (cc is)
done_by_given d link (Some given) ending is =
    ap (λ (o : Option Ending). is_abort (error_or o er.Ok)) (sym is) ∙ unit_plain link.kind link.store given.request

done_by_link : (d : ℕ) (link : Option Link) (ending : Ending) → expected_link d Done link ≡ Some ending → is_abort ending.error ≡ false
done_by_link d None ending is = absurd (cc is)
done_by_link d (Some link) ending is = done_by_given d link link.given ending is

-- and one that isn't cut is no abort
pub done_is_plain : (dv : Devices) (d : ℕ) (ending : Ending) → expected dv d Done ≡ Some ending → is_abort ending.error ≡ false
unfolding expected
done_is_plain dv d ending is = done_by_link d (link_at dv d) ending is

-- ---- over moves

abbrev asked_of : Option Link → Bool
asked_of link = asked_in (given_in link)

set_all : (links : List (Option Link)) (i d : ℕ) (slot : Option Link) → asked_of slot ≡ false → asked_of (entry links d) ≡ false → asked_of (entry (slice_set links i slot) d) ≡ false
set_all [] i d slot written before = before
set_all (x ∷ links) zero zero slot written before = written
set_all (x ∷ links) zero (suc d) slot written before = before
set_all (x ∷ links) (suc i) zero slot written before = before
set_all (x ∷ links) (suc i) (suc d) slot written before = set_all links i d slot written before

abbrev Unasked : Devices → Type 0
Unasked dv = (d : ℕ) → is_asked dv d ≡ false

accepted_unasked : (dv : Devices) (id : ℕ) (row : Row) (slot : Option Row) → Unasked dv → Unasked (accepted_in slot dv id row)
accepted_unasked dv id row None before = before
accepted_unasked dv id row (Some other) before = before

dropped_by : (dv : Devices) (away : Bool) (rows : List (Option Row)) (queued over : List ℕ) → Unasked dv → Unasked (if away then dv else record dv { rows = rows; queued = queued; ended = over })
dropped_by dv true rows queued over before = before
dropped_by dv false rows queued over before = before

dropped_unasked : (dv : Devices) (id : ℕ) (slot : Option Row) → Unasked dv → Unasked (dropped_in slot dv id)
dropped_unasked dv id None before = before
dropped_unasked dv id (Some row) before = dropped_by dv (is_at_driver row.life) (slice_set dv.rows id None) (without id dv.queued) (without id dv.ended) before

handed_row_unasked : (dv : Devices) (d : ℕ) (link : Link) (id : ℕ) (slot : Option Row) → Unasked dv → Unasked (handed_row dv d link id slot)
handed_row_unasked dv d link id None before = before
handed_row_unasked dv d link id (Some row) before = λ other. set_all dv.links d other _ refl (before other)

handed_first_unasked : (dv : Devices) (d : ℕ) (link : Link) (first : Option ℕ) → Unasked dv → Unasked (handed_first dv d link first)
handed_first_unasked dv d link None before = before
handed_first_unasked dv d link (Some id) before = handed_row_unasked dv d link id (row_at dv id) before

handed_given_unasked : (dv : Devices) (d : ℕ) (link : Link) (given : Option Given) → Unasked dv → Unasked (handed_given dv d link given)
handed_given_unasked dv d link (Some given) before = before
handed_given_unasked dv d link None before = handed_first_unasked dv d link (first_queued dv d) before

handed_link_unasked : (dv : Devices) (d : ℕ) (link : Option Link) → Unasked dv → Unasked (handed_link dv d link)
handed_link_unasked dv d None before = before
handed_link_unasked dv d (Some link) before = handed_given_unasked dv d link link.given before

ended_life_unasked : (dv : Devices) (d : ℕ) (link : Link) (given : Given) (how : How) (row : Row) (away : Bool) → Unasked dv →
    Unasked (if away then ended_at dv d link given.request.id row (served_of link.kind link.store given.request how) else dv)
ended_life_unasked dv d link given how row false before = before
ended_life_unasked dv d link given how row true before = λ other. set_all dv.links d other _ refl (before other)

ended_row_unasked : (dv : Devices) (d : ℕ) (link : Link) (given : Given) (how : How) (slot : Option Row) → Unasked dv → Unasked (ended_row dv d link given how slot)
ended_row_unasked dv d link given how None before = before
ended_row_unasked dv d link given how (Some row) before = ended_life_unasked dv d link given how row (is_at_driver row.life) before

ended_if_unasked : (dv : Devices) (d : ℕ) (link : Link) (given : Given) (how : How) (allowed : Bool) → Unasked dv → Unasked (ended_if allowed dv d link given how)
ended_if_unasked dv d link given how false before = before
ended_if_unasked dv d link given how true before = ended_row_unasked dv d link given how (row_at dv given.request.id) before

ended_given_unasked : (dv : Devices) (d : ℕ) (link : Link) (how : How) (given : Option Given) → Unasked dv → Unasked (ended_given dv d link how given)
ended_given_unasked dv d link how None before = before
ended_given_unasked dv d link how (Some given) before = ended_if_unasked dv d link given how (is_allowed link.kind link.store given how) before

ended_link_unasked : (dv : Devices) (d : ℕ) (how : How) (link : Option Link) → Unasked dv → Unasked (ended_link dv d how link)
ended_link_unasked dv d how None before = before
ended_link_unasked dv d how (Some link) before = ended_given_unasked dv d link how link.given before

moved_unasked : (dv : Devices) (move : Move) → asks move ≡ false → Unasked dv → Unasked (moved dv move)
unfolding moved accepted dropped handed ended
moved_unasked dv (Opens dd slot) none before = before
moved_unasked dv (Wishes t wish) none before = before
moved_unasked dv (Buffers d id) none before = before
moved_unasked dv (Offs off) none before = before
moved_unasked dv (Accepts id row new) none before = accepted_unasked dv id row (row_at dv id) before
moved_unasked dv (Drops id) none before = dropped_unasked dv id (row_at dv id) before
moved_unasked dv (Hands d) none before = handed_link_unasked dv d (link_at dv d) before
moved_unasked dv (Asks d) none before = absurd (cc none)
moved_unasked dv (Arrives d how) none before = ended_link_unasked dv d how (link_at dv d) before
moved_unasked dv Takes none before = λ d. ap asked_in (emptied_given dv d) ∙ before d

changed_plain : (dv : Devices) (old row : Row) → NoneAborted dv → is_aborted old.life ≡ false → Change dv old row → is_aborted row.life ≡ false
changed_plain dv old row before plain (Same is) = ap (λ (r : Row). is_aborted r.life) is ∙ plain
changed_plain dv old row before plain (Went queued is) = ap (λ (r : Row). is_aborted r.life) is
changed_plain dv old row before plain (Came away d link given how linked has fit its is) =
    let unasked : given.asked ≡ false = ap (λ (o : Option Given). asked_in o) (sym has) ∙ (ap (λ (o : Option Link). asked_in (given_in o)) (sym linked) ∙ before.drivers d) in
    ap (λ (r : Row). is_aborted r.life) is ∙ plain_unless link.kind link.store given how fit unasked

moved_plain : (dv : Devices) (move : Move) → asks move ≡ false → NoneAborted dv → NoneAborted (moved dv move)
moved_plain dv move none before = record {
  drivers = moved_unasked dv move none before.drivers;
  requests = λ id row there. by_row id row ((moved_follows dv move).rows id row there);
}
  where
    by_row : (id : ℕ) (row : Row) → ((id ≡ (moved_follows dv move).fresh) × (row.serial ≡ dv.serial) × (dv.serial < (moved dv move).serial) × (is_aborted row.life ≡ false) × (is_at_driver row.life ≡ false)) ⊎ From dv id row → is_aborted row.life ≡ false
    by_row id row (inl new) = new.3
    by_row id row (inr from) = changed_plain dv from.before row before (before.requests id from.before from.there) from.change

neither : (one other : Bool) → (one || other) ≡ false → (one ≡ false) × (other ≡ false)
neither true other is = absurd (cc is)
neither false other is = (refl, is)

-- where no abort is asked, no request ends aborted
pub none_aborted : (moves : List Move) (dv : Devices) → list_any asks moves ≡ false → NoneAborted dv → NoneAborted (all_moved dv moves)
unfolding all_moved
none_aborted [] dv none before = before
none_aborted (move ∷ moves) dv none before =
    let both = neither (asks move) (list_any asks moves) none in
    none_aborted moves (moved dv move) both.1 (moved_plain dv move both.0 before)
