-- Requests of a descriptor are let go one after another.
use Rattle.std.proofs.Common.{◌≡◌, ℕ, zero, suc, ◌+◌, ◌-◌, ◌≤◌, ◌<◌, Bool, true, false, cond, List, [], ◌∷◌, Option, Some, None, refl, ap, sym, ◌∙◌, arith, length, drop, add-one}
use Rattle.std.specs.List.{fold}
use Rattle.std.specs.Option.{is_some}
use Rattle.std.specs.Prelude.{filter, negsuc, slice_set}
use Rattle.kernel_model.specs.Words.Orders.{entry, taken_from}
use Rattle.kernel_lemmas.proofs.Tables.{entry_other}
use Rattle.device_model.specs.declared.rows.Opened.{Opened}
use Rattle.device_model.specs.Devices.Calls.{aborted, close_begun, device_in, device_of, dropped_if, now_closing, requests_dropped, waits_aborted, wish_is_of, without_requests}
use Rattle.device_model.specs.Devices.Endings.{DevParts, close_object}
use Rattle.kernel_model.specs.Tasks.Base.{Base, make_wait}
use Rattle.object_model.specs.Mails.Tables.{Mails}
use Rattle.tk_types.specs.declared.answer.Outcome.TheVariants.{Blocked}
use Rattle.tk_types.specs.declared.task.Order.TheVariants.{Fifo}
use Rattle.dev_layer.specs.Closing.{waits_at}
use Rattle.dev_layer.specs.Parts.{left_with, parts_of}
use Rattle.device_model.specs.Devices.Servings.{is_of_descriptor}
use Rattle.device_model.specs.Devices.Tables.{Devices, Link, Row, asked, dropped, dropped_in, is_at_driver, opened_at, row_at, wish_of, with_open}
use Rattle.dev_layer.specs.Messages.{links_asked}
use Rattle.dev_layer.proofs.TableMoves.{asked_is}
use Rattle.dev_layer.proofs.Handed.{passed_slot, taken_slot}

others_if : (dv : Devices) (id : ℕ) (b : Bool) (n : ℕ) → (n ≡ id → ⊥) → (after : Devices) → after.rows ≡ slice_set dv.rows id None → entry (cond b dv after).rows n ≡ entry dv.rows n
others_if dv id true n apart after is = refl
others_if dv id false n apart after is = ap (λ (rows : List (Option Row)). entry rows n) is ∙ entry_other dv.rows id n None apart

others_in : (dv : Devices) (id : ℕ) (slot : Option Row) (n : ℕ) → (n ≡ id → ⊥) → entry (dropped_in slot dv id).rows n ≡ entry dv.rows n
others_in dv id None n apart = refl
others_in dv id (Some row) n apart = others_if dv id (is_at_driver row.life) n apart _ refl

-- every other request is as it was
others_kept : (dv : Devices) (id n : ℕ) → (n ≡ id → ⊥) → entry (dropped dv id).rows n ≡ entry dv.rows n
unfolding dropped
others_kept dv id n apart = others_in dv id (row_at dv id) n apart

kept_if : (dv : Devices) (id n : ℕ) (b : Bool) → (n ≡ id → ⊥) → entry (cond b (dropped dv id) dv).rows n ≡ entry dv.rows n
kept_if dv id n true apart = others_kept dv id n apart
kept_if dv id n false apart = refl

pub rows_kept : (dd : ℕ) (dv after : Devices) (id n : ℕ) → after ≡ dropped_if dd dv id → (n ≡ id → ⊥) → entry after.rows n ≡ entry dv.rows n
rows_kept dd dv after id n is apart = ap (λ (x : Devices). entry x.rows n) is ∙ kept_if dv id n (is_of_descriptor dd (row_at dv id)) apart

step_if : (dd : ℕ) (slots : List (Option Row)) (id : ℕ) (now next all : Devices) (slot : Option Row) → entry slots id ≡ slot → id < length slots → row_at now id ≡ slot → next ≡ dropped_if dd now id →
    fold (dropped_if dd) now (taken_from id (drop id slots)) ≡ all → fold (dropped_if dd) next (taken_from (id + 1) (drop (suc id) slots)) ≡ all
step_if dd slots id now next all None there inside same is left =
    ap (λ (dv : Devices). fold (dropped_if dd) dv (taken_from (id + 1) (drop (suc id) slots))) (is ∙ ap (λ (o : Option Row). cond (is_of_descriptor dd o) (dropped now id) now) same)
    ∙ ap (fold (dropped_if dd) now) (sym (passed_slot slots id id inside there)) ∙ left
step_if dd slots id now next all (Some row) there inside same is left =
    ap (λ (dv : Devices). fold (dropped_if dd) dv (taken_from (id + 1) (drop (suc id) slots))) is
    ∙ ap (fold (dropped_if dd) now) (sym (taken_slot slots id id (ap is_some there))) ∙ left

-- one request more is looked at
pub one_dropped : (dd : ℕ) (slots : List (Option Row)) (id : ℕ) (now next all : Devices) → id < length slots → row_at now id ≡ entry slots id → next ≡ dropped_if dd now id →
    fold (dropped_if dd) now (taken_from id (drop id slots)) ≡ all → fold (dropped_if dd) next (taken_from (id + 1) (drop (id + 1) slots)) ≡ all
one_dropped dd slots id now next all inside same is left =
    ap (λ n. fold (dropped_if dd) next (taken_from (id + 1) (drop n slots))) (add-one id) ∙ step_if dd slots id now next all (entry slots id) refl inside same is left

beyond : {A : Type 0} (slots : List A) (n : ℕ) → length slots ≤ n → drop n slots ≡ []
beyond [] zero over = refl
beyond [] (suc n) over = refl
beyond (x ∷ slots) zero over = absurd (omega (arith, over))
beyond (x ∷ slots) (suc n) over = beyond slots n (omega (arith, over))

pub all_dropped : (dd : ℕ) (slots : List (Option Row)) (id : ℕ) (now all : Devices) → length slots ≤ id → fold (dropped_if dd) now (taken_from id (drop id slots)) ≡ all → now ≡ all
all_dropped dd slots id now all over left = ap (λ rest. fold (dropped_if dd) now (taken_from id rest)) (sym (beyond slots id over)) ∙ left

-- ---- beside the links

links_if : (dv : Devices) (links : List (Option Link)) (id : ℕ) (b : Bool) (after : Devices) → cond b (record dv { links = links }) (record after { links = links }) ≡ record (cond b dv after) { links = links }
links_if dv links id true after = refl
links_if dv links id false after = refl

links_in : (dv : Devices) (links : List (Option Link)) (id : ℕ) (slot : Option Row) → dropped_in slot (record dv { links = links }) id ≡ record (dropped_in slot dv id) { links = links }
links_in dv links id None = refl
links_in dv links id (Some row) = links_if dv links id (is_at_driver row.life) _

links_beside : (dv : Devices) (links : List (Option Link)) (id : ℕ) → dropped (record dv { links = links }) id ≡ record (dropped dv id) { links = links }
unfolding dropped
links_beside dv links id = links_in dv links id (row_at dv id)

beside_if : (dv : Devices) (links : List (Option Link)) (id : ℕ) (b : Bool) → cond b (dropped (record dv { links = links }) id) (record dv { links = links }) ≡ record (cond b (dropped dv id) dv) { links = links }
beside_if dv links id true = links_beside dv links id
beside_if dv links id false = refl

-- requests are let go whatever the drivers have
pub drops_beside : (dd : ℕ) (ids : List ℕ) (dv : Devices) (links : List (Option Link)) → fold (dropped_if dd) (record dv { links = links }) ids ≡ record (fold (dropped_if dd) dv ids) { links = links }
drops_beside dd [] dv links = refl
drops_beside dd (id ∷ ids) dv links =
    ap (λ (x : Devices). fold (dropped_if dd) x ids) (beside_if dv links id (is_of_descriptor dd (row_at dv id))) ∙ drops_beside dd ids (dropped_if dd dv id) links

abbrev SameRest : Devices → Devices → Type 0
SameRest dv after = (after.links ≡ dv.links) × (after.opened ≡ dv.opened)

rest_if : (dv after : Devices) (b : Bool) → SameRest dv after → SameRest dv (cond b dv after)
rest_if dv after true same = (refl, refl)
rest_if dv after false same = same

rest_in : (dv : Devices) (id : ℕ) (slot : Option Row) → SameRest dv (dropped_in slot dv id)
rest_in dv id None = (refl, refl)
rest_in dv id (Some row) = rest_if dv _ (is_at_driver row.life) (refl, refl)

rest_of : (dv : Devices) (id : ℕ) → SameRest dv (dropped dv id)
unfolding dropped
rest_of dv id = rest_in dv id (row_at dv id)

rest_by : (dv : Devices) (id : ℕ) (b : Bool) → SameRest dv (cond b (dropped dv id) dv)
rest_by dv id true = rest_of dv id
rest_by dv id false = (refl, refl)

rest_kept : (dd : ℕ) (ids : List ℕ) (dv : Devices) → SameRest dv (fold (dropped_if dd) dv ids)
rest_kept dd [] dv = (refl, refl)
rest_kept dd (id ∷ ids) dv =
    let first = rest_by dv id (is_of_descriptor dd (row_at dv id)) in
    let more = rest_kept dd ids (dropped_if dd dv id) in
    (more.0 ∙ first.0, more.1 ∙ first.1)

pub links_same : (dd : ℕ) (ids : List ℕ) (dv : Devices) → (fold (dropped_if dd) dv ids).links ≡ dv.links
links_same dd ids dv = (rest_kept dd ids dv).0

pub opened_same : (dd : ℕ) (ids : List ℕ) (dv : Devices) → (fold (dropped_if dd) dv ids).opened ≡ dv.opened
opened_same dd ids dv = (rest_kept dd ids dv).1

-- ---- a descriptor is closed while a driver has a request of it

asked_links : (dv : Devices) (d : ℕ) (links : List (Option Link)) → dv.links ≡ links → asked dv d ≡ record dv { links = links_asked links d }
asked_links dv d links is = sym (asked_is dv d) ∙ ap (λ (all : List (Option Link)). record dv { links = links_asked all d }) is

-- whether the abort is asked first or last
pub begun_table : (dv : Devices) (dd : ℕ) (opened : Opened) → opened_at dv dd ≡ Some opened →
    with_open (requests_dropped (asked dv opened.device) dd) dd (Some (record opened { closing = true }))
    ≡ asked (with_open (requests_dropped dv dd) dd (now_closing (opened_at (requests_dropped dv dd) dd))) (device_of (requests_dropped dv dd) dd)
begun_table dv dd opened there =
    let ids : List ℕ = taken_from 1 (drop 1 dv.rows) in
    let links : List (Option Link) = links_asked dv.links opened.device in
    let left : Devices = requests_dropped dv dd in
    let first : asked dv opened.device ≡ record dv { links = links } = asked_links dv opened.device dv.links refl in
    let dropped : requests_dropped (asked dv opened.device) dd ≡ record left { links = links } = ap (λ (x : Devices). requests_dropped x dd) first ∙ drops_beside dd ids dv links in
    let same : opened_at left dd ≡ Some opened = ap (λ (all : List (Option Opened)). entry all dd) (opened_same dd ids dv) ∙ there in
    let closing : Option Opened = Some (record opened { closing = true }) in
    let last : asked (with_open left dd closing) opened.device ≡ record (with_open left dd closing) { links = links } = asked_links (with_open left dd closing) opened.device dv.links (links_same dd ids dv) in
    ap (λ (x : Devices). with_open x dd closing) dropped
    ∙ sym last
    ∙ ap (λ (o : Option Opened). asked (with_open left dd (now_closing o)) (device_in o)) (sym same)

-- the waits that end, whether the abort was asked or not
pub begun_base : (b base : Base) (dv after : Devices) (dd : ℕ) (opened : Opened) → after ≡ asked dv opened.device → opened_at dv dd ≡ Some opened →
    base ≡ fold aborted b (filter (waits_at (584 + (dd - 1)) (575 + opened.device) (λ t. wish_is_of dd (wish_of after t)) b) b.since) → (mails : Mails) (memory : List ℕ) → base ≡ waits_aborted (parts_of b dv mails memory) dd
begun_base b base dv after dd opened asking there is mails memory =
    is
    ∙ ap (λ (x : Devices). fold aborted b (filter (waits_at (584 + (dd - 1)) (575 + opened.device) (λ t. wish_is_of dd (wish_of x t)) b) b.since)) (asking ∙ asked_links dv opened.device dv.links refl)
    ∙ ap (λ (o : Option Opened). fold aborted b (filter (waits_at (584 + (dd - 1)) (575 + device_in o) (λ t. wish_is_of dd (wish_of dv t)) b) b.since)) (sym there)

pub begun_is : (p : DevParts) (t dd : ℕ) (base : Base) (dv : Devices) → base ≡ make_wait (waits_aborted p dd) t (close_object dd) Fifo (negsuc 0) →
    dv ≡ asked (with_open (requests_dropped p.table dd) dd (now_closing (opened_at (requests_dropped p.table dd) dd))) (device_of (requests_dropped p.table dd) dd) →
    close_begun (without_requests p dd) t dd ≡ left_with (parts_of base dv p.mails p.memory) Blocked
begun_is p t dd base dv bases tables =
    ap (λ (b : Base). left_with (parts_of b (asked (with_open (requests_dropped p.table dd) dd (now_closing (opened_at (requests_dropped p.table dd) dd))) (device_of (requests_dropped p.table dd) dd)) p.mails p.memory) Blocked) (sym bases)
    ∙ ap (λ (x : Devices). left_with (parts_of base x p.mails p.memory) Blocked) (sym tables)
