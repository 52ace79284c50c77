-- What is opened is a device, and a wish for an acceptance is of a descriptor, which moves of other parts of the devices leave.
use Rattle.std.proofs.Common.{◌≡◌, ℕ, suc, zero, ◌≤◌, Bool, true, false, cond, List, [], ◌∷◌, Option, Some, None, refl, sym, subst}
use Rattle.std.specs.Prelude.{slice_set}
use Rattle.std.specs.List.{slice_index_or}
use Rattle.device_model.specs.declared.rows.Opened.{Opened}
use Rattle.device_model.specs.declared.rows.Transfer.{Transfer}
use Rattle.device_model.specs.declared.rows.Wish.{Wish}
use Rattle.device_model.specs.declared.rows.Wish.TheVariants as wish
use Rattle.device_model.specs.Devices.Tables.{Devices, Given, Link, Row, accepted, accepted_in, asked, asked_given, asked_link, dropped, dropped_in, first_queued, handed, handed_first, handed_given, handed_link, handed_row, is_at_driver, link_at, opened_at, row_at, wish_of, with_open, with_wish}
use Rattle.kernel_model.specs.Words.Orders.{entry}
use Rattle.kernel_lemmas.proofs.Tables.{entry_each, entry_same}

-- some task wishes for an acceptance of a request of a descriptor
pub record IsWished (dv : Devices) (dd : ℕ) : Type 0 where
  pub task : ℕ
  pub transfer : Transfer
  pub stays : Bool
  pub at : wish_of dv task ≡ wish.Acceptance transfer stays
  pub same : transfer.descriptor ≡ dd

-- a device that is opened is one of eight
abbrev pub OpenFits : Option Opened → Type 0
OpenFits None = Unit {0}
OpenFits (Some opened) = (1 ≤ opened.device) × (opened.device ≤ 8)

-- a wish for an acceptance is of a descriptor
abbrev pub WishFits : Wish → Type 0
WishFits (wish.Acceptance transfer stays) = transfer.descriptor ≤ 32
WishFits _ = Unit {0}

-- all that is opened, and all wishes
pub record AreKnown (dv : Devices) : Type 0 where
  pub opened : (dd : ℕ) → OpenFits (opened_at dv dd)
  pub wished : (t : ℕ) → WishFits (wish_of dv t)

-- a descriptor that is wished for
pub wished_few : (dv : Devices) (dd : ℕ) → AreKnown dv → IsWished dv dd → dd ≤ 32
wished_few dv dd known is = subst (λ (n : ℕ). n ≤ 32) is.same (subst WishFits is.at (known.wished is.task))

-- ---- moves

-- what is opened and wished for stays
pub record IsBeside (dv now : Devices) : Type 0 where
  pub opened : now.opened ≡ dv.opened
  pub wishes : now.wishes ≡ dv.wishes

-- so that what is known of it stays known
pub beside_known : (dv now : Devices) → IsBeside dv now → AreKnown dv → AreKnown now
beside_known dv now is known = record {
  opened = subst (λ (slots : List (Option Opened)). (dd : ℕ) → OpenFits (entry slots dd)) (sym is.opened) known.opened;
  wished = subst (λ (wishes : List Wish). (t : ℕ) → WishFits (slice_index_or wishes t wish.Nothing)) (sym is.wishes) known.wished;
}

-- a descriptor is taken for a device, or is free
pub open_known : (dv : Devices) (dd : ℕ) (slot : Option Opened) → OpenFits slot → AreKnown dv → AreKnown (with_open dv dd slot)
open_known dv dd slot fits known = record {
  opened = entry_each (λ i now. OpenFits now) dv.opened dd slot (entry_same OpenFits dv.opened dd slot fits tt) (λ i apart. known.opened i);
  wished = known.wished;
}

wish_set : (P : Wish → Type 0) (xs : List Wish) (i : ℕ) (y d : Wish) → P y → ((j : ℕ) → P (slice_index_or xs j d)) → (j : ℕ) → P (slice_index_or (slice_set xs i y) j d)
wish_set P [] i y d written others j = others j
wish_set P (x ∷ xs) zero y d written others zero = written
wish_set P (x ∷ xs) zero y d written others (suc j) = others (suc j)
wish_set P (x ∷ xs) (suc i) y d written others zero = others zero
wish_set P (x ∷ xs) (suc i) y d written others (suc j) = wish_set P xs i y d written (λ n. others (suc n)) j

-- a task asks for something
pub wish_known : (dv : Devices) (t : ℕ) (asked_for : Wish) → WishFits asked_for → AreKnown dv → AreKnown (with_wish dv t asked_for)
wish_known dv t asked_for fits known = record { opened = known.opened; wished = wish_set WishFits dv.wishes t asked_for wish.Nothing fits known.wished }

accepted_cases : (dv : Devices) (id : ℕ) (row : Row) (slot : Option Row) → IsBeside dv (accepted_in slot dv id row)
accepted_cases dv id row None = record { opened = refl; wishes = refl }
accepted_cases dv id row (Some other) = record { opened = refl; wishes = refl }

-- the acceptance of a request leaves it
pub accepted_beside : (dv : Devices) (id : ℕ) (row : Row) → IsBeside dv (accepted dv id row)
unfolding accepted
accepted_beside dv id row = accepted_cases dv id row (row_at dv id)

dropped_if : (dv now : Devices) (kept : Bool) → IsBeside dv now → IsBeside dv (cond kept dv now)
dropped_if dv now true is = record { opened = refl; wishes = refl }
dropped_if dv now false is = is

dropped_cases : (dv : Devices) (id : ℕ) (slot : Option Row) → IsBeside dv (dropped_in slot dv id)
dropped_cases dv id None = record { opened = refl; wishes = refl }
dropped_cases dv id (Some row) = dropped_if dv _ (is_at_driver row.life) (record { opened = refl; wishes = refl })

-- so does a request that is let go
pub dropped_beside : (dv : Devices) (id : ℕ) → IsBeside dv (dropped dv id)
unfolding dropped
dropped_beside dv id = dropped_cases dv id (row_at dv id)

handed_rows : (dv : Devices) (d : ℕ) (link : Link) (id : ℕ) (slot : Option Row) → IsBeside dv (handed_row dv d link id slot)
handed_rows dv d link id None = record { opened = refl; wishes = refl }
handed_rows dv d link id (Some row) = record { opened = refl; wishes = refl }

handed_firsts : (dv : Devices) (d : ℕ) (link : Link) (first : Option ℕ) → IsBeside dv (handed_first dv d link first)
handed_firsts dv d link None = record { opened = refl; wishes = refl }
handed_firsts dv d link (Some id) = handed_rows dv d link id (row_at dv id)

handed_gives : (dv : Devices) (d : ℕ) (link : Link) (given : Option Given) → IsBeside dv (handed_given dv d link given)
handed_gives dv d link (Some given) = record { opened = refl; wishes = refl }
handed_gives dv d link None = handed_firsts dv d link (first_queued dv d)

handed_links : (dv : Devices) (d : ℕ) (slot : Option Link) → IsBeside dv (handed_link dv d slot)
handed_links dv d None = record { opened = refl; wishes = refl }
handed_links dv d (Some link) = handed_gives dv d link link.given

-- one that goes to its driver
pub handed_beside : (dv : Devices) (d : ℕ) → IsBeside dv (handed dv d)
unfolding handed
handed_beside dv d = handed_links dv d (link_at dv d)

asked_gives : (dv : Devices) (d : ℕ) (link : Link) (given : Option Given) → IsBeside dv (asked_given dv d link given)
asked_gives dv d link None = record { opened = refl; wishes = refl }
asked_gives dv d link (Some given) = dropped_if dv _ given.asked (record { opened = refl; wishes = refl })

asked_links : (dv : Devices) (d : ℕ) (slot : Option Link) → IsBeside dv (asked_link dv d slot)
asked_links dv d None = record { opened = refl; wishes = refl }
asked_links dv d (Some link) = asked_gives dv d link link.given

-- and one whose abort is asked
pub asked_beside : (dv : Devices) (d : ℕ) → IsBeside dv (asked dv d)
unfolding asked
asked_beside dv d = asked_links dv d (link_at dv d)
