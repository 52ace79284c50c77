-- Requests that go to their drivers leave nobody to serve: a device has as many unfinished requests as before, nothing has
-- ended, and no driver has got rid of one.
use Rattle.std.proofs.Common.{◌≡◌, ℕ, zero, suc, length, List, [], ◌∷◌, Option, Some, None, refl, ◌∙◌, ap}
use Rattle.std.specs.Prelude.{slice_set}
use Rattle.kernel_model.specs.Tasks.Base.{Base, fifo_queue}
use Rattle.device_model.specs.Devices.Tables.{Devices, Given, Link, Row, device_ids, first_queued, handed, handed_first, handed_given, handed_link, handed_row, link_at, row_at}
use Rattle.device_model.specs.Devices.Handing.{hand_over, handed_all, handed_unless, suspension_object}

-- ---- what a hand over leaves

-- the number of devices
pub set_length : {A : Type 0} → (xs : List A) (i : ℕ) (y : A) → length (slice_set xs i y) ≡ length xs
set_length [] i y = refl
set_length (x ∷ xs) zero y = refl
set_length (x ∷ xs) (suc i) y = ap (λ n. suc n) (set_length xs i y)

abbrev AsMany : Devices → Devices → Type 0
AsMany dv now = length now.links ≡ length dv.links

row_many : (dv : Devices) (d : ℕ) (link : Link) (id : ℕ) (slot : Option Row) → AsMany dv (handed_row dv d link id slot)
row_many dv d link id None = refl
row_many dv d link id (Some row) = set_length dv.links d _

first_many : (dv : Devices) (d : ℕ) (link : Link) (first : Option ℕ) → AsMany dv (handed_first dv d link first)
first_many dv d link None = refl
first_many dv d link (Some id) = row_many dv d link id (row_at dv id)

given_many : (dv : Devices) (d : ℕ) (link : Link) (given : Option Given) → AsMany dv (handed_given dv d link given)
given_many dv d link None = first_many dv d link (first_queued dv d)
given_many dv d link (Some given) = refl

link_many : (dv : Devices) (d : ℕ) (slot : Option Link) → AsMany dv (handed_link dv d slot)
link_many dv d None = refl
link_many dv d (Some link) = given_many dv d link link.given

pub handed_many : (dv : Devices) (d : ℕ) → AsMany dv (handed dv d)
unfolding handed
handed_many dv d = link_many dv d (link_at dv d)

each_many : (ids : List ℕ) (dv : Devices) → AsMany dv (handed_all ids dv)
each_many [] dv = refl
each_many (d ∷ ids) dv = each_many ids (handed dv d) ∙ handed_many dv d

unless_many : (waiters : List ℕ) (dv : Devices) → AsMany dv (handed_unless waiters dv)
unless_many [] dv = each_many (device_ids dv) dv
unless_many (t ∷ ts) dv = refl

pub hand_over_many : (b : Base) (dv : Devices) → length (hand_over b dv).links ≡ length dv.links
unfolding hand_over
hand_over_many b dv = unless_many (fifo_queue b suspension_object) dv
