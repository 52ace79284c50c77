-- No move makes more devices.
use Rattle.std.proofs.Common.{◌≡◌, ℕ, ◌≤◌, length, Bool, true, false, cond, Option, Some, None, refl, ap, sym, subst}
use Rattle.std.specs.Prelude.{slice_set}
use Rattle.device_model.specs.Devices.Tables.{Devices, Given, Link, accepted, asked, asked_given, asked_link, link_asked, dropped, handed, link_at}
use Rattle.device_model.specs.Devices.Endings.{ended_at, served_of}
use Rattle.device_model.specs.Devices.Handing.{emptied}
use Rattle.device_model.specs.Devices.MoveProofs.{IsMoveProof, IsArrivalProof}
use Rattle.device_lemmas.proofs.Emptied.{emptied_many}
use Rattle.machine_lemmas.proofs.DeviceServings.{accepted_links, dropped_links}
use Rattle.machine_lemmas.proofs.Handing.{handed_many, set_length}

abbrev pub AreFew : Devices → Type 0
AreFew dv = length dv.links ≤ 9

few_same : (dv now : Devices) → length now.links ≡ length dv.links → AreFew dv → AreFew now
few_same dv now same few = subst (λ n. n ≤ 9) (sym same) few

asked_if : (dv now : Devices) (before : Bool) → length now.links ≡ length dv.links → length (cond before dv now).links ≡ length dv.links
asked_if dv now true same = refl
asked_if dv now false same = same

given_many : (dv : Devices) (d : ℕ) (link : Link) (given : Option Given) → length (asked_given dv d link given).links ≡ length dv.links
given_many dv d link None = refl
given_many dv d link (Some given) = asked_if dv (record dv { links = slice_set dv.links d (Some (link_asked d link given)) }) given.asked (set_length dv.links d (Some (link_asked d link given)))

link_many : (dv : Devices) (d : ℕ) (slot : Option Link) → length (asked_link dv d slot).links ≡ length dv.links
link_many dv d None = refl
link_many dv d (Some link) = given_many dv d link link.given

asked_many : (dv : Devices) (d : ℕ) → length (asked dv d).links ≡ length dv.links
unfolding asked
asked_many dv d = link_many dv d (link_at dv d)

pub few_moves : IsMoveProof AreFew
few_moves = record {
  opens = λ now dd slot few. few;
  wishes = λ now t wish few. few;
  buffers = λ now d id few. few;
  offs = λ now off few. few;
  accepts = λ now id row new few. few_same now (accepted now id row) (ap length (accepted_links now id row)) few;
  drops = λ now id few. few_same now (dropped now id) (ap length (dropped_links now id)) few;
  hands = λ now d few. few_same now (handed now d) (handed_many now d) few;
  asks = λ now d few. few_same now (asked now d) (asked_many now d) few;
}

pub few_arrivals : IsArrivalProof AreFew
few_arrivals = record {
  arrives = λ now d link given row how linked has there away fit few. few_same now (ended_at now d link given.request.id row (served_of link.kind link.store given.request how)) (set_length now.links d _) few;
}

-- and messages that are taken leave as many
pub emptied_few : (dv : Devices) → AreFew dv → AreFew (emptied dv)
emptied_few dv few = few_same dv (emptied dv) (emptied_many dv) few
