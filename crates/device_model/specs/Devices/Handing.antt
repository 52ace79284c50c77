-- When requests go to drivers, and the messages that wait to be taken.
use Rattle.std.specs.Prelude.{ℕ, Bool, true, false, List, [], ◌∷◌, ◌++◌, Option, Some, None, map, fold}
use Rattle.std.specs.List.{find, list_any}
use Rattle.std.specs.Option.{is_some}
use Rattle.kernel_model.specs.Tasks.Base.{Base, fifo_queue}
use Rattle.device_model.specs.declared.messages.Message.{Message}
use Rattle.device_model.specs.Devices.Tables.{Devices, Link, device_ids, first_queued, given_in, handed}

-- the object for which the caller of a suspension waits
abbrev pub suspension_object : ℕ
suspension_object = 648

abbrev pub has_given : Option Link → Bool
has_given link = is_some (given_in link)

-- whether any driver has a request, and whether any request waits for one
abbrev pub any_given : Devices → Bool
any_given dv = list_any has_given dv.links

abbrev pub is_any : List ℕ → Bool
is_any [] = false
is_any (id ∷ ids) = true

abbrev pub any_queued : Devices → Bool
any_queued dv = is_any dv.queued

abbrev pub handed_all : List ℕ → Devices → Devices
handed_all ids dv = fold handed dv ids

abbrev pub handed_unless : List ℕ → Devices → Devices
handed_unless [] dv = handed_all (device_ids dv) dv
handed_unless (t ∷ ts) dv = dv

-- in free mode each driver without a request gets the first that waits for it, unless a task waits for a suspension
unfoldable pub hand_over : Base → Devices → Devices
hand_over b dv = handed_unless (fifo_queue b suspension_object) dv

abbrev pub handed_one : Option ℕ → Devices → Devices
handed_one None dv = dv
handed_one (Some d) dv = handed dv d

-- in sync mode the least device for which a request waits gets its first
unfoldable pub hand_first : Devices → Devices
hand_first dv = handed_one (find (λ d. is_some (first_queued dv d)) (device_ids dv)) dv

abbrev pub out_of : List (Option Link) → List Message
out_of [] = []
out_of (None ∷ links) = out_of links
out_of (Some link ∷ links) = link.out ++ out_of links

-- the messages that weren't taken yet, by device, and for each in their order
unfoldable pub messages : Devices → List Message
messages dv = out_of dv.links

abbrev pub link_emptied : Option Link → Option Link
link_emptied None = None
link_emptied (Some link) = Some (record link { out = [] })

-- taking them leaves none
unfoldable pub emptied : Devices → Devices
emptied dv = record dv { links = map link_emptied dv.links }
