-- Who can be served at a device, at a descriptor and at the suspension, and what serving does. Each looks first whether
-- anybody waits.
use Rattle.std.specs.Prelude.{ℕ, zero, suc, ◌==◌, Bool, true, false, pos, List, [], ◌∷◌, Option, Some, None, drop}
use Rattle.std.specs.List.{find}
use Rattle.std.specs.Option.{is_some}
use Rattle.tk_types.specs.declared.error_code.Er.TheVariants as er
use Rattle.tk_types.specs.declared.task.Order.TheVariants.{Fifo}
use Rattle.tk_types.specs.Codes.{code_of}
use Rattle.kernel_model.specs.Words.Orders.{taken_from}
use Rattle.kernel_model.specs.Words.Checks.{plain}
use Rattle.kernel_model.specs.Tasks.Base.{fifo_queue, move_wait, release}
use Rattle.object_model.specs.Servings.{first_serving}
use Rattle.device_model.specs.declared.rows.Transfer.{Transfer}
use Rattle.device_model.specs.declared.rows.Wish.{Wish}
use Rattle.device_model.specs.declared.rows.Wish.TheVariants as wish
use Rattle.device_model.specs.declared.rows.Opened.{Opened}
use Rattle.device_model.specs.Devices.Tables.{Row, Devices, device_ids, free_request, at_driver, opened_at, row_at, wish_of, with_open, with_wish, dropped}
use Rattle.device_model.specs.Devices.Handing.{any_given, suspension_object}
use Rattle.device_model.specs.Devices.Endings.{DevParts, close_object}
use Rattle.device_model.specs.Devices.Requests.{acceptance_object, ending_object, has_place, accept, picked, is_own, claimed}
use Rattle.device_model.specs.Devices.Suspension.{events_sent}

-- ---- acceptance

-- a caller that stays waits for its own ending from now on, with the stamps that it has; any other gets the request's ID
abbrev pub after_acceptance : DevParts → ℕ → ℕ → ℕ → ℕ → Bool → DevParts
after_acceptance p t dd id serial true = record p {
  base = move_wait p.base t (ending_object dd) Fifo;
  table = with_wish p.table t (wish.Ending id serial true);
}
after_acceptance p t dd id serial false = record p { base = release p.base t (plain (pos id)) }

-- without a free ID the wait ends with E_LIMIT
abbrev pub admitted : DevParts → ℕ → ℕ → Transfer → Bool → ℕ → DevParts
admitted p d t transfer stays zero = record p { base = release p.base t (plain (code_of er.Limit)) }
admitted p d t transfer stays (suc id) =
    after_acceptance (accept p d (suc id) transfer) t transfer.descriptor (suc id) p.table.serial stays

abbrev pub admitted_wish : DevParts → ℕ → ℕ → Wish → Option DevParts
admitted_wish p d t (wish.Acceptance transfer stays) = Some (admitted p d t transfer stays (free_request p.table))
admitted_wish p d t _ = None

abbrev pub admitted_if : Bool → DevParts → ℕ → ℕ → Option DevParts
admitted_if false p d t = None
admitted_if true p d t = admitted_wish p d t (wish_of p.table t)

abbrev pub acceptance_by : DevParts → ℕ → List ℕ → Option DevParts
acceptance_by p d [] = None
acceptance_by p d (t ∷ ts) = admitted_if (has_place p.table d) p d t

-- the first that waits for a device to accept its request is served, where there is a place
unfoldable pub serve_acceptance : DevParts → ℕ → Option DevParts
serve_acceptance p d = acceptance_by p d (fifo_queue p.base (acceptance_object d))

unfoldable pub serve_acceptances : DevParts → Option DevParts
serve_acceptances p = first_serving (serve_acceptance p) (device_ids p.table)

-- ---- endings

-- a wait ends with an ending, which is claimed by that
abbrev pub ending_claimed : DevParts → ℕ → Option ℕ → Option DevParts
ending_claimed p t None = None
ending_claimed p t (Some id) = Some (record p {
  base = release p.base t (claimed p.table (is_own (wish_of p.table t)) id);
  table = dropped p.table id;
})

abbrev pub ending_of_first : DevParts → ℕ → Option ℕ → Option DevParts
ending_of_first p dd None = None
ending_of_first p dd (Some t) = ending_claimed p t (picked p.table dd (wish_of p.table t))

-- the first that waits for an ending of a descriptor and whose request has ended
unfoldable pub serve_ending : DevParts → ℕ → Option DevParts
serve_ending p dd = ending_of_first p dd
    (find (λ t. is_some (picked p.table dd (wish_of p.table t))) (fifo_queue p.base (ending_object dd)))

-- the descriptors that are taken, by rising number
abbrev pub descriptors : Devices → List ℕ
descriptors dv = taken_from 1 (drop 1 dv.opened)

unfoldable pub serve_endings : DevParts → Option DevParts
serve_endings p = first_serving (serve_ending p) (descriptors p.table)

-- ---- close

abbrev pub is_of_descriptor : ℕ → Option Row → Bool
is_of_descriptor dd None = false
is_of_descriptor dd (Some row) = row.descriptor == dd

abbrev pub is_request_of : Devices → ℕ → Option ℕ → Bool
is_request_of dv dd None = false
is_request_of dv dd (Some id) = is_of_descriptor dd (row_at dv id)

abbrev pub driver_has : Devices → ℕ → Option Opened → Bool
driver_has dv dd None = false
driver_has dv dd (Some opened) = is_request_of dv dd (at_driver dv opened.device)

-- whether a driver has a request of a descriptor
unfoldable pub is_with_driver : Devices → ℕ → Bool
is_with_driver dv dd = driver_has dv dd (opened_at dv dd)

abbrev pub closed_unless : Bool → DevParts → ℕ → ℕ → Option DevParts
closed_unless true p dd t = None
closed_unless false p dd t = Some (record p { base = release p.base t (plain (pos 0)); table = with_open p.table dd None })

abbrev pub close_by : DevParts → ℕ → List ℕ → Option DevParts
close_by p dd [] = None
close_by p dd (t ∷ ts) = closed_unless (is_with_driver p.table dd) p dd t

-- the closer, once no driver has a request of the descriptor, which is free then
unfoldable pub serve_close : DevParts → ℕ → Option DevParts
serve_close p dd = close_by p dd (fifo_queue p.base (close_object dd))

unfoldable pub serve_closes : DevParts → Option DevParts
serve_closes p = first_serving (serve_close p) (descriptors p.table)

-- ---- suspension

abbrev pub suspended_unless : Bool → DevParts → ℕ → Option DevParts
suspended_unless true p t = None
suspended_unless false p t = Some (events_sent (record p { base = release p.base t (plain (pos p.table.off)) }))

abbrev pub suspension_by : DevParts → List ℕ → Option DevParts
suspension_by p [] = None
suspension_by p (t ∷ ts) = suspended_unless (any_given p.table) p t

-- the caller of a suspension, once no driver has a request: its wait ends first, and then the events are sent
unfoldable pub serve_suspension : DevParts → Option DevParts
serve_suspension p = suspension_by p (fifo_queue p.base suspension_object)
