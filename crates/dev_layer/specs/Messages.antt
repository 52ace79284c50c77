-- The messages of all devices in one list, by device, and for each in their order.
use Rattle.std.specs.Prelude.{ℕ, ◌≡◌, ◌+◌, ◌≤◌, ◌==◌, Bool, true, false, nat_lt, if◌then◌else◌, List, [], ◌∷◌, Option, Some, None, length, filter, slice_set}
use Rattle.std.specs.Option.{is_some, option_map}
use Rattle.tk_types.specs.declared.line.How.{How}
use Rattle.kernel_model.specs.Words.Orders.{entry}
use Rattle.device_model.specs.declared.messages.Ending.{Ending}
use Rattle.device_model.specs.declared.messages.Message.{Message}
use Rattle.device_model.specs.declared.messages.Message.TheVariants as message
use Rattle.device_model.specs.declared.messages.Request.{Request}
use Rattle.device_model.specs.Devices.Tables.{Given, Link, link_asked, link_handed}
use Rattle.dev_layer.specs.Links.{allows_end, fits_given, given_asked, link_ended, link_hands}

-- the device that a message is for
abbrev pub receiver : Message → ℕ
receiver (message.Serve d request) = d
receiver (message.Abort d number) = d
receiver (message.Stop d) = d

-- a message goes behind all that are for its device or for one before
abbrev pub put_out : Message → List Message → List Message
put_out m [] = m ∷ []
put_out m (first ∷ rest) = if nat_lt (receiver m) (receiver first) then m ∷ first ∷ rest else first ∷ put_out m rest

abbrev pub is_for : ℕ → Message → Bool
is_for d m = receiver m == d

-- messages for devices from one on, by device
abbrev pub AreFrom : ℕ → List Message → Type 0
AreFrom d [] = Unit {0}
AreFrom d (m ∷ rest) = (d ≤ receiver m) × AreFrom (receiver m) rest

-- for devices that there are
abbrev pub AreKnown : List (Option Link) → List Message → Type 0
AreKnown slots [] = Unit {0}
AreKnown slots (m ∷ rest) = (is_some (entry slots (receiver m)) ≡ true) × AreKnown slots rest

abbrev pub with_out : List Message → Option Link → Option Link
with_out out None = None
with_out out (Some link) = Some (record link { out = out })

-- each device with its own messages
abbrev pub attached : List (Option Link) → ℕ → List Message → List (Option Link)
attached [] d out = []
attached (slot ∷ slots) d out = with_out (filter (is_for d) out) slot ∷ attached slots (d + 1) out

-- the devices, and for how many messages more there is a place
pub record LinkTable : Type 0 where
  pub links : List (Option Link)
  pub places : ℕ

pub record AreLinks (slots : List (Option Link)) (out : List Message) : Type 0 where
  pub few : length slots ≤ 9
  pub unnamed : entry slots 0 ≡ None  -- no device has the ID 0
  pub sorted : AreFrom 0 out
  pub known : AreKnown slots out

-- ---- what the table tells and does

abbrev pub fits_link : Ending → Option Link → Bool
fits_link ending None = false
fits_link ending (Some link) = fits_given ending link link.given

abbrev pub allows_link : How → Option Link → Bool
allows_link how None = false
allows_link how (Some link) = allows_end link how

abbrev pub asked_slot : List (Option Link) → ℕ → Link → Option Given → List (Option Link)
asked_slot links d link None = links
asked_slot links d link (Some given) = if given.asked then links else slice_set links d (Some (link_asked d link given))

abbrev pub asked_entry : List (Option Link) → ℕ → Option Link → List (Option Link)
asked_entry links d None = links
asked_entry links d (Some link) = asked_slot links d link link.given

-- a driver is asked to abort the request that it has
abbrev pub links_asked : List (Option Link) → ℕ → List (Option Link)
links_asked links d = asked_entry links d (entry links d)

abbrev pub ended_entry : How → Option Link → Option Link
ended_entry how None = None
ended_entry how (Some link) = Some (link_ended link how)

abbrev pub out_in : Option Link → List Message
out_in None = []
out_in (Some link) = link.out

abbrev pub number_in : Option Link → ℕ
number_in None = 0
number_in (Some link) = link.number

abbrev pub abort_given : Option Given → Option ℕ
abort_given None = None
abort_given (Some given) = if given.asked then None else Some given.request.number

-- the number of the request whose abort can be asked for
abbrev pub abort_number : Option Link → Option ℕ
abort_number None = None
abort_number (Some link) = abort_given link.given

abbrev pub link_asking : Link → Link
link_asking link = record link { given = option_map given_asked link.given }

abbrev pub handed_entry : List (Option Link) → ℕ → Request → Option Link → List (Option Link)
handed_entry links d request None = links
handed_entry links d request (Some link) = slice_set links d (Some (link_handed d link request))

-- a request goes to the driver of a device, with a message of it
abbrev pub links_handed : List (Option Link) → ℕ → Request → List (Option Link)
links_handed links d request = handed_entry links d request (entry links d)

abbrev pub slot_hands : Request → Option Link → Option Link
slot_hands request None = None
slot_hands request (Some link) = Some (link_hands link request)
