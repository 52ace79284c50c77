-- What holds in every world of a device: of the request that is with its driver, of what is on the road, and of what the driver has.
use Rattle.std.specs.Prelude.{◌≡◌, ℕ, ◌+◌, ◌≤◌, ◌<◌, ◌⊎◌, Bool, true, false, List, [], ◌∷◌, ◌++◌, length, Option, Some, None}
use Rattle.device_model.specs.declared.messages.Ending.{Ending}
use Rattle.device_model.specs.declared.messages.Message.{Message}
use Rattle.device_model.specs.declared.messages.Message.TheVariants as message
use Rattle.device_model.specs.declared.messages.Request.{Request}
use Rattle.device_model.specs.Units.Function.{IsWhole}
use Rattle.device_model.specs.Units.Blocks.{blocks}
use Rattle.device_model.specs.Devices.Tables.{Given, Link}
use Rattle.device_model.specs.Devices.Endings.{is_fit, served_of}
use Rattle.driver_model.specs.Cores.{Core}
use Rattle.world_model.specs.Roads.{Road}

-- the word holds of each element
abbrev pub Each : {A : Type 0} → (A → Type 0) → List A → Type 0
Each P [] = Unit {0}
Each P (x ∷ xs) = P x × Each P xs

-- ---- how many there are

abbrev pub serves_in : List Message → ℕ
serves_in [] = 0
serves_in (message.Serve d request ∷ later) = serves_in later + 1
serves_in (message.Abort d number ∷ later) = serves_in later
serves_in (message.Stop d ∷ later) = serves_in later

abbrev pub aborts_in : List Message → ℕ
aborts_in [] = 0
aborts_in (message.Serve d request ∷ later) = aborts_in later
aborts_in (message.Abort d number ∷ later) = aborts_in later + 1
aborts_in (message.Stop d ∷ later) = aborts_in later

abbrev pub stops_in : List Message → ℕ
stops_in [] = 0
stops_in (message.Serve d request ∷ later) = stops_in later
stops_in (message.Abort d number ∷ later) = stops_in later
stops_in (message.Stop d ∷ later) = stops_in later + 1

abbrev pub one_if : {A : Type 0} → Option A → ℕ
one_if None = 0
one_if (Some x) = 1

-- ---- messages

-- a request is the one that the kernel has given to the driver
pub record IsGiven (link : Link) (request : Request) : Type 0 where
  pub given : Given
  pub is : link.given ≡ Some given
  pub same : given.request ≡ request

-- a message is of the device. A Serve has the request that is with the driver, which is whole, and a Stop is given only where the
-- run is over
abbrev pub IsRight : Bool → ℕ → Link → Message → Type 0
IsRight over d link (message.Serve device request) = (device ≡ d) × IsGiven link request × IsWhole request
IsRight over d link (message.Abort device number) = device ≡ d
IsRight over d link (message.Stop device) = (device ≡ d) × (over ≡ true)

-- a number is that of the request that is with the driver, and its abort was asked
pub record IsOwn (link : Link) (number : ℕ) : Type 0 where
  pub given : Given
  pub is : link.given ≡ Some given
  pub names : number ≡ given.request.number
  pub asked : given.asked ≡ true

-- a number is that of a request that was handed over and has ended
pub record HasEnded (link : Link) (number : ℕ) : Type 0 where
  pub some : 0 < number
  pub last : number ≤ link.number
  pub before : (given : Given) → link.given ≡ Some given → number < given.request.number

-- each Abort names the request that is with the driver, and was asked, or it names one that has ended, and then no Serve stands
-- before it; the truth value tells whether one does
abbrev pub AbortsFit : Link → Bool → List Message → Type 0
AbortsFit link served [] = Unit {0}
AbortsFit link served (message.Serve d request ∷ later) = AbortsFit link true later
AbortsFit link served (message.Abort d number ∷ later) = (IsOwn link number ⊎ (HasEnded link number × (served ≡ false))) × AbortsFit link served later
AbortsFit link served (message.Stop d ∷ later) = AbortsFit link served later

-- ---- endings

-- an ending is fit for the kernel's state, and the driver's store is what the unit leaves that does so
pub record IsMade (link : Link) (core : Core) (ending : Ending) : Type 0 where
  pub given : Given
  pub is : link.given ≡ Some given
  pub fit : is_fit ending link given ≡ true
  pub store : core.store ≡ (served_of link.kind link.store given.request ending.how).store

-- ---- a road

-- the messages on a road that its driver hasn't taken
abbrev pub untaken : Road → List Message
untaken road = road.inbox ++ road.waiting

-- in how many places a road has the request that is with the driver: as a Serve, as what the driver works on, as an ending that is
-- ready, and in the outbox
abbrev pub places : Road → ℕ
places road = serves_in (untaken road) + (one_if road.core.given + (one_if road.core.ready + length road.outbox))

-- the driver works on the request that the kernel has given to it, and its store is the kernel's with the blocks that were done
pub record WorksOn (link : Link) (core : Core) (request : Request) : Type 0 where
  pub given : IsGiven link request
  pub store : core.store ≡ (blocks link.kind link.store request core.blocks).store

-- of the messages that a driver hasn't taken two Aborts at most, one Serve and one Stop; so four at most, and fewer until the run
-- is over. Without a request with the driver there is one Abort at most
pub record AreFew (over : Bool) (link : Link) (way : List Message) : Type 0 where
  pub aborts : aborts_in way ≤ one_if link.given + 1
  pub serves : serves_in way ≤ 1
  pub stops : stops_in way ≤ 1
  pub all : length way ≤ 4
  pub fewer : over ≡ false → length way < 4
