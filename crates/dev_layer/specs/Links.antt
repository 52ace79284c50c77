-- What the kernel keeps of each device's driver and unit, and the messages that wait to be taken.
use Rattle.std.specs.Prelude.{ℕ, ◌≡◌, ◌+◌, ◌≤◌, ◌<◌, ◌^◌, Bool, true, false, cond, if◌then◌else◌, List, Option, Some, None, length, take}
use Rattle.std.specs.Option.{is_some}
use Rattle.tk_types.specs.declared.error_code.Er.{Er}
use Rattle.tk_types.specs.declared.line.How.{How}
use Rattle.tk_types.specs.declared.line.How.TheVariants.{Done, Cut}
use Rattle.tk_types.specs.declared.script.Kind.{Kind}
use Rattle.tk_types.specs.declared.script.Kind.TheVariants.{Ram, Log, Flaky, Slow}
use Rattle.device_model.specs.declared.messages.Request.{Request}
use Rattle.device_model.specs.declared.messages.Ending.{Ending}
use Rattle.device_model.specs.Devices.Tables.{Given, Link}
use Rattle.device_model.specs.Devices.Endings.{is_allowed, is_fit, served_of}
use Rattle.device_model.specs.Units.Stores.{Store, is_log}
use Rattle.device_model.specs.Units.Function.{IsWhole, Served, begin, count_of, written}

-- ---- one device

-- the numbers of a kind: each request of a flaky one counts up to at least 1, and no memory is larger than all addresses
abbrev pub IsKind : Kind → Type 0
IsKind (Ram size) = size ≤ 65536
IsKind Log = Unit {0}
IsKind (Flaky size each) = (size ≤ 65536) × (1 ≤ each)
IsKind (Slow size turns) = size ≤ 65536

-- a store that holds so many bytes and has begun so many requests
pub record HoldsAs (store : Store) (held begun : ℕ) : Type 0 where
  pub many : length store.bytes ≡ held
  pub done : store.begun ≡ begun

-- a request that is with a driver
pub record IsGiven (request : Request) : Type 0 where
  pub whole : IsWhole request
  pub small : request.size ≤ 65536

pub record IsLink (kind : Kind) (bytes : List ℕ) (capacity begun : ℕ) (given : Option Given) (number : ℕ) : Type 0 where
  pub fits : IsKind kind
  pub short : length bytes ≤ 65536
  pub room : is_log kind ≡ true → 65536 ≤ capacity
  pub counted : begun + cond (is_some given) 1 0 ≤ number
  pub few : number < 2 ^ 64

-- what a unit did with a request, as numbers
pub record IsServed (served : Served) (size : ℕ) (error : Er) : Type 0 where
  pub size_is : size ≡ served.size
  pub error_is : error ≡ served.error

-- how many bytes are moved where a request ends so
abbrev pub count_by_end : Kind → Store → Request → How → ℕ
count_by_end kind store request Done = count_of kind (begin store request) request
count_by_end kind store request (Cut count) = count

abbrev pub given_asked : Given → Given
given_asked given = record given { asked = true }

-- a request goes to a driver
abbrev pub link_hands : Link → Request → Link
link_hands link request = record link { given = Some (record { request = request; asked = false }); number = link.number + 1 }

-- whether an ending is fit for what is with a driver
abbrev pub fits_given : Ending → Link → Option Given → Bool
fits_given ending link None = false
fits_given ending link (Some given) = is_fit ending link given

abbrev pub allows_given : Link → How → Option Given → Bool
allows_given link how None = false
allows_given link how (Some given) = is_allowed link.kind link.store given how

-- whether what is with a driver may end so
abbrev pub allows_end : Link → How → Bool
allows_end link how = allows_given link how link.given

abbrev pub ended_given : Link → How → Option Given → Link
ended_given link how None = link
ended_given link how (Some given) = record link { store = (served_of link.kind link.store given.request how).store; given = None }

-- the store is that of the unit, and the driver has no request
abbrev pub link_ended : Link → How → Link
link_ended link how = ended_given link how link.given

-- the bytes of a store once a request's first ones were moved, so many
abbrev pub stored : Kind → List ℕ → Request → ℕ → List ℕ
stored kind bytes request count = if request.write then written kind bytes request (take count request.bytes.items) else bytes
