-- What becomes of the requests from one table to a later one.
use Rattle.std.specs.Prelude.{◌≡◌, ℕ, ◌<◌, Bool, true, false, Option, Some, None}
use Rattle.device_model.specs.Devices.Tables.{Given, Link, Row, Devices, given_in, is_at_driver, link_at, row_at}
use Rattle.device_model.specs.Devices.MoveProofs.{is_aborted}

-- no two requests have one serial, and each has one that was given
pub record AreApart (dv : Devices) : Type 0 where
  pub given : (id : ℕ) (row : Row) → row_at dv id ≡ Some row → row.serial < dv.serial
  pub apart : (id other : ℕ) (row second : Row) → row_at dv id ≡ Some row → row_at dv other ≡ Some second → row.serial ≡ second.serial → id ≡ other

-- no request has this serial any more, which was given
pub record IsGone (serial : ℕ) (dv : Devices) : Type 0 where
  pub given : serial < dv.serial
  pub gone : (id : ℕ) (row : Row) → row_at dv id ≡ Some row → row.serial ≡ serial → ⊥

-- a request that is there yet is just as it was
pub record StaysSo (before : Row) (dv : Devices) : Type 0 where
  pub given : before.serial < dv.serial
  pub so : (id : ℕ) (row : Row) → row_at dv id ≡ Some row → row.serial ≡ before.serial → row ≡ before

-- a request is there under an ID, by its serial
pub record IsThere (id serial : ℕ) (dv : Devices) : Type 0 where
  pub row : Row
  pub there : row_at dv id ≡ Some row
  pub same : row.serial ≡ serial

abbrev pub asked_in : Option Given → Bool
asked_in None = false
asked_in (Some given) = given.asked

-- whether the driver of a device was asked to abort the request that it has
abbrev pub is_asked : Devices → ℕ → Bool
is_asked dv d = asked_in (given_in (link_at dv d))

-- no driver was asked to abort, and no request has ended aborted
pub record NoneAborted (dv : Devices) : Type 0 where
  pub drivers : (d : ℕ) → is_asked dv d ≡ false
  pub requests : (id : ℕ) (row : Row) → row_at dv id ≡ Some row → is_aborted row.life ≡ false

-- a request is with the driver of a device by the table, too
pub record IsAway (dv : Devices) (d id : ℕ) : Type 0 where
  pub row : Row
  pub there : row_at dv id ≡ Some row
  pub away : is_at_driver row.life ≡ true
  pub device : row.device ≡ d

-- what the kernel has given to a driver is with it by the table of requests
pub record AreTied (dv : Devices) : Type 0 where
  pub given : (d : ℕ) (link : Link) (given : Given) → link_at dv d ≡ Some link → link.given ≡ Some given → IsAway dv d given.request.id
