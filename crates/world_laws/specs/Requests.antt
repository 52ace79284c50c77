-- What becomes of requests from one world to the next.
use Rattle.std.specs.Prelude.{◌≡◌, ℕ, ◌⊎◌, true, Some}
use Rattle.tk_types.specs.declared.answer.Answer.{Answer}
use Rattle.device_model.specs.declared.rows.Transfer.{Transfer}
use Rattle.device_model.specs.Devices.Endings.{DevParts}
use Rattle.device_model.specs.Devices.Requests.{accept}
use Rattle.device_laws.specs.Claims.{IsClaim}
use Rattle.device_model.specs.Devices.Tables.{Devices, Given, Link, Row, is_at_driver, link_at, row_at}
use Rattle.device_model.specs.Devices.MoveProofs.{is_aborted}

-- the driver of a device has a request, and its abort was asked
pub record WasAsked (dv : Devices) (d id serial : ℕ) : Type 0 where
  pub link : Link
  pub given : Given
  pub row : Row
  pub linked : link_at dv d ≡ Some link
  pub has : link.given ≡ Some given
  pub names : given.request.id ≡ id
  pub there : row_at dv id ≡ Some row
  pub same : row.serial ≡ serial
  pub away : is_at_driver row.life ≡ true
  pub asked : given.asked ≡ true

-- a request that has ended aborted did so before, or its driver was asked to abort it
pub record IsAbortAsked (before after : Devices) : Type 0 where
  pub so : (id : ℕ) (row : Row) → row_at after id ≡ Some row → is_aborted row.life ≡ true →
      (row_at before id ≡ Some row) ⊎ ((d : ℕ) × WasAsked before d id row.serial)

-- a call that stays for its own request, which ends as it is accepted, is told that: the request has the next serial, and is let go
pub record HandsOutOwn (p : DevParts) (dd : ℕ) (answer : Answer) (after : DevParts) : Type 0 where
  pub device : ℕ
  pub id : ℕ
  pub transfer : Transfer
  pub claim : IsClaim (accept p device id transfer).table dd id true answer after.table
  pub very : claim.row.serial ≡ p.table.serial
