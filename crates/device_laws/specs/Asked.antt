-- That an abort was asked, among the moves that were made.
use Rattle.std.specs.Prelude.{◌≡◌, ℕ, true, List, ◌∷◌, ◌++◌, Some}
use Rattle.device_model.specs.Devices.Tables.{Given, Link, Row, Devices, link_at, row_at}
use Rattle.device_model.specs.Devices.MoveProofs.{is_aborted}
use Rattle.device_laws.specs.Moves.{Move, Asks, all_moved}

-- the driver of a device has the request with a serial
pub record HasRequest (dv : Devices) (d serial : ℕ) : Type 0 where
  pub link : Link
  pub given : Given
  pub row : Row
  pub linked : link_at dv d ≡ Some link
  pub has : link.given ≡ Some given
  pub there : row_at dv given.request.id ≡ Some row
  pub same : row.serial ≡ serial

-- among the moves from these devices on is one by which a driver is asked to abort the request with a serial, while it has that
pub record WasAsked (dv : Devices) (moves : List Move) (serial : ℕ) : Type 0 where
  pub front : List Move
  pub device : ℕ
  pub rest : List Move
  pub among : moves ≡ front ++ Asks device ∷ rest
  pub had : HasRequest (all_moved dv front) device serial

-- that is so of each request that has ended aborted
abbrev pub AllWereAsked : Devices → List Move → Type 0
AllWereAsked dv moves = (id : ℕ) (row : Row) → row_at (all_moved dv moves) id ≡ Some row → is_aborted row.life ≡ true → WasAsked dv moves row.serial
