-- What holds of the devices after every list of moves. A word on the devices that each move keeps is kept by all that is
-- made of them: calls, servings and requests that go to drivers. The arrival of an ending stands apart.
use Rattle.std.specs.Prelude.{◌≡◌, ℕ, Bool, true, false, [], length, Option, Some}
use Rattle.tk_types.specs.declared.error_code.Er.{Er}
use Rattle.tk_types.specs.declared.error_code.Er.TheVariants as er
use Rattle.tk_types.specs.declared.line.How.{How}
use Rattle.device_model.specs.declared.rows.Life.{Life}
use Rattle.device_model.specs.declared.rows.Life.TheVariants.{Ended}
use Rattle.device_model.specs.declared.rows.Opened.{Opened}
use Rattle.device_model.specs.declared.rows.Wish.{Wish}
use Rattle.device_model.specs.Devices.Tables.{Given, Link, Row, Devices, is_queued, is_at_driver, link_at, row_at, with_open, with_wish, with_buffer, with_off, accepted, dropped, handed, asked}
use Rattle.device_model.specs.Devices.Endings.{ended_at, is_allowed, served_of}

abbrev pub is_abort : Er → Bool
is_abort er.Abort = true
is_abort _ = false

-- whether a request has ended aborted
abbrev pub is_aborted : Life → Bool
is_aborted (Ended size error) = is_abort error
is_aborted _ = false

-- a request as it is accepted: a write that waits for its driver has as many bytes as its size, a read has none, no driver has it
-- yet, and it hasn't ended aborted
pub record IsNew (row : Row) : Type 0 where
  pub whole : is_queued row.life ≡ true → row.write ≡ true → length row.bytes ≡ row.size
  pub none : row.write ≡ false → row.bytes ≡ []
  pub apart : is_at_driver row.life ≡ false
  pub unaborted : is_aborted row.life ≡ false

-- each move keeps the word
pub record IsMoveProof (P : Devices → Type 0) : Type 0 where
  pub opens : (dv : Devices) (dd : ℕ) (slot : Option Opened) → P dv → P (with_open dv dd slot)
  pub wishes : (dv : Devices) (t : ℕ) (wish : Wish) → P dv → P (with_wish dv t wish)
  pub buffers : (dv : Devices) (d id : ℕ) → P dv → P (with_buffer dv d id)
  pub offs : (dv : Devices) (off : ℕ) → P dv → P (with_off dv off)
  pub accepts : (dv : Devices) (id : ℕ) (row : Row) → IsNew row → P dv → P (accepted dv id row)
  pub drops : (dv : Devices) (id : ℕ) → P dv → P (dropped dv id)
  pub hands : (dv : Devices) (d : ℕ) → P dv → P (handed dv d)
  pub asks : (dv : Devices) (d : ℕ) → P dv → P (asked dv d)

-- the arrival of an ending that is fit keeps the word
pub record IsArrivalProof (P : Devices → Type 0) : Type 0 where
  pub arrives : (dv : Devices) (d : ℕ) (link : Link) (given : Given) (row : Row) (how : How) →
      link_at dv d ≡ Some link → link.given ≡ Some given → row_at dv given.request.id ≡ Some row → is_at_driver row.life ≡ true →
      is_allowed link.kind link.store given how ≡ true → P dv →
      P (ended_at dv d link given.request.id row (served_of link.kind link.store given.request how))
