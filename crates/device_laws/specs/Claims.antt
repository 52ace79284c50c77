-- What is handed out where an ending is claimed.
use Rattle.std.specs.Prelude.{◌≡◌, ℕ, Bool, true, false, Some}
use Rattle.std.specs.List.{find}
use Rattle.tk_types.specs.declared.answer.Answer.{Answer}
use Rattle.tk_types.specs.declared.error_code.Er.{Er}
use Rattle.kernel_model.specs.Tasks.Base.{release, waits_for}
use Rattle.device_model.specs.declared.rows.Life.TheVariants.{Ended}
use Rattle.device_model.specs.declared.rows.Wish.TheVariants as wish
use Rattle.device_model.specs.Devices.Tables.{Row, Devices, row_at, wish_of, dropped}
use Rattle.device_model.specs.Devices.Endings.{DevParts}
use Rattle.device_model.specs.Devices.Requests.{claimed_life, ending_object, has_ended_of, is_own}

-- the ending of a request of a descriptor is told, and the request is let go. A call that stayed for its own request is told
-- its size or its error, and any other the request's ID with both
pub record IsClaim (dv : Devices) (dd id : ℕ) (own : Bool) (answer : Answer) (after : Devices) : Type 0 where
  pub row : Row
  pub size : ℕ
  pub error : Er
  pub there : row_at dv id ≡ Some row
  pub descriptor : row.descriptor ≡ dd
  pub over : row.life ≡ Ended size error
  pub told : answer ≡ claimed_life own id (Ended size error)
  pub gone : after ≡ dropped dv id

-- a call that asks for a request, where 0 is any, claims that one, or of all that have ended the earliest
pub record HandsOut (p : DevParts) (dd named : ℕ) (answer : Answer) (after : DevParts) : Type 0 where
  pub id : ℕ
  pub claim : IsClaim p.table dd id false answer after.table
  pub very : (named ≡ 0 → ⊥) → id ≡ named
  pub earliest : named ≡ 0 → find (λ n. has_ended_of dd (row_at p.table n)) p.table.ended ≡ Some id
  pub base : after.base ≡ p.base

-- a serving ends the wait of a task that waits for an ending of the descriptor, and claims the very request that it asked
-- for, or of all that have ended the earliest
pub record Serves (p : DevParts) (dd : ℕ) (after : DevParts) : Type 0 where
  pub task : ℕ
  pub id : ℕ
  pub answer : Answer
  pub waits : waits_for p.base (ending_object dd) task ≡ true
  pub claim : IsClaim p.table dd id (is_own (wish_of p.table task)) answer after.table
  pub very : (named serial : ℕ) (own : Bool) → wish_of p.table task ≡ wish.Ending named serial own → (id ≡ named) × (claim.row.serial ≡ serial)
  pub earliest : wish_of p.table task ≡ wish.AnyEnding → find (λ n. has_ended_of dd (row_at p.table n)) p.table.ended ≡ Some id
  pub released : after.base ≡ release p.base task answer
