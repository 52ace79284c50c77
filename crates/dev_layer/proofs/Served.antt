-- What a serving comes to.
use Rattle.std.proofs.Common.{◌≡◌, ℕ, Some, ap, ◌∙◌}
use Rattle.std.specs.List.{find}
use Rattle.std.specs.Option.{is_some}
use Rattle.kernel_model.specs.Tasks.Base.{fifo_queue, release}
use Rattle.device_model.specs.Devices.Endings.{DevParts}
use Rattle.device_model.specs.Devices.Requests.{claimed, ending_object, is_own, picked}
use Rattle.device_model.specs.Devices.Servings.{ending_claimed, ending_of_first, serve_ending}
use Rattle.device_model.specs.Devices.Tables.{dropped, wish_of}

-- the first whose ending is there claims it
pub ending_is_served : (p : DevParts) (dd t id : ℕ) → find (λ u. is_some (picked p.table dd (wish_of p.table u))) (fifo_queue p.base (ending_object dd)) ≡ Some t → picked p.table dd (wish_of p.table t) ≡ Some id →
    serve_ending p dd ≡ Some (record p { base = release p.base t (claimed p.table (is_own (wish_of p.table t)) id); table = dropped p.table id })
unfolding serve_ending
ending_is_served p dd t id first is = ap (ending_of_first p dd) first ∙ ap (ending_claimed p t) is
