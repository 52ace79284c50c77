use Rattle.std.proofs.Common.{◌≡◌, ◌≤◌, ℕ, drop}
use Rattle.std.specs.List.{fold}
use Rattle.kernel_model.specs.Words.Orders.{entry, taken_from}
use Rattle.device_model.specs.Devices.Calls.{dropped_if, requests_dropped}
use Rattle.dev_layer.proofs.closing.drop_requests.Given as goal

-- what is left to drop comes to what all comes to, and the requests that are left are as they were
abbrev pub invariant-requests : goal.invariant-requests
invariant-requests l = record {
  all : fold (dropped_if l.descriptor) l.table (taken_from l.id (drop l.id l.fn.table.rows)) ≡ requests_dropped l.fn.table l.descriptor;
  same : (n : ℕ) → l.id ≤ n → entry l.table.rows n ≡ entry l.fn.table.rows n;
}
