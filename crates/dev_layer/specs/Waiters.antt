-- What is looked for among those that wait.
use Rattle.std.specs.Prelude.{ℕ, Bool}
use Rattle.std.specs.Option.{is_some}
use Rattle.device_model.specs.Devices.Calls.{wants, wants_any, will_stay, wish_is_of}
use Rattle.device_model.specs.Devices.Requests.{picked}
use Rattle.device_model.specs.Devices.Tables.{Devices, wish_of}
use Rattle.dev_layer.specs.declared.waiters.Sought.{Sought}
use Rattle.dev_layer.specs.declared.waiters.Sought.TheVariants as sought

abbrev pub is_sought : Devices → Sought → ℕ → Bool
is_sought dv sought.AnyEnding t = wants_any (wish_of dv t)
is_sought dv (sought.EndingOf id) t = wants id (wish_of dv t)
is_sought dv (sought.Staying dd) t = will_stay dd (wish_of dv t)
is_sought dv (sought.Asking dd) t = wish_is_of dd (wish_of dv t)
is_sought dv (sought.Fulfilled dd) t = is_some (picked dv dd (wish_of dv t))
