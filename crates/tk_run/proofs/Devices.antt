-- The devices of a script that a text spells are in range.
use Rattle.std.proofs.Common.{ℕ, List, [], ◌∷◌}
use Rattle.std.specs.List.{All, AllByRecursion}
use Rattle.std.proofs.lemmas.List.Elements.{All-cons, All-nil}
use Rattle.tk_types.specs.declared.script.Device.{Device}
use Rattle.tk_types.specs.declared.script.Kind.{Kind}
use Rattle.tk_types.specs.declared.script.Kind.TheVariants.{Ram, Log, Flaky, Slow}
use Rattle.tk_types.specs.declared.script.Script.{Script}
use Rattle.tk_model.specs.ScriptText.{FitsUnit, IsDevice, Spells}
use Rattle.dev_layer.specs.Links.{IsKind}
use Rattle.dev_layer.specs.Tables.{AreDevices}

unit_fits : (kind : Kind) → FitsUnit kind → IsKind kind
unfolding FitsUnit
unit_fits (Ram size) fits = fits.1
unit_fits Log fits = tt
unit_fits (Flaky size each) fits = (fits.0.1, fits.1.0)
unit_fits (Slow size turns) fits = fits.0.1

kinds_fit : (devices : List Device) → AllByRecursion IsDevice devices → All (λ (device : Device). IsKind device.kind) devices
kinds_fit [] all = All-nil (λ (device : Device). IsKind device.kind)
kinds_fit (device ∷ devices) all = All-cons (λ (device : Device). IsKind device.kind) device devices (unit_fits device.kind all.0.unit) (kinds_fit devices all.1)

pub spelled_devices : (text : List ℕ) (script : Script) → Spells text script → AreDevices script.devices
spelled_devices text script is = record { few = is.script_is.few_devices; kinds = kinds_fit script.devices is.script_is.devices }
