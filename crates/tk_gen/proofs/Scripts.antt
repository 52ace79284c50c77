-- A generated script is one that the machine can run.
use Rattle.std.proofs.Common.{ℕ, ◌≡◌, ◌∷◌, [], List, refl, ap, arith}
use Rattle.std.specs.Prelude.{None}
use Rattle.std.proofs.lemmas.List.Elements.{All-cons, All-nil}
use Rattle.tk_types.specs.declared.script.Device.{Device}
use Rattle.tk_types.specs.declared.script.Script.{Script}
use Rattle.kernel_model.specs.Bodies.Statements.{IsRunnable}
use Rattle.dev_layer.specs.Links.{IsKind}
use Rattle.dev_layer.specs.Tables.{AreDevices}
use Rattle.machine_model.specs.Runs.Generator.{draws, generated}
use Rattle.tk_gen.specs.Objects.{bodies_of, the_device}

pub devices_are : (number : ℕ) → (generated number).devices ≡ the_device ∷ []
unfolding generated
devices_are number = refl

pub runnable : (number : ℕ) → IsRunnable (generated number)
unfolding generated
runnable number = record { few_devices = omega arith; least_priority = omega arith; most_priority = omega arith }

pub valid_devices : (number : ℕ) → AreDevices (generated number).devices
unfolding generated
valid_devices number = record {
  few = omega arith;
  kinds = All-cons (λ (device : Device). IsKind device.kind) the_device [] (omega arith) (All-nil (λ (device : Device). IsKind device.kind));
}

pub generated_is : (number : ℕ) (list : List ℕ) → list ≡ draws 8100 number →
    let script : Script = record { devices = the_device ∷ []; pace = None; irqs = []; boot = record { body = 1; priority = 120 }; bodies = bodies_of list } in
    script ≡ generated number
unfolding generated
generated_is number list is =
    ap (λ (l : List ℕ). let script : Script = record { devices = the_device ∷ []; pace = None; irqs = []; boot = record { body = 1; priority = 120 }; bodies = bodies_of l } in script) is
