-- What is known of the table of devices at every time, and of a machine's scripts.
use Rattle.std.specs.Prelude.{◌≡◌, ◌≤◌, None, length}
use Rattle.device_model.specs.Devices.Tables.{link_at}
use Rattle.machine_lemmas.proofs.KnownDevices.{AreKnown}
use Rattle.machine_model.specs.States.State.{State}

-- there are at most eight devices and none has the ID 0; what is opened is a device, and a wish is of a descriptor
pub record HasDevices (st : State) : Type 0 where
  pub few : length st.objects.devices.links ≤ 9
  pub unnamed : link_at st.objects.devices 0 ≡ None
  pub known : AreKnown st.objects.devices
