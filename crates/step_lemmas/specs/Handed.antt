-- The table of devices once requests went to drivers at the end of a settling.
use Rattle.tk_types.specs.declared.run.Mode.{Mode}
use Rattle.tk_types.specs.declared.run.Mode.TheVariants.{Free, Sync}
use Rattle.kernel_model.specs.Tasks.Base.{Base}
use Rattle.device_model.specs.Devices.Handing.{hand_over}
use Rattle.device_model.specs.Devices.Tables.{Devices}

-- in free mode alone
abbrev pub handed_devices : Mode → Base → Devices → Devices
handed_devices Free b dv = hand_over b dv
handed_devices Sync b dv = dv
