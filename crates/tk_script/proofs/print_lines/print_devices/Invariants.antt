-- What is printed, and the lines that are left, are all lines.
use Rattle.std.proofs.Common.{◌≡◌, ◌++◌, map, drop}
use Rattle.tk_model.specs.ScriptText.{device_words}
use Rattle.tk_script.specs.Words.{lines_text}
use Rattle.tk_script.proofs.print_lines.print_devices.Given as goal

abbrev pub invariant-devices : goal.invariant-devices
invariant-devices l = l.out.items ++ lines_text (map device_words (drop l.device-index l.devices)) ≡ l.fn.out.items ++ lines_text (map device_words l.devices)
