use Rattle.std.proofs.Common.{length}
use Rattle.tk_script.proofs.resolving.+args_from.Given as goal

abbrev pub decreases-args_from : goal.decreases-args_from
decreases-args_from l = length l.form.now
