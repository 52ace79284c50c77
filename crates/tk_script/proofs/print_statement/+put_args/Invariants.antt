use Rattle.std.proofs.Common.{length}
use Rattle.tk_script.proofs.print_statement.+put_args.Given as goal

abbrev pub decreases-put_args : goal.decreases-put_args
decreases-put_args l = length l.form.now
