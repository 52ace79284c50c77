use Rattle.std.proofs.Common.{arith}
use Rattle.device_model.specs.Units.Function.{begin, count_of, cut, unit}
use Rattle.unit_laws.proofs.Cuts.{keeps_length, log_stays_below}
use Rattle.unit_laws.proofs.laws.stores_keep_their_bounds.Goals as goal

pub returns-clause-whole : goal.returns-clause-whole
unfolding unit
returns-clause-whole c kind store request whole other = keeps_length kind store request (count_of kind (begin store request) request) whole other (omega arith)

pub returns-clause-cut : goal.returns-clause-cut
unfolding cut
returns-clause-cut c kind store request m whole other most = keeps_length kind store request m whole other most

pub returns-clause-whole_log : goal.returns-clause-whole_log
unfolding unit
returns-clause-whole_log c kind store request whole below = log_stays_below kind store request (count_of kind (begin store request) request) whole below (omega arith)

pub returns-clause-cut_log : goal.returns-clause-cut_log
unfolding cut
returns-clause-cut_log c kind store request m whole below most = log_stays_below kind store request m whole below most
