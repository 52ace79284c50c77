use Rattle.std.proofs.Common.{ap}
use Rattle.unit_laws.proofs.Cuts.{cut_is_shorter, cut_none, cut_reads}
use Rattle.unit_laws.proofs.laws.a_cut_request_is_a_front_of_it.Goals as goal

pub returns-clause-store : goal.returns-clause-store
returns-clause-store c kind store request m some most = ap (λ so_far. so_far.store) (cut_is_shorter kind store request m some most)

pub returns-clause-content : goal.returns-clause-content
returns-clause-content c = cut_reads

pub returns-clause-beginning : goal.returns-clause-beginning
returns-clause-beginning c = cut_none
