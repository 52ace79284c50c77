use Rattle.std.proofs.Common.{ap}
use Rattle.unit_laws.proofs.Blocks.{blocks_whole, blocks_cut, last_known}
use Rattle.unit_laws.proofs.laws.blocks_are_the_whole_request.Goals as goal

pub returns-clause-whole_store : goal.returns-clause-whole_store
returns-clause-whole_store c kind store request k whole before all = ap (λ so_far. so_far.store) (blocks_whole kind store request k whole before all)

pub returns-clause-whole_content : goal.returns-clause-whole_content
returns-clause-whole_content c kind store request k whole before all = ap (λ so_far. so_far.content) (blocks_whole kind store request k whole before all)

pub returns-clause-cut_store : goal.returns-clause-cut_store
returns-clause-cut_store c kind store request k whole most = ap (λ so_far. so_far.store) (blocks_cut kind store request k whole most)

pub returns-clause-cut_content : goal.returns-clause-cut_content
returns-clause-cut_content c kind store request k whole most = ap (λ so_far. so_far.content) (blocks_cut kind store request k whole most)

pub returns-clause-last : goal.returns-clause-last
returns-clause-last c = last_known
