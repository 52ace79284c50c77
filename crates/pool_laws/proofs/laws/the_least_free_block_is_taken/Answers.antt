use Rattle.pool_laws.proofs.Blocks.{none_free, least_free, taken_out, others_stay, taken_fewer, back_free}
use Rattle.pool_laws.proofs.laws.the_least_free_block_is_taken.Goals as goal

pub returns-clause-inside : goal.returns-clause-inside
returns-clause-inside c = λ k before is. (least_free k before is).0

pub returns-clause-free : goal.returns-clause-free
returns-clause-free c = λ k before is. (least_free k before is).1

pub returns-clause-least : goal.returns-clause-least
returns-clause-least c = λ k before other is. (least_free k before is).2 other

pub returns-clause-none : goal.returns-clause-none
returns-clause-none c = none_free

pub returns-clause-taken : goal.returns-clause-taken
returns-clause-taken c = taken_out

pub returns-clause-others : goal.returns-clause-others
returns-clause-others c = others_stay

pub returns-clause-fewer : goal.returns-clause-fewer
returns-clause-fewer c = taken_fewer

pub returns-clause-back : goal.returns-clause-back
returns-clause-back c = back_free
