-- The exact answer, by the laws of lists.
use Rattle.std.proofs.lemmas.List.{length-map}
use Rattle.tk_model.specs.Lists.{texts}
use Rattle.tk_text.proofs.ListLaws.{some_list, no_list}
use Rattle.tk_text.proofs.list.list_bits.Goals as goal

pub returns-clause-some : goal.returns-clause-some
returns-clause-some c = some_list (texts c.args.table.now) c.args.word.now c.bits_of_word.result c.bits_of_word.ensures.value

pub returns-clause-none : goal.returns-clause-none
returns-clause-none c =
    no_list (texts c.args.table.now) _ c.args.word.now c.bits_of_word.result (length-map c.args.table.now (λ word. word.now)) c.bits_of_word.ensures.value
