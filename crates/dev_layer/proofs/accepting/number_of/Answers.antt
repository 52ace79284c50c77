use Rattle.std.proofs.Common.{sym, ◌∙◌, rules}
use Rattle.dev_layer.proofs.Bytes.{number_four}
use Rattle.dev_layer.proofs.accepting.number_of.Goals as goal

pub returns : goal.returns
returns c = search rules ∙ sym (number_four c.args.four.now c.requires)
