use Rattle.std.proofs.Common.{sym, ◌∙◌}
use Rattle.dev_layer.specs.Parts.{parts_of}
use Rattle.dev_layer.proofs.WaitChecks.{claims}
use Rattle.dev_layer.proofs.waiting.claim_or_wait.Goals as goal

pub returns-in-Some : goal.returns-in-Some
returns-in-Some c = λ mails memory.
    claims (parts_of c.args.base.now c.args.table.now mails memory) c.args.task c.args.descriptor c.in-Some.id c.args.timeout c.args.wish (sym c.picked.ensures ∙ c.in-Some.is)
    ∙ c.claim.ensures c.args.base.now mails memory
