use Rattle.std.proofs.Common.{sym, subst}
use Rattle.kernel_model.specs.Tasks.Base.{Base}
use Rattle.dev_layer.specs.Parts.{AreFit}
use Rattle.dev_layer.proofs.Posting.{released_fit}
use Rattle.dev_layer.proofs.suspending.serve_suspension.Goals as goal

pub send_events-requires : goal.send_events-requires
send_events-requires c = record { fit = subst (λ (b : Base). AreFit b c.args.mails.now) (sym c.release.ensures) (released_fit c.args.base.now c.args.mails.now c.in-Some.task c.plain.result c.requires.fit) }
