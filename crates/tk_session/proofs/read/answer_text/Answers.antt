-- The numbers of the journal's lines have room.
use Rattle.std.proofs.Common.{ap}
use Rattle.std.specs.Option.{option_map}
use Rattle.tk_text.specs.Sessions.{rest_of}
use Rattle.tk_text.specs.declared.session.Divider.TheVariants.{Journal}
use Rattle.tk_session.proofs.PartLaws.{session_room}
use Rattle.tk_session.proofs.read.answer_text.Goals as goal

pub with_journal-requires : goal.with_journal-requires
with_journal-requires c =
    session_room Journal c.args.text.now _ (rest_of c.in-Some-behind.behind) c.in-Some.ensures (ap (λ behind. option_map rest_of behind) c.in-Some-behind.is)
