-- The numbers of the trace's lines have room.
use Rattle.std.proofs.Common.{ap}
use Rattle.std.specs.Option.{option_map}
use Rattle.tk_text.specs.Sessions.{rest_of}
use Rattle.tk_text.specs.declared.session.Divider.TheVariants.{Trace}
use Rattle.tk_session.proofs.PartLaws.{session_room}
use Rattle.tk_session.proofs.read_trace.answer_text.Goals as goal

pub with_trace-requires : goal.with_trace-requires
with_trace-requires c =
    session_room Trace c.args.text.now _ (rest_of c.in-Some-behind.behind) c.in-Some.ensures (ap (λ behind. option_map rest_of behind) c.in-Some-behind.is)
