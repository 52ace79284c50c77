-- Where an ending is needed, the machine is ready for it.
use Rattle.tk_run.proofs.FedTurns.{needed_ready, was_needed}
use Rattle.tk_run.proofs.replay_turn.sync_turn.Goals as goal

pub feed-requires : goal.feed-requires
feed-requires c =
    record { ready = needed_ready _ _ c.requires.ready (was_needed _ _ _ c.requires.ready.going c.in_ok-step.ensures.stepped c.in_ok-step.ensures.pace c.in-NeedsEnding.is) }
