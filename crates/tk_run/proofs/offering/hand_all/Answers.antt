use Rattle.std.proofs.Common.{[], length, arith}
use Rattle.tk_run.proofs.Handing.{handing_ends, handing_goes, handing_place, handing_starts, handing_whole}
use Rattle.tk_run.proofs.offering.hand_all.Goals as goal

pub messages-init : goal.messages-init
messages-init g c = handing_starts _ _ _ _ c.requires.places c.requires.told c.into_iter-message-iterator.ensures.into_iter_gives.0

pub hand-requires-clause-place : goal.hand-requires-clause-place
hand-requires-clause-place g c = handing_place _ _ _ _ _ _ _ c.messages.invariant c.in-Some.ensures.steps.0

pub hand-requires-clause-whole : goal.hand-requires-clause-whole
hand-requires-clause-whole g c = handing_whole _ _ _ _ _ _ _ c.messages.invariant c.in-Some.ensures.steps.0

pub messages-preserved : goal.messages-preserved
messages-preserved g c = handing_goes _ _ _ _ _ _ _ _ _ c.messages.invariant c.in-Some.ensures.steps.0 c.hand.ensures c.served_by-served.ensures

pub returns-clause-hands : goal.returns-clause-hands
returns-clause-hands g c = handing_ends _ _ _ _ _ c.messages.invariant (omega (arith, c.messages.message-iterator.rest.ok, c.in-None.ensures.steps.0))

pub returns-clause-told : goal.returns-clause-told
returns-clause-told g c = c.messages.invariant.served_is
