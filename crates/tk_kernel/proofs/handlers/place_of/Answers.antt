use Rattle.std.proofs.lemmas.Option.{slice_get-get_or}
use Rattle.step_lemmas.proofs.Pending.{passes_one}
use Rattle.tk_kernel.proofs.handlers.place_of.Goals as goal

pub places-preserved : goal.places-preserved
places-preserved c =
    passes_one c.args.number c.args.pending.now c.places.place _ (slice_get-get_or c.args.pending.now c.places.place 0 c.places-test.true) c.if-pending-place.false c.places.invariant
