use Rattle.std.proofs.Common.{arith, ◌≡◌, ℕ, true, false, not}
use Rattle.std.proofs.lemmas.Bool.Decides.{nat_tests}
use Rattle.std.specs.Bool.{◌==◌}
use Rattle.std.proofs.lemmas.List.Filters.{FiltersInPlace-more_set, FiltersInPlace-more_no}
use Rattle.dev_layer.proofs.ids.take_out.Goals as goal
use Rattle.dev_layer.proofs.ids.take_out.Goals.{then-other-id, else-other-id}

kept : (other id : ℕ) → (other ≡ id → ⊥) → not (other == id) ≡ true
kept other id differs = grind (arith, nat_tests)

left_out : (other id : ℕ) → other ≡ id → not (other == id) ≡ false
left_out other id same = grind (arith, nat_tests)

pub places-preserved : goal.places-preserved
places-preserved c =
    elim c.if-other-id.branch [
      | then-other-id w ↦ rw (w.list-is, w.kept-is) (FiltersInPlace-more_set c.places.invariant (omega arith) (kept _ _ w.if-other-id.true) c.index-other.ensures)
      | else-other-id w ↦ rw (w.list-is, w.kept-is) (FiltersInPlace-more_no c.places.invariant (omega arith) (left_out _ _ w.if-other-id.false) c.index-other.ensures)
    ]
