use Rattle.std.proofs.Common.{◌==◌, not}
use Rattle.std.proofs.lemmas.List.Filters.{FiltersInPlace}
use Rattle.dev_layer.proofs.ids.take_out.Given as goal

-- what stands before `kept` is what was passed, without the ID
abbrev pub invariant-places : goal.invariant-places
invariant-places l = FiltersInPlace (λ other. not (other == l.id)) l.fn.list.items l.list.items l.kept l.place
