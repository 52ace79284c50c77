use Rattle.std.proofs.Common.{ap, arith, length, map, sym, ◌∙◌, ◌≡◌, ◌≤◌}
use Rattle.std.specs.Prelude.{◌-◌}
use Rattle.std.specs.List.{slice_index_or}
use Rattle.std.proofs.lemmas.List.{length-map}
use Rattle.rtrb.specs.Ring.{received as popped}
use Rattle.dev_drivers.specs.Links.{of_device}
use Rattle.fleet_model.specs.Fleets.{counted}
use Rattle.fleet_model.specs.Records.{Joined, Record, joined_in}
use Rattle.dev_drivers.specs.Closings.{joined_of}
use Rattle.dev_drivers.proofs.Fleets.{joined_at, many_joined}
use Rattle.dev_drivers.proofs.record.FleetRecord.counts.Goals as goal

pub returns-clause-handed : goal.returns-clause-handed
returns-clause-handed c = λ joined is.
    let there : c.args.device ≤ length c.self.inside.kept.items = omega (arith, c.requires.last, ap (λ (r : Record). length r.channels) c.self.view_is, many_joined c.self.inside.kept.items) in
    let at = joined_at c.self.inside.kept.items c.args.device c.index.result.now joined c.requires.first there
    (c.index.ensures ∙ ap (λ n. slice_index_or c.self.inside.kept.items (n - 1) c.index.result.now) c.from.ensures)
    (ap (λ (r : Record). joined_in r.channels c.args.device) c.self.view_is ∙ is) in
    c.index.result.now.handed ∙ ap (λ (j : Joined). counted (length j.handed)) (sym at)

pub returns-clause-taken : goal.returns-clause-taken
returns-clause-taken c = λ joined is.
    let there : c.args.device ≤ length c.self.inside.kept.items = omega (arith, c.requires.last, ap (λ (r : Record). length r.channels) c.self.view_is, many_joined c.self.inside.kept.items) in
    let at = joined_at c.self.inside.kept.items c.args.device c.index.result.now joined c.requires.first there
    (c.index.ensures ∙ ap (λ n. slice_index_or c.self.inside.kept.items (n - 1) c.index.result.now) c.from.ensures)
    (ap (λ (r : Record). joined_in r.channels c.args.device) c.self.view_is ∙ is) in
    c.index.result.now.taken ∙ ap (λ (j : Joined). counted (length j.taken)) (sym at)

pub returns-clause-sent : goal.returns-clause-sent
returns-clause-sent c = λ joined is.
    let there : c.args.device ≤ length c.self.inside.kept.items = omega (arith, c.requires.last, ap (λ (r : Record). length r.channels) c.self.view_is, many_joined c.self.inside.kept.items) in
    let at = joined_at c.self.inside.kept.items c.args.device c.index.result.now joined c.requires.first there
    (c.index.ensures ∙ ap (λ n. slice_index_or c.self.inside.kept.items (n - 1) c.index.result.now) c.from.ensures)
    (ap (λ (r : Record). joined_in r.channels c.args.device) c.self.view_is ∙ is) in
    c.index.result.now.sent ∙ ap (λ (j : Joined). counted (length j.sent)) (sym at)

pub returns-clause-received : goal.returns-clause-received
returns-clause-received c = λ joined is.
    let there : c.args.device ≤ length c.self.inside.kept.items = omega (arith, c.requires.last, ap (λ (r : Record). length r.channels) c.self.view_is, many_joined c.self.inside.kept.items) in
    let at = joined_at c.self.inside.kept.items c.args.device c.index.result.now joined c.requires.first there
    (c.index.ensures ∙ ap (λ n. slice_index_or c.self.inside.kept.items (n - 1) c.index.result.now) c.from.ensures)
    (ap (λ (r : Record). joined_in r.channels c.args.device) c.self.view_is ∙ is) in
    c.index.result.now.received ∙ ap (λ n. counted n) (sym (length-map (popped c.index.result.now.from) (of_device c.index.result.now.device))) ∙ ap (λ (j : Joined). counted (length j.received)) (sym at)
