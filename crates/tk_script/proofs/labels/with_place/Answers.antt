-- A name that the map doesn't have.
use Rattle.std.proofs.Common.{◌∙◌, sym, rules}
use Rattle.tk_script.proofs.LabelPlaces.{name_new}
use Rattle.tk_script.proofs.labels.with_place.Goals as goal

pub returns : goal.returns
returns c = name_new c.args.places c.insert.new.self c.in_ok-bytes.bytes c.args.name.now c.args.place (sym c.contains_key.ensures ∙ c.if-contains_key.false) (search rules) c.in_ok-insert.ensures.updates
