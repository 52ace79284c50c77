use Rattle.std.proofs.Common.{set, ap, ◌∙◌, false}
use Rattle.priority_map.proofs.Flagged.{clear_flag}
use Rattle.priority_map.proofs.map.PriorityMap.clear.Goals as goal

pub returns-clause-flags : goal.returns-clause-flags
returns-clause-flags g c =
    clear_flag c.self.inside.words c.put.new.words c.args.priority c.look-word.result c.requires c.self.told c.look-word.ensures.word c.put.ensures.words ∙
    ap (λ flags. set flags c.args.priority false) c.self.view_is
