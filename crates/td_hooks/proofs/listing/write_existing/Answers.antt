use Rattle.std.proofs.Common.{◌≡◌, ◌-◌, ◌≤◌, ℕ, Bool, arith, length, sym, ◌∙◌}
use Rattle.td_hooks.specs.Kinds.{exists, greatest}
use Rattle.td_hooks.specs.Seen.{seen}
use Rattle.td_hooks.proofs.Written.{AreListed, all_listed, none_listed, one_listed, other_listed}
use Rattle.td_hooks.proofs.listing.write_existing.Goals as goal
use Rattle.td_hooks.proofs.listing.write_existing.Goals.{else-exists, then-exists}

pub ids-init : goal.ids-init
ids-init c = record {
  listed = none_listed (exists (seen c.args.base.now c.args.views.now) c.args.kind) c.args.memory.now c.args.place.address c.args.place.most;
  few = omega arith;
}

pub ids-preserved : goal.ids-preserved
ids-preserved c =
    let passes : ℕ → Bool = exists (seen c.args.base.now c.args.views.now) c.args.kind in
    let inside : c.args.place.address ≤ length c.args.memory.now = let ends = c.requires.ends in let whole = c.requires.whole in omega (arith, ends, whole) in
    let few = c.ids.invariant.few in
    elim c.if-exists.branch [
      | then-exists w ↦ rw (w.memory-is, w.count-is) (record {
        listed = one_listed passes c.args.memory.now c.ids.memory w.write_id.new.memory c.args.place.address c.args.place.most c.ids.count c.ids.id c.ids.auto.id (sym c.exists.ensures ∙ w.if-exists.true) inside w.write_id.ensures c.ids.invariant.listed;
        few = omega (arith, few);
      })
      | else-exists w ↦ rw (w.memory-is, w.count-is) (record {
        listed = other_listed passes c.args.memory.now c.ids.memory c.args.place.address c.args.place.most c.ids.count c.ids.id c.ids.auto.id (sym c.exists.ensures ∙ w.if-exists.false) c.ids.invariant.listed;
        few = omega (arith, few);
      })
    ]

ended : (c : goal.After-ids) → AreListed (exists (seen c.args.base.now c.args.views.now) c.args.kind) c.args.memory.now c.ids.memory c.args.place.address c.args.place.most c.ids.count (greatest c.args.kind)
ended c =
    let end : c.ids.id - 1 ≡ greatest c.args.kind = let last = c.ids-test.false in let most = c.ids.auto.id-end in let is = c.greatest.ensures in let low = c.greatest.type_inv in omega (arith, last, most (omega arith), is) in
    all_listed (exists (seen c.args.base.now c.args.views.now) c.args.kind) c.args.memory.now c.ids.memory c.args.place.address c.args.place.most c.ids.count c.ids.id (greatest c.args.kind) end c.ids.invariant.listed

pub returns-clause-count : goal.returns-clause-count
returns-clause-count c = (ended c).counted

pub returns-clause-written : goal.returns-clause-written
returns-clause-written c = (ended c).written
