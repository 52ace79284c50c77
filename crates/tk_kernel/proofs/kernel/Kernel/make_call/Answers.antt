use Rattle.step_lemmas.proofs.Endings.{call_sound, ended_small, told_lines}
use Rattle.tk_kernel.proofs.kernel.Kernel.make_call.Goals as goal

pub end_holdings-requires : goal.end_holdings-requires
end_holdings-requires c = record {
  sound = call_sound c.args.self.now c.family_call.new.self c.args.actor c.args.call.now _ c.known_of_tasks.ensures.places c.known_of_tasks.ensures.whole c.known_of_tasks.ensures.devices c.requires.sound c.in_ok-outcome.ensures;
  task = ended_small c.args.self.now c.family_call.new.self c.args.actor c.args.call.now _ c.ranges.actor.fits c.in_ok-outcome.ensures;
}

pub returns-clause-lines : goal.returns-clause-lines
returns-clause-lines c =
    told_lines c.args.mode c.args.step c.args.self.now c.family_call.new.self c.args.actor c.args.call.now _ c.name.result c.hooks-is_hooked.result c.args.lines.now.items _ c.hooks-is_hooked.ensures c.in_ok-outcome.ensures c.name.ensures
    c.in_ok-push_call_line.ensures
