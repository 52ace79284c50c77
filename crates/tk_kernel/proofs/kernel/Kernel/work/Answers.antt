use Rattle.std.proofs.Common.{ap, arith, length, ◌≡◌}
use Rattle.kernel_model.specs.Tasks.Base.{Base}
use Rattle.step_lemmas.proofs.Still.{done_sound, pending_at_rest, pending_base, pending_sound, rest_lines, rest_state, work_lines, work_state}
use Rattle.tk_kernel.proofs.kernel.Kernel.work.Goals as goal

pub do_turn-requires-clause-few : goal.do_turn-requires-clause-few
do_turn-requires-clause-few c =
    let same = pending_base c.args.script.now c.args.step c.args.self.now c.make_pending.new.self c.in_ok-make_pending.ensures in
    let made : c.make_pending.new.self.base.made ≡ c.args.self.now.base.made = ap (λ (b : Base). b.made) same in
    let events : length c.make_pending.new.self.base.events ≡ length c.args.self.now.base.events = ap (λ (b : Base). length b.events) same in
    let few = c.requires.few in
    omega (arith, made, events, few)

pub do_turn-requires-clause-early : goal.do_turn-requires-clause-early
do_turn-requires-clause-early c =
    let time : c.make_pending.new.self.base.time ≡ c.args.self.now.base.time = ap (λ (b : Base). b.time) (pending_base c.args.script.now c.args.step c.args.self.now c.make_pending.new.self c.in_ok-make_pending.ensures) in
    let early = c.requires.early in
    omega (arith, time, early)

pub do_turn-requires-clause-sound : goal.do_turn-requires-clause-sound
do_turn-requires-clause-sound c = pending_sound c.args.script.now c.args.step c.args.self.now c.make_pending.new.self c.requires.sound c.in_ok-make_pending.ensures

pub do_turn-requires-clause-rest : goal.do_turn-requires-clause-rest
do_turn-requires-clause-rest c = pending_at_rest c.args.script.now c.args.mode c.args.step c.args.self.now c.make_pending.new.self c.requires.rest c.in_ok-make_pending.ensures

pub follow-requires : goal.follow-requires
follow-requires c = record {
  sound = done_sound c.args.script.now c.args.mode c.args.step c.args.self.now c.make_pending.new.self c.do_turn.new.self c.turn-turn.result c.known_of_tasks.ensures.places c.known_of_tasks.ensures.whole c.known_of_tasks.ensures.devices c.requires.sound
      c.in_ok-make_pending.ensures c.turn-turn.ensures c.in_ok-follows.ensures.state;
}

pub returns-then-not-follows-clause-state : goal.returns-then-not-follows-clause-state
returns-then-not-follows-clause-state c =
    rest_state c.args.script.now c.args.mode c.args.step c.args.self.now c.make_pending.new.self c.do_turn.new.self c.turn-turn.result (c.in_ok-follows.ensures.rest c.if-not-follows.true) c.in_ok-make_pending.ensures c.turn-turn.ensures
    c.in_ok-follows.ensures.state

pub returns-then-not-follows-clause-lines : goal.returns-then-not-follows-clause-lines
returns-then-not-follows-clause-lines c =
    rest_lines c.args.script.now c.args.mode c.args.step c.args.self.now c.make_pending.new.self c.do_turn.new.self c.turn-turn.result c.args.lines.now.items _ (c.in_ok-follows.ensures.rest c.if-not-follows.true) c.in_ok-make_pending.ensures
    c.turn-turn.ensures c.in_ok-follows.ensures.state c.in_ok-follows.ensures.lines

pub returns-clause-state : goal.returns-clause-state
returns-clause-state c =
    work_state c.args.script.now c.args.mode c.args.step c.args.self.now c.make_pending.new.self c.do_turn.new.self c.follow.new.self c.turn-turn.result c.in_ok-make_pending.ensures c.turn-turn.ensures c.in_ok-follows.ensures.state
    c.in_ok-follow.ensures.state

pub returns-clause-lines : goal.returns-clause-lines
returns-clause-lines c =
    work_lines c.args.script.now c.args.mode c.args.step c.args.self.now c.make_pending.new.self c.do_turn.new.self c.turn-turn.result c.args.lines.now.items _ _ c.in_ok-make_pending.ensures c.turn-turn.ensures c.in_ok-follows.ensures.state
    c.in_ok-follows.ensures.lines c.in_ok-follow.ensures.lines
