use Rattle.std.proofs.Common.{◌∙◌, sym}
use Rattle.machine_model.specs.Events.Follow.{with_releases}
use Rattle.tk_kernel.specs.contracts.kernel.Kernel.{the_view}
use Rattle.step_lemmas.proofs.Following.{followed_more, followed_all, fewer_left}
use Rattle.tk_kernel.proofs.kernel.Kernel.follow_releases.Goals as goal

pub releases-smaller : goal.releases-smaller
releases-smaller c =
    fewer_left c.args.script.now c.args.step (the_view c.self.inside) c.releases.self c.follow_release.new.self c.next_release.new.self c.in-Some.ended
    c.self.view_is (sym c.in-Some.ensures.first) c.next_release.ensures.taken c.in_ok-follow_release.ensures.state

pub releases-preserved : goal.releases-preserved
releases-preserved c =
    followed_more c.args.script.now c.args.step (the_view c.self.inside) c.releases.self c.follow_release.new.self c.next_release.new.self c.in-Some.ended c.releases.lines.items c.follow_release.new.lines.items
    (with_releases c.args.script.now c.args.step c.args.self.now) _
    c.self.view_is (sym c.in-Some.ensures.first) c.next_release.ensures.taken c.in_ok-follow_release.ensures.state c.in_ok-follow_release.ensures.lines
    c.releases.invariant.state c.releases.invariant.lines

pub returns-clause-state : goal.returns-clause-state
returns-clause-state c =
    (followed_all c.args.script.now c.args.step (the_view c.self.inside) c.releases.self c.next_release.new.self c.releases.lines.items
    (with_releases c.args.script.now c.args.step c.args.self.now) _
    c.self.view_is (sym c.next_release.ensures.first ∙ c.in_default.is) c.next_release.ensures.taken c.releases.invariant.state c.releases.invariant.lines).state

pub returns-clause-lines : goal.returns-clause-lines
returns-clause-lines c =
    (followed_all c.args.script.now c.args.step (the_view c.self.inside) c.releases.self c.next_release.new.self c.releases.lines.items
    (with_releases c.args.script.now c.args.step c.args.self.now) _
    c.self.view_is (sym c.next_release.ensures.first ∙ c.in_default.is) c.next_release.ensures.taken c.releases.invariant.state c.releases.invariant.lines).lines
