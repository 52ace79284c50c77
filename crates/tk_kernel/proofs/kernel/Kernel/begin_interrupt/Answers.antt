use Rattle.std.proofs.Common.{◌≡◌, ◌++◌, subst, rules, not, ◌==◌, ℕ}
use Rattle.std.specs.Prelude.{OnOk}
use Rattle.std.proofs.lemmas.Fn.{filter_same}
use Rattle.machine_model.specs.Events.Follow.{Event}
use Rattle.step_lemmas.proofs.Pending.{interrupt_begins}
use Rattle.tk_kernel.proofs.kernel.Kernel.begin_interrupt.Goals as goal

pub returns-clause-state : goal.returns-clause-state
returns-clause-state c =
    let left = filter_same _ (λ (other : ℕ). not (other == c.args.number)) _ (λ other b after call. search rules) _ _ c.retain.ensures.filtered in
    let same = interrupt_begins c.args.step c.args.self.now _ c.args.number c.unwrap_or-body.result _ c.handler.result c.self.view_is left c.handler.ensures.found c.unwrap_or-body.ensures in
    subst (λ (event : Event). OnOk c.begin_handler.result (c.begin_handler.new.self ≡ event.state)) same c.begin_handler.ensures.state

pub returns-clause-lines : goal.returns-clause-lines
returns-clause-lines c =
    let left = filter_same _ (λ (other : ℕ). not (other == c.args.number)) _ (λ other b after call. search rules) _ _ c.retain.ensures.filtered in
    let same = interrupt_begins c.args.step c.args.self.now _ c.args.number c.unwrap_or-body.result _ c.handler.result c.self.view_is left c.handler.ensures.found c.unwrap_or-body.ensures in
    subst (λ (event : Event). OnOk c.begin_handler.result (c.begin_handler.new.lines.items ≡ c.args.lines.now.items ++ event.lines)) same c.begin_handler.ensures.lines
