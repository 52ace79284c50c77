use Rattle.std.proofs.Common.{rules, not, ◌==◌, ℕ, ◌≡◌}
use Rattle.std.proofs.lemmas.Fn.{filter_same}
use Rattle.tk_types.specs.declared.calls.ContextCall.TheVariants as contexts
use Rattle.kernel_model.specs.Words.Checks.{natural}
use Rattle.step_lemmas.proofs.Pending.{undefines}
use Rattle.tk_kernel.proofs.kernel.Kernel.undefine.Goals as goal

pub returns-in-DefInt-default-eq0 : goal.returns-in-DefInt-default-eq0
returns-in-DefInt-default-eq0 c =
    let left = filter_same _ (λ (other : ℕ). not (other == c.natural-number.result)) _ (λ other b after call. search rules) _ _ c.retain.ensures.filtered in
    let is : c.args.call.now ≡ contexts.DefInt c.in-DefInt-default-eq0.number 0 = cc in
    let at : c.natural-number.result ≡ natural c.in-DefInt-default-eq0.number = search rules in
    undefines c.args.self.now _ c.args.call.now c.in-DefInt-default-eq0.number c.natural-number.result _ c.self.view_is is at left
