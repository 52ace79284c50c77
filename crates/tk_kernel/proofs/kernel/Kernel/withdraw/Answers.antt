use Rattle.std.proofs.Common.{◌≡◌, rules, not}
use Rattle.std.proofs.lemmas.Fn.{filter_same}
use Rattle.tk_types.specs.declared.task.Event.{Event}
use Rattle.tk_types.specs.declared.task.Event.TheVariants.{Alarm, Cyclic}
use Rattle.kernel_model.specs.Words.Checks.{natural}
use Rattle.context_model.specs.Clocks.Tables.{is_event}
use Rattle.step_lemmas.proofs.Pending.{withdraws_alarm, withdraws_cyclic}
use Rattle.tk_kernel.proofs.kernel.Kernel.withdraw.Goals as goal

pub returns-in-DelCyc : goal.returns-in-DelCyc
returns-in-DelCyc c =
    let left = filter_same _ (λ (what : Event). not (is_event (Cyclic c.natural-id.result) what)) _ (λ what b after call. search rules) _ _ c.retain.ensures.filtered in
    let at : c.natural-id.result ≡ natural c.in-DelCyc.id = search rules in
    withdraws_cyclic c.args.self.now _ c.args.call.now c.in-DelCyc.id c.natural-id.result _ c.self.view_is c.in-DelCyc.is at left

pub returns-in-DelAlm : goal.returns-in-DelAlm
returns-in-DelAlm c =
    let left = filter_same _ (λ (what : Event). not (is_event (Alarm c.natural-id-in-DelAlm.result) what)) _ (λ what b after call. search rules) _ _ c.retain-in-DelAlm.ensures.filtered in
    let at : c.natural-id-in-DelAlm.result ≡ natural c.in-DelAlm.id = search rules in
    withdraws_alarm c.args.self.now _ c.args.call.now c.in-DelAlm.id c.natural-id-in-DelAlm.result _ c.self.view_is c.in-DelAlm.is at left
