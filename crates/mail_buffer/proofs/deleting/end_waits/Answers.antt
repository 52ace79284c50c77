use mir.Val.{to_z, of_z}
use mir.Syntax.{w32}
use Rattle.std.proofs.Common.{◌≡◌, ◌-◌, rules, arith, ap, sym, ◌∙◌, subst}
use Rattle.tk_types.specs.declared.error_code.Er.TheVariants as er
use Rattle.tk_types.specs.Codes.{code_of}
use Rattle.kernel_model.specs.Tasks.Base.{Base, release}
use Rattle.kernel_model.specs.Words.Checks.{plain}
use Rattle.kernel_model.specs.Tasks.Queues.{AreOfOrder}
use Rattle.mail_buffer.proofs.Ending.{release_alike, ended_more, ended_all, ended_early}
use Rattle.mail_buffer.proofs.deleting.end_waits.Goals as goal

pub waiters-preserved : goal.waiters-preserved
waiters-preserved c =
    let code : to_z w32 (of_z w32 c.main_code.result) ≡ code_of er.Dlt = search rules in
    let moved : c.release.new.self ≡ release c.waiters.base c.in-Some.task (plain (code_of er.Dlt)) = c.release.ensures ∙ ap (release c.waiters.base c.in-Some.task) (c.plain.ensures ∙ ap plain code) in
    record {
      all = ended_more c.waiter_count-count.result c.waiters._ended c.args.order c.args.obj c.in-Some.task c.waiters.base c.release.new.self _ (omega arith) (sym c.in-Some.ensures) moved c.waiters.invariant.all;
      alike = subst (λ (b : Base). AreOfOrder c.args.order b c.args.obj) (sym c.release.ensures) (release_alike c.args.order c.waiters.base c.in-Some.task c.args.obj c.plain.result c.waiters.invariant.alike);
    }

pub returns : goal.returns
returns c = ended_all c.waiter_count-count.result c.waiters._ended c.args.order c.args.obj c.waiters.base _ (omega arith) c.waiters.invariant.all

pub returns-in_default : goal.returns-in_default
returns-in_default c = ended_early (c.waiter_count-count.result - c.waiters._ended) c.args.order c.args.obj c.waiters.base _ (sym c.waiter.ensures ∙ c.in_default.is) c.waiters.invariant.all
