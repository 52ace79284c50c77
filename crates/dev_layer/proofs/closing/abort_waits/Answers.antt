use mir.Val.{to_z, of_z}
use mir.Syntax.{w32}
use Rattle.std.proofs.Common.{◌≡◌, ◌+◌, ◌-◌, ap, sym, ◌∙◌, rules, subst}
use Rattle.tk_types.specs.declared.error_code.Er.TheVariants as er
use Rattle.tk_types.specs.Codes.{code_of}
use Rattle.kernel_model.specs.Words.Checks.{plain}
use Rattle.kernel_model.specs.Tasks.Base.{Base, release}
use Rattle.device_model.specs.Devices.Calls.{aborted, wish_is_of}
use Rattle.device_model.specs.Devices.Tables.{wish_of}
use Rattle.dev_layer.specs.Parts.{AreQueued}
use Rattle.dev_layer.proofs.Aborting.{all_aborted, fewer_wait, made_kept, one_aborted, still_queued, time_kept}
use Rattle.dev_layer.proofs.closing.abort_waits.Goals as goal

pub waits-smaller : goal.waits-smaller
waits-smaller c =
    let code : to_z w32 (of_z w32 c.main_code.result) ≡ code_of er.Abort = search rules in
    let moved : c.release.new.self ≡ aborted c.waits.base c.in-Some.task = c.release.ensures ∙ ap (release c.waits.base c.in-Some.task) (c.plain.ensures ∙ ap plain code) in
    fewer_wait (584 + (c.args.descriptor - 1)) (575 + c.args.device) (λ t. wish_is_of c.args.descriptor (wish_of c.args.table.now t)) c.waits.base c.release.new.self c.in-Some.task (sym c.first_on.ensures ∙ c.in-Some.is) moved

pub waits-preserved : goal.waits-preserved
waits-preserved c =
    let code : to_z w32 (of_z w32 c.main_code.result) ≡ code_of er.Abort = search rules in
    let moved : c.release.new.self ≡ aborted c.waits.base c.in-Some.task = c.release.ensures ∙ ap (release c.waits.base c.in-Some.task) (c.plain.ensures ∙ ap plain code) in
    record {
      all = one_aborted (584 + (c.args.descriptor - 1)) (575 + c.args.device) (λ t. wish_is_of c.args.descriptor (wish_of c.args.table.now t)) c.waits.base c.release.new.self _ c.in-Some.task (sym c.first_on.ensures ∙ c.in-Some.is) moved c.waits.invariant.all;
      queued = subst AreQueued (sym c.release.ensures) (still_queued c.waits.base c.in-Some.task c.plain.result c.waits.invariant.queued);
      made = ap (λ (b : Base). b.made) c.release.ensures ∙ made_kept c.waits.base c.in-Some.task c.plain.result ∙ c.waits.invariant.made;
      time = ap (λ (b : Base). b.time) c.release.ensures ∙ time_kept c.waits.base c.in-Some.task c.plain.result ∙ c.waits.invariant.time;
    }

pub returns-clause-aborted : goal.returns-clause-aborted
returns-clause-aborted c =
    all_aborted (584 + (c.args.descriptor - 1)) (575 + c.args.device) (λ t. wish_is_of c.args.descriptor (wish_of c.args.table.now t)) c.waits.base _ (sym c.first_on.ensures ∙ c.in_default.is) c.waits.invariant.all
