use Rattle.std.proofs.Common.{[], ◌∷◌, ◌++◌, Err, ap, sym, ◌∙◌}
use Rattle.device_model.specs.declared.messages.Message.{Message}
use Rattle.tk_gen.proofs.OneDevice.{serves}
use Rattle.tk_gen.proofs.Turns.{arrival_fits, arrival_is, has_served, message_taken, now_is, popped_served}
use Rattle.tk_gen.proofs.running.ServedRun.serve.Goals as goal

pub count_lines-requires : goal.count_lines-requires
count_lines-requires c =
    let run = c.args.self.now in
    let popped = sym c.take_messages-messages.ensures.taken ∙ (c.in-Some-Serve.ensures.items ∙ ap (λ (m : Message). c.pop.new.self.items ++ m ∷ []) c.in-Some-Serve.field-0-is) in
    let served = popped_served run.machine.script run.machine.budget run c.pop.new.self.items c.in-Some-Serve.field-0-0 c.in-Some-Serve.request c.requires.waits popped in
    let it = serves run.machine.script run.machine.state run.driver c.in-Some-Serve.request served in
    arrival_fits run.machine.script run.machine.budget run.machine.state run.driver c.in-Some-Serve.request run.counts c.arrive.new.self it c.requires.room
    (now_is run.machine.script run.machine.budget run.machine.state run.driver c.in-Some-Serve.request _ c.served-ending.result c.take_messages-messages.new.self c.arrive.new.self it
    c.served-ending.ensures.ending
    (message_taken run.machine.script run.machine.budget c.requires.waits.request run.machine c.take_messages-messages.new.self c.requires.waits.machine_is c.take_messages-messages.ensures.left)
    c.in-Ok.ensures.arrived)

pub returns-in-Ok : goal.returns-in-Ok
returns-in-Ok c =
    let run = c.args.self.now in
    let popped = sym c.take_messages-messages.ensures.taken ∙ (c.in-Some-Serve.ensures.items ∙ ap (λ (m : Message). c.pop.new.self.items ++ m ∷ []) c.in-Some-Serve.field-0-is) in
    let served = popped_served run.machine.script run.machine.budget run c.pop.new.self.items c.in-Some-Serve.field-0-0 c.in-Some-Serve.request c.requires.waits popped in
    let it = serves run.machine.script run.machine.state run.driver c.in-Some-Serve.request served in
    has_served run.machine.script run.machine.budget run c.count_lines.new.self c.in-Some-Serve.request c.arrive.new.self served it
    (now_is run.machine.script run.machine.budget run.machine.state run.driver c.in-Some-Serve.request _ c.served-ending.result c.take_messages-messages.new.self c.arrive.new.self it
    c.served-ending.ensures.ending
    (message_taken run.machine.script run.machine.budget c.requires.waits.request run.machine c.take_messages-messages.new.self c.requires.waits.machine_is c.take_messages-messages.ensures.left)
    c.in-Ok.ensures.arrived)
    c.count_lines.ensures.machine (c.count_lines.ensures.driver ∙ c.served-ending.ensures.driver) c.count_lines.ensures.counts

-- the ending that is needed is fit
pub unreachable-requires-in-Err-Unfit : goal.unreachable-requires-in-Err-Unfit
unreachable-requires-in-Err-Unfit c =
    let run = c.args.self.now in
    let popped = sym c.take_messages-messages.ensures.taken ∙ (c.in-Some-Serve.ensures.items ∙ ap (λ (m : Message). c.pop.new.self.items ++ m ∷ []) c.in-Some-Serve.field-0-is) in
    let served = popped_served run.machine.script run.machine.budget run c.pop.new.self.items c.in-Some-Serve.field-0-0 c.in-Some-Serve.request c.requires.waits popped in
    let it = serves run.machine.script run.machine.state run.driver c.in-Some-Serve.request served in
    let comes = arrival_is run.machine.script run.machine.budget run.machine.state run.driver c.in-Some-Serve.request _ c.served-ending.result c.take_messages-messages.new.self it
    c.served-ending.ensures.ending
    (message_taken run.machine.script run.machine.budget c.requires.waits.request run.machine c.take_messages-messages.new.self c.requires.waits.machine_is c.take_messages-messages.ensures.left) in
    let unfit = c.in-Err-Unfit.ensures.unfit (ap Err c.in-Err-Unfit.field-0-is) in
    cc (comes, unfit.0)
