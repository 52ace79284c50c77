use Rattle.tk_kernel.specs.contracts.kernel.Kernel.{the_view}
use Rattle.tk_kernel.proofs.Sound.{devices_fit, devices_wait, mails_asked}
use Rattle.tk_kernel.proofs.kernel.Kernel.family_call.Goals as goal

pub call-requires-in-Mail-clause-asked : goal.call-requires-in-Mail-clause-asked
call-requires-in-Mail-clause-asked c = mails_asked (the_view c.self-in-Mail.inside) c.args.self.now c.self-in-Mail.view_is c.requires.sound

pub call-requires-in-Device-clause-queued : goal.call-requires-in-Device-clause-queued
call-requires-in-Device-clause-queued c = devices_wait (the_view c.self-in-Device.inside) c.args.self.now c.self-in-Device.view_is c.requires.sound

pub call-requires-in-Device-clause-fit : goal.call-requires-in-Device-clause-fit
call-requires-in-Device-clause-fit c = devices_fit (the_view c.self-in-Device.inside) c.args.self.now c.self-in-Device.view_is c.requires.sound
