use Rattle.step_lemmas.specs.Kinds.{acceptances, closes, endings}
use Rattle.step_lemmas.proofs.Servings.{acceptance_first, close_then, ending_then, still_sound, suspension_last}
use Rattle.tk_kernel.proofs.kernel.Kernel.serve_devices.Goals as goal

pub returns-then-accepted : goal.returns-then-accepted
returns-then-accepted c = acceptance_first c.args.self.now c.serve_acceptance.new.self _ c.in_ok-accepted.ensures c.if-accepted.true

pub serve_ending-requires : goal.serve_ending-requires
serve_ending-requires c = record { sound = still_sound acceptances c.args.self.now c.serve_acceptance.new.self _ c.in_ok-accepted.ensures c.if-accepted.false c.requires.sound }

pub returns-then-serve_ending : goal.returns-then-serve_ending
returns-then-serve_ending c = ending_then c.args.self.now c.serve_acceptance.new.self c.serve_ending.new.self _ _ c.in_ok-accepted.ensures c.if-accepted.false c.serve_ending.ensures c.if-serve_ending.true

pub serve_close-requires : goal.serve_close-requires
serve_close-requires c = record {
  sound = still_sound endings c.serve_acceptance.new.self c.serve_ending.new.self _ c.serve_ending.ensures c.if-serve_ending.false
      (still_sound acceptances c.args.self.now c.serve_acceptance.new.self _ c.in_ok-accepted.ensures c.if-accepted.false c.requires.sound);
}

pub returns-then-serve_close : goal.returns-then-serve_close
returns-then-serve_close c =
    close_then c.args.self.now c.serve_acceptance.new.self c.serve_ending.new.self c.serve_close.new.self _ _ _ c.in_ok-accepted.ensures c.if-accepted.false c.serve_ending.ensures c.if-serve_ending.false c.serve_close.ensures c.if-serve_close.true

pub serve_suspension-requires : goal.serve_suspension-requires
serve_suspension-requires c = record {
  sound = still_sound closes c.serve_ending.new.self c.serve_close.new.self _ c.serve_close.ensures c.if-serve_close.false
      (still_sound endings c.serve_acceptance.new.self c.serve_ending.new.self _ c.serve_ending.ensures c.if-serve_ending.false
      (still_sound acceptances c.args.self.now c.serve_acceptance.new.self _ c.in_ok-accepted.ensures c.if-accepted.false c.requires.sound));
}

pub returns : goal.returns
returns c =
    suspension_last c.args.self.now c.serve_acceptance.new.self c.serve_ending.new.self c.serve_close.new.self c.serve_suspension.new.self _ _ _ _ c.in_ok-accepted.ensures c.if-accepted.false c.serve_ending.ensures c.if-serve_ending.false
    c.serve_close.ensures c.if-serve_close.false c.serve_suspension.ensures
