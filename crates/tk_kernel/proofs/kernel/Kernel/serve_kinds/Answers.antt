use Rattle.step_lemmas.specs.Kinds.{mailboxes, sem_flags}
use Rattle.step_lemmas.proofs.Servings.{mailbox_then, mutex_last, sem_flag_first, still_sound}
use Rattle.tk_kernel.proofs.kernel.Kernel.serve_kinds.Goals as goal

pub returns-then-serve_sem_flag : goal.returns-then-serve_sem_flag
returns-then-serve_sem_flag c = sem_flag_first c.args.self.now c.serve_sem_flag.new.self _ c.serve_sem_flag.ensures c.if-serve_sem_flag.true

pub serve_mailbox-requires : goal.serve_mailbox-requires
serve_mailbox-requires c = record { sound = still_sound sem_flags c.args.self.now c.serve_sem_flag.new.self _ c.serve_sem_flag.ensures c.if-serve_sem_flag.false c.requires.sound }

pub returns-then-serve_mailbox : goal.returns-then-serve_mailbox
returns-then-serve_mailbox c = mailbox_then c.args.self.now c.serve_sem_flag.new.self c.serve_mailbox.new.self _ _ c.serve_sem_flag.ensures c.if-serve_sem_flag.false c.serve_mailbox.ensures c.if-serve_mailbox.true

pub serve_behind_boxes-requires : goal.serve_behind_boxes-requires
serve_behind_boxes-requires c = record {
  sound = still_sound mailboxes c.serve_sem_flag.new.self c.serve_mailbox.new.self _ c.serve_mailbox.ensures c.if-serve_mailbox.false
      (still_sound sem_flags c.args.self.now c.serve_sem_flag.new.self _ c.serve_sem_flag.ensures c.if-serve_sem_flag.false c.requires.sound);
}

pub returns : goal.returns
returns c =
    mutex_last c.args.self.now c.serve_sem_flag.new.self c.serve_mailbox.new.self c.serve_behind_boxes.new.self _ _ _ c.serve_sem_flag.ensures c.if-serve_sem_flag.false c.serve_mailbox.ensures c.if-serve_mailbox.false
    c.in_ok-served.ensures
