use Rattle.std.proofs.Common.{◌≡◌, ℕ, List, drop}
use Rattle.kernel_model.specs.Words.Orders.{taken_from}
use Rattle.object_model.specs.Servings.{first_serving}
use Rattle.object_model.specs.Mails.Boxes.{serve_box, serve_mailboxes}
use Rattle.mail_buffer.specs.Parts.{parts_of}
use Rattle.mail_buffer.proofs.box_serving.serve_first_mailbox.Given as goal

-- the first of what is left is the first of all, and nothing changed so far
abbrev pub invariant-boxes : goal.invariant-boxes
invariant-boxes l = record {
  all : (memory : List ℕ) → first_serving (serve_box (parts_of l.fn.base l.fn.table memory)) (taken_from l.id (drop l.id l.fn.table.boxes)) ≡ serve_mailboxes (parts_of l.fn.base l.fn.table memory);
  base : l.base ≡ l.fn.base;
  table : l.table ≡ l.fn.table;
}
