use Rattle.std.proofs.Common.{◌≡◌, ℕ, List, drop}
use Rattle.kernel_model.specs.Words.Orders.{taken_from}
use Rattle.object_model.specs.Mails.Tables.{Mails}
use Rattle.object_model.specs.Servings.{first_serving}
use Rattle.dev_layer.specs.Parts.{parts_of}
use Rattle.dev_layer.specs.Serving.{at_close}
use Rattle.dev_layer.proofs.firsts.serve_first_close.Given as goal

-- the first of what is left is the first of all, and nothing changed so far
abbrev pub invariant-descriptors : goal.invariant-descriptors
invariant-descriptors l = record {
  all : (mails : Mails) → (memory : List ℕ) → first_serving (at_close (parts_of l.fn.base l.fn.table mails memory)) (taken_from l.descriptor (drop l.descriptor l.fn.table.opened))
      ≡ first_serving (at_close (parts_of l.fn.base l.fn.table mails memory)) (taken_from 1 (drop 1 l.fn.table.opened));
  same : (mails : Mails) → (memory : List ℕ) → parts_of l.base l.table mails memory ≡ parts_of l.fn.base l.fn.table mails memory;
}
