use Rattle.std.proofs.Common.{◌≡◌, drop}
use Rattle.kernel_model.specs.Words.Orders.{taken_from}
use Rattle.object_model.specs.Servings.{first_serving}
use Rattle.dev_layer.specs.Parts.{parts_of}
use Rattle.dev_layer.specs.Serving.{at_device}
use Rattle.dev_layer.proofs.firsts.serve_first_acceptance.Given as goal

-- the first of what is left is the first of all, and nothing changed so far
abbrev pub invariant-devices : goal.invariant-devices
invariant-devices l = record {
  all : first_serving (at_device (parts_of l.fn.base l.fn.table l.mails l.fn.memory)) (taken_from l.device (drop l.device l.fn.table.links))
      ≡ first_serving (at_device (parts_of l.fn.base l.fn.table l.mails l.fn.memory)) (taken_from 1 (drop 1 l.fn.table.links));
  same : parts_of l.base l.table l.mails l.memory ≡ parts_of l.fn.base l.fn.table l.mails l.fn.memory;
}
