use Rattle.std.proofs.Common.{◌≡◌, drop}
use Rattle.kernel_model.specs.Words.Orders.{taken_from}
use Rattle.object_model.specs.Servings.{first_serving}
use Rattle.object_model.specs.Mails.Buffers.{serve_buffer, serve_buffers}
use Rattle.mail_buffer.specs.Parts.{parts_of}
use Rattle.mail_buffer.proofs.buffer_serving.serve_first_buffer.Given as goal

-- the first of what is left is the first of all, and nothing changed so far
abbrev pub invariant-buffers : goal.invariant-buffers
invariant-buffers l = record {
  all : first_serving (serve_buffer (parts_of l.fn.base l.fn.table l.fn.memory)) (taken_from l.id (drop l.id l.fn.table.buffers)) ≡ serve_buffers (parts_of l.fn.base l.fn.table l.fn.memory);
  same : parts_of l.base l.table l.memory ≡ parts_of l.fn.base l.fn.table l.fn.memory;
}
