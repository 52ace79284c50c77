use Rattle.std.proofs.Common.{arith, sym, ◌∙◌}
use Rattle.object_model.specs.Mails.Tables.{MailParts}
use Rattle.object_model.specs.Mails.Buffers.{serve_buffer, serve_buffers}
use Rattle.mail_buffer.specs.Parts.{parts_of}
use Rattle.mail_buffer.proofs.Firsts.{first_here, first_further, first_nowhere, buffer_there}
use Rattle.mail_buffer.proofs.buffer_serving.serve_first_buffer.Goals as goal

pub returns-then-serve_buffer : goal.returns-then-serve_buffer
returns-then-serve_buffer c =
    let old : MailParts = parts_of c.args.base.now c.args.table.now c.args.memory.now in
    first_here serve_buffer c.args.table.now.buffers c.buffers.id old (parts_of c.buffers.base c.buffers.table c.buffers.memory) (parts_of c.serve_buffer.new.base c.serve_buffer.new.table c.serve_buffer.new.memory)
    (serve_buffers old) (buffer_there old c.buffers.id) c.buffers.invariant.same (sym c.if-serve_buffer.true ∙ c.serve_buffer.ensures.served) c.serve_buffer.ensures.left c.buffers.invariant.all

pub buffers-preserved : goal.buffers-preserved
buffers-preserved c =
    let old : MailParts = parts_of c.args.base.now c.args.table.now c.args.memory.now in
    first_further serve_buffer c.args.table.now.buffers c.buffers.id old (parts_of c.buffers.base c.buffers.table c.buffers.memory) (parts_of c.serve_buffer.new.base c.serve_buffer.new.table c.serve_buffer.new.memory)
    (serve_buffers old) (omega arith) c.buffers.invariant.same (sym c.if-serve_buffer.false ∙ c.serve_buffer.ensures.served) c.serve_buffer.ensures.left c.buffers.invariant.all

pub returns : goal.returns
returns c =
    let old : MailParts = parts_of c.args.base.now c.args.table.now c.args.memory.now in
    first_nowhere (serve_buffer old) c.args.table.now.buffers c.buffers_used-used.result c.buffers.id old (parts_of c.buffers.base c.buffers.table c.buffers.memory) (serve_buffers old)
    c.buffers_used-used.ensures.free c.buffers-test.false c.buffers.invariant.same c.buffers.invariant.all
