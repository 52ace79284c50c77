use Rattle.mail_buffer.proofs.Rings.{taken_of_two}
use Rattle.mail_buffer.proofs.buffers.read_out.Goals as goal

pub returns-clause-read : goal.returns-clause-read
returns-clause-read c =
    let front = c.as_slices.result.0.now in
    let back = c.as_slices.result.1.now in
    let n = c.min-in_front.result in
    let cut = taken_of_two front back c.args.count n c.args.address c.args.memory.now c.write_bytes.new.memory c.write_bytes-2.new.memory c.min-in_front.ensures
    c.write_bytes.ensures.written c.write_bytes-2.ensures.written c.write_bytes.ensures.whole c.requires.place in
    rw (← c.as_slices.ensures) cut
