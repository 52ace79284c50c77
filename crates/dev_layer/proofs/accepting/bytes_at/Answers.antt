use Rattle.dev_layer.proofs.Bytes.{read_same}
use Rattle.dev_layer.proofs.accepting.bytes_at.Goals as goal

pub returns-clause-read : goal.returns-clause-read
returns-clause-read c = read_same c.args.count c.args.address c.args.memory.now c.bytes.result.now c.bytes.ensures.bytes c.bytes.ensures.len
