use Rattle.std.proofs.Common.{◌≡◌, ◌+◌, ◌-◌, ℕ, ap, sym, ◌∙◌, arith, length, take}
use Rattle.task_machine.specs.Bytes.{with_run}
use Rattle.dev_layer.proofs.Bytes.{take_least, write_beyond, write_run}
use Rattle.dev_layer.proofs.arriving.land.Goals as goal

pub returns-then-address-end : goal.returns-then-address-end
returns-then-address-end c =
    let bytes : c.size-end.result ≡ length c.args.memory.now = c.size-end.ensures.bytes in
    sym (write_beyond c.args.bytes.now c.args.address c.args.memory.now (omega (arith, bytes)))

pub returns : goal.returns
returns c =
    let bytes : c.size-end.result ≡ length c.args.memory.now = c.size-end.ensures.bytes in
    let room : c.args.address + (c.size-end.result - c.args.address) ≡ length c.args.memory.now = omega (arith, bytes) in
    c.write_bytes.ensures.written
    ∙ ap (with_run c.args.memory.now c.args.address) (ap (λ (n : ℕ). take n c.args.bytes.now) c.min.ensures ∙ take_least (c.size-end.result - c.args.address) c.args.bytes.now)
    ∙ sym (write_run c.args.bytes.now c.args.address c.args.memory.now (c.size-end.result - c.args.address) room)
