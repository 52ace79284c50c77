use Rattle.std.proofs.Common.{arith, ap, sym, ◌∙◌, true, false, get_or, length}
use Rattle.mem_pools.proofs.Fixed.{one_out, some_free, taken_none, taken_one}
use Rattle.mem_pools.proofs.fixed_pool.FixedPool.take.Goals as goal

pub returns-then-number-len-clause-number : goal.returns-then-number-len-clause-number
returns-then-number-len-clause-number c =
    let value = c.deref.ensures.value in
    let long = ap length value in
    let len = c.deref.ensures.len in
    let all = c.if-number-len.true in
    let count = c.len.ensures in
    (taken_none (record { order = c.self.inside.order; bytes = c.self.inside.bytes; out = c.self.inside.out.items }) c.args.self.now c.self.inside.least c.self.inside.free c.free_from-number.result
    c.self.invariant c.self.view_is c.free_from-number.ensures.low (λ n low below. ap (λ xs. get_or xs n false) (sym value) ∙ c.free_from-number.ensures.passed n low below) (omega (arith, long, len, all, count))).block

pub returns-then-number-len-clause-taken : goal.returns-then-number-len-clause-taken
returns-then-number-len-clause-taken c =
    let value = c.deref.ensures.value in
    let long = ap length value in
    let len = c.deref.ensures.len in
    let all = c.if-number-len.true in
    let count = c.len.ensures in
    (taken_none (record { order = c.self.inside.order; bytes = c.self.inside.bytes; out = c.self.inside.out.items }) c.args.self.now c.self.inside.least c.self.inside.free c.free_from-number.result
    c.self.invariant c.self.view_is c.free_from-number.ensures.low (λ n low below. ap (λ xs. get_or xs n false) (sym value) ∙ c.free_from-number.ensures.passed n low below) (omega (arith, long, len, all, count))).left

pub overflow_sub-self : goal.overflow_sub-self
overflow_sub-self c =
    let value = c.deref.ensures.value in
    let len = c.deref.ensures.len in
    let more = c.if-number-len.false in
    let count = c.len.ensures in
    let high = c.free_from-number.ensures.high in
    some_free c.self.inside.out.items c.self.inside.least c.self.inside.free c.free_from-number.result c.self.invariant c.free_from-number.ensures.low
    (ap (λ xs. get_or xs c.free_from-number.result true) (sym value) ∙ c.free_from-number.ensures.stops (omega (arith, len, more, count, high)))

pub invariant_of-self-2 : goal.invariant_of-self-2
invariant_of-self-2 c =
    let value = c.deref.ensures.value in
    let long = ap length value in
    let len = c.deref.ensures.len in
    let more = c.if-number-len.false in
    let count = c.len.ensures in
    let high = c.free_from-number.ensures.high in
    one_out c.self.inside.out.items c.self.inside.least c.self.inside.free c.free_from-number.result c.self.invariant c.free_from-number.ensures.low (omega (arith, long, len, more, count, high))
    (λ n low below. ap (λ xs. get_or xs n false) (sym value) ∙ c.free_from-number.ensures.passed n low below)
    (ap (λ xs. get_or xs c.free_from-number.result true) (sym value) ∙ c.free_from-number.ensures.stops (omega (arith, len, more, count, high)))

pub returns-clause-number : goal.returns-clause-number
returns-clause-number c =
    let value = c.deref.ensures.value in
    let len = c.deref.ensures.len in
    let more = c.if-number-len.false in
    let count = c.len.ensures in
    let high = c.free_from-number.ensures.high in
    (taken_one (record { order = c.self.inside.order; bytes = c.self.inside.bytes; out = c.self.inside.out.items }) c.args.self.now c.self.inside.least c.self.inside.free c.free_from-number.result
    c.self.invariant c.self.view_is c.free_from-number.ensures.low (λ n low below. ap (λ xs. get_or xs n false) (sym value) ∙ c.free_from-number.ensures.passed n low below)
    (ap (λ xs. get_or xs c.free_from-number.result true) (sym value) ∙ c.free_from-number.ensures.stops (omega (arith, len, more, count, high)))).block

pub returns-clause-taken : goal.returns-clause-taken
returns-clause-taken c =
    let value = c.deref.ensures.value in
    let len = c.deref.ensures.len in
    let more = c.if-number-len.false in
    let count = c.len.ensures in
    let high = c.free_from-number.ensures.high in
    (taken_one (record { order = c.self.inside.order; bytes = c.self.inside.bytes; out = c.self.inside.out.items }) c.args.self.now c.self.inside.least c.self.inside.free c.free_from-number.result
    c.self.invariant c.self.view_is c.free_from-number.ensures.low (λ n low below. ap (λ xs. get_or xs n false) (sym value) ∙ c.free_from-number.ensures.passed n low below)
    (ap (λ xs. get_or xs c.free_from-number.result true) (sym value) ∙ c.free_from-number.ensures.stops (omega (arith, len, more, count, high)))).left
