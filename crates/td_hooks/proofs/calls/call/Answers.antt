use Rattle.std.proofs.Common.{◌≡◌, rules, ap, sym, ◌∙◌}
use Rattle.context_model.specs.Hooks.Calls.{hook_call, list_existing, list_queue, list_ready}
use Rattle.context_model.specs.Hooks.Lists.{existing}
use Rattle.td_hooks.specs.Kinds.{exists, greatest, kind_of, object_of}
use Rattle.td_hooks.specs.Requests.{done_request}
use Rattle.td_hooks.specs.Seen.{seen}
use Rattle.td_hooks.proofs.Requested.{by_request}
use Rattle.td_hooks.proofs.calls.call.Goals as goal
use Rattle.td_hooks.proofs.calls.call.Goals.{After-request_of}

-- a call does what it asks for
asked : (c : goal.After-request_of) → hook_call (seen c.args.base.now c.args.views.now) c.args.hooks.now c.args.memory.now c.args.who c.args.call.now ≡ done_request (seen c.args.base.now c.args.views.now) c.args.hooks.now c.args.memory.now c.request_of.result
asked c =
    by_request (seen c.args.base.now c.args.views.now) c.args.hooks.now c.args.memory.now c.args.who c.args.call.now
    ∙ ap (done_request (seen c.args.base.now c.args.views.now) c.args.hooks.now c.args.memory.now) (sym c.request_of.ensures)

pub returns-in-Existing : goal.returns-in-Existing
returns-in-Existing c =
    let listed : list_existing c.args.hooks.now c.args.memory.now c.in-Existing.address c.in-Existing.most (existing (exists (seen c.args.base.now c.args.views.now) c.in-Existing.kind) (greatest c.in-Existing.kind)) ≡ record { hooks = c.args.hooks.now; memory = c.list_existing.new.memory; outcome = c.list_existing.result } =
    search (rules, c.list_existing.ensures c.args.hooks.now) in
    asked (goal.at.returns-in-Existing c).After-request_of
    ∙ ap (done_request (seen c.args.base.now c.args.views.now) c.args.hooks.now c.args.memory.now) c.in-Existing.is
    ∙ listed

pub returns-in-Ready : goal.returns-in-Ready
returns-in-Ready c =
    let listed : list_ready (seen c.args.base.now c.args.views.now) c.args.hooks.now c.args.memory.now c.in-Ready.priority c.in-Ready.address c.in-Ready.most ≡ record { hooks = c.args.hooks.now; memory = c.list_ready.new.memory; outcome = c.list_ready.result } =
    search (rules, c.list_ready.ensures c.args.hooks.now) in
    asked (goal.at.returns-in-Ready c).After-request_of
    ∙ ap (done_request (seen c.args.base.now c.args.views.now) c.args.hooks.now c.args.memory.now) c.in-Ready.is
    ∙ listed

pub returns-in-Waiting : goal.returns-in-Waiting
returns-in-Waiting c =
    let listed : list_queue (seen c.args.base.now c.args.views.now) c.args.hooks.now c.args.memory.now c.in-Waiting.id c.in-Waiting.address c.in-Waiting.most (exists (seen c.args.base.now c.args.views.now) (kind_of c.in-Waiting.queue)) (object_of c.in-Waiting.queue) ≡ record { hooks = c.args.hooks.now; memory = c.list_queue.new.memory; outcome = c.list_queue.result } =
    search (rules, c.list_queue.ensures c.args.hooks.now) in
    asked (goal.at.returns-in-Waiting c).After-request_of
    ∙ ap (done_request (seen c.args.base.now c.args.views.now) c.args.hooks.now c.args.memory.now) c.in-Waiting.is
    ∙ listed
