-- What each of the calls asks for.
use Rattle.std.specs.Prelude.{ℕ, List}
use Rattle.tk_types.specs.declared.calls.HookCall.{HookCall}
use Rattle.tk_types.specs.declared.calls.HookCall.TheVariants as call
use Rattle.context_model.specs.Hooks.Calls.{HookDone, list_existing, list_queue, list_ready, set_hook, sets}
use Rattle.context_model.specs.Hooks.Lists.{existing}
use Rattle.context_model.specs.Hooks.Tables.{Hooks, Views}
use Rattle.td_hooks.specs.declared.hooks.Hook.TheVariants as hook
use Rattle.td_hooks.specs.declared.kinds.Kind.TheVariants as kind
use Rattle.td_hooks.specs.declared.kinds.Queue.TheVariants as queue
use Rattle.td_hooks.specs.declared.requests.Request.{Request}
use Rattle.td_hooks.specs.declared.requests.Request.TheVariants.{Existing, Ready, Setting, Waiting}
use Rattle.td_hooks.specs.Hooks.{with_hook}
use Rattle.td_hooks.specs.Kinds.{exists, greatest, kind_of, object_of}

abbrev pub request_of : HookCall → Request
request_of (call.LstTsk address most) = Existing kind.Task address most
request_of (call.LstSem address most) = Existing kind.Semaphore address most
request_of (call.LstFlg address most) = Existing kind.EventFlag address most
request_of (call.LstMbx address most) = Existing kind.Mailbox address most
request_of (call.LstMtx address most) = Existing kind.Mutex address most
request_of (call.LstMbf address most) = Existing kind.MessageBuffer address most
request_of (call.LstMpf address most) = Existing kind.FixedPool address most
request_of (call.LstMpl address most) = Existing kind.VariablePool address most
request_of (call.LstCyc address most) = Existing kind.CyclicHandler address most
request_of (call.LstAlm address most) = Existing kind.AlarmHandler address most
request_of (call.LstSsy address most) = Existing kind.Subsystem address most
request_of (call.RdyQue priority address most) = Ready priority address most
request_of (call.SemQue id address most) = Waiting queue.Semaphore id address most
request_of (call.FlgQue id address most) = Waiting queue.EventFlag id address most
request_of (call.MbxQue id address most) = Waiting queue.Mailbox id address most
request_of (call.MtxQue id address most) = Waiting queue.Mutex id address most
request_of (call.SmbfQue id address most) = Waiting queue.Senders id address most
request_of (call.RmbfQue id address most) = Waiting queue.Receivers id address most
request_of (call.MpfQue id address most) = Waiting queue.FixedPool id address most
request_of (call.MplQue id address most) = Waiting queue.VariablePool id address most
request_of (call.HokSvc value) = Setting hook.Calls value
request_of (call.HokDsp value) = Setting hook.Dispatches value
request_of (call.HokInt value) = Setting hook.Handlers value

-- what a request does
abbrev pub done_request : Views → Hooks → List ℕ → Request → HookDone
done_request v hooks memory (Existing what address most) = list_existing hooks memory address most (existing (exists v what) (greatest what))
done_request v hooks memory (Ready priority address most) = list_ready v hooks memory priority address most
done_request v hooks memory (Waiting at id address most) = list_queue v hooks memory id address most (exists v (kind_of at)) (object_of at)
done_request v hooks memory (Setting which value) = set_hook hooks memory value (with_hook hooks which (sets value))
