-- A call does what it asks for.
use Rattle.std.proofs.Common.{◌≡◌, ℕ, List, refl}
use Rattle.tk_types.specs.declared.answer.Who.{Who}
use Rattle.tk_types.specs.declared.calls.HookCall.{HookCall}
use Rattle.tk_types.specs.declared.calls.HookCall.TheVariants as call
use Rattle.context_model.specs.Hooks.Calls.{hook_call}
use Rattle.context_model.specs.Hooks.Tables.{Hooks, Views}
use Rattle.td_hooks.specs.Requests.{done_request, request_of}

pub by_request : (v : Views) (hooks : Hooks) (memory : List ℕ) (who : Who) (c : HookCall) → hook_call v hooks memory who c ≡ done_request v hooks memory (request_of c)
unfolding hook_call
by_request v hooks memory who (call.LstTsk address most) = refl
by_request v hooks memory who (call.LstSem address most) = refl
by_request v hooks memory who (call.LstFlg address most) = refl
by_request v hooks memory who (call.LstMbx address most) = refl
by_request v hooks memory who (call.LstMtx address most) = refl
by_request v hooks memory who (call.LstMbf address most) = refl
by_request v hooks memory who (call.LstMpf address most) = refl
by_request v hooks memory who (call.LstMpl address most) = refl
by_request v hooks memory who (call.LstCyc address most) = refl
by_request v hooks memory who (call.LstAlm address most) = refl
by_request v hooks memory who (call.LstSsy address most) = refl
by_request v hooks memory who (call.RdyQue priority address most) = refl
by_request v hooks memory who (call.SemQue id address most) = refl
by_request v hooks memory who (call.FlgQue id address most) = refl
by_request v hooks memory who (call.MbxQue id address most) = refl
by_request v hooks memory who (call.MtxQue id address most) = refl
by_request v hooks memory who (call.SmbfQue id address most) = refl
by_request v hooks memory who (call.RmbfQue id address most) = refl
by_request v hooks memory who (call.MpfQue id address most) = refl
by_request v hooks memory who (call.MplQue id address most) = refl
by_request v hooks memory who (call.HokSvc value) = refl
by_request v hooks memory who (call.HokDsp value) = refl
by_request v hooks memory who (call.HokInt value) = refl
