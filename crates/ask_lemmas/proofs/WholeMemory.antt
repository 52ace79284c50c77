-- No statement of a script, and no call of a debugger, makes the script's memory shorter than it is meant to be.
use Rattle.std.proofs.Common.{ℕ, Bool, List, [], ◌∷◌, Option, Some, None, take, ℤ, pos}
use Rattle.tk_types.specs.declared.answer.Who.{Who}
use Rattle.tk_types.specs.declared.calls.HookCall.{HookCall}
use Rattle.tk_types.specs.declared.calls.HookCall.TheVariants as call
use Rattle.tk_types.specs.declared.error_code.Er.{Er}
use Rattle.tk_types.specs.declared.error_code.Er.TheVariants as er
use Rattle.tk_types.specs.declared.run.Frame.{Frame}
use Rattle.tk_types.specs.declared.script.Script.{Script}
use Rattle.tk_types.specs.declared.script.Stmt.{Stmt}
use Rattle.tk_types.specs.declared.script.Stmt.TheVariants as stmts
use Rattle.kernel_model.specs.Words.Checks.{Check, ◌otherwise◌, done, first_error, natural, within}
use Rattle.kernel_model.specs.Tasks.Base.{ready_of}
use Rattle.kernel_model.specs.Tasks.Queues.{queue_at}
use Rattle.kernel_model.specs.Bodies.Statements.{fetch, fetched, statement_at}
use Rattle.context_model.specs.Hooks.Tables.{Hooks, Views}
use Rattle.context_model.specs.Hooks.Lists.{id_bytes}
use Rattle.context_model.specs.Hooks.Calls.{HookDone, hook_call, hook_checked, hook_refused, list_existing, list_queue, list_ready, listed, place_checks, queue_checks, set_hook}
use Rattle.ask_lemmas.proofs.LongMemory.{IsLong, set_long, with_bytes_long}

-- ---- statements

fetched_long : (script : Script) (frame : Frame) (memory : List ℕ) (statement : Option Stmt) → IsLong memory → IsLong (fetched script frame memory statement).memory
fetched_long script frame memory None long = long
fetched_long script frame memory (Some (stmts.Compute operation register value)) long = long
fetched_long script frame memory (Some (stmts.Load register address)) long = long
fetched_long script frame memory (Some (stmts.Store address value)) long = set_long memory _ _ long
fetched_long script frame memory (Some (stmts.Jump condition label)) long = long
fetched_long script frame memory (Some (stmts.Say name)) long = long
fetched_long script frame memory (Some (stmts.Show value)) long = long
fetched_long script frame memory (Some stmts.Nop) long = long
fetched_long script frame memory (Some stmts.Halt) long = long
fetched_long script frame memory (Some (stmts.Return value)) long = long
fetched_long script frame memory (Some (stmts.Call name list)) long = long

-- a statement
pub fetch_long : (script : Script) (frame : Frame) (memory : List ℕ) → IsLong memory → IsLong (fetch script frame memory).memory
unfolding fetch
fetch_long script frame memory long = fetched_long script frame memory (statement_at script frame) long

-- ---- calls of a debugger

refused_long : (error : Option Er) (hooks : Hooks) (memory : List ℕ) (effect : HookDone) → IsLong memory → IsLong effect.memory → IsLong (hook_refused error hooks memory effect).memory
refused_long (Some error) hooks memory effect long works = long
refused_long None hooks memory effect long works = works

checked_long : (checks : List Check) (hooks : Hooks) (memory : List ℕ) (effect : HookDone) → IsLong memory → IsLong effect.memory → IsLong (hook_checked checks hooks memory effect).memory
checked_long checks hooks memory effect long works = refused_long (first_error checks) hooks memory effect long works

listed_long : (checks : List Check) (hooks : Hooks) (memory : List ℕ) (address most : ℤ) (ids : List ℕ) → IsLong memory →
    IsLong (hook_checked checks hooks memory (listed hooks memory address most ids)).memory
listed_long checks hooks memory address most ids long =
    checked_long checks hooks memory (listed hooks memory address most ids) long (with_bytes_long memory (id_bytes (take (natural most) ids)) (natural address) long)

existing_long : (hooks : Hooks) (memory : List ℕ) (address most : ℤ) (ids : List ℕ) → IsLong memory → IsLong (list_existing hooks memory address most ids).memory
unfolding list_existing
existing_long hooks memory address most ids long = listed_long (place_checks address most) hooks memory address most ids long

ready_long : (v : Views) (hooks : Hooks) (memory : List ℕ) (priority address most : ℤ) → IsLong memory → IsLong (list_ready v hooks memory priority address most).memory
unfolding list_ready
ready_long v hooks memory priority address most long =
    listed_long ((within 1 140 priority otherwise er.Par) ∷ place_checks address most) hooks memory address most (ready_of v.base (natural priority)) long

queue_long : (v : Views) (hooks : Hooks) (memory : List ℕ) (id address most : ℤ) (exists : ℕ → Bool) (object : ℕ → ℕ) → IsLong memory →
    IsLong (list_queue v hooks memory id address most exists object).memory
unfolding list_queue
queue_long v hooks memory id address most exists object long =
    listed_long (queue_checks id address most exists) hooks memory address most (queue_at v.base (object (natural id))) long

set_hook_long : (hooks : Hooks) (memory : List ℕ) (value : ℤ) (changed : Hooks) → IsLong memory → IsLong (set_hook hooks memory value changed).memory
unfolding set_hook
set_hook_long hooks memory value changed long =
    checked_long ((within 0 1 value otherwise er.Par) ∷ []) hooks memory (record { hooks = changed; memory = memory; outcome = done (pos 0) }) long long

-- a call of a debugger
pub hook_long : (v : Views) (hooks : Hooks) (memory : List ℕ) (who : Who) (c : HookCall) → IsLong memory → IsLong (hook_call v hooks memory who c).memory
unfolding hook_call
hook_long v hooks memory who (call.LstTsk address most) long = existing_long hooks memory address most _ long
hook_long v hooks memory who (call.LstSem address most) long = existing_long hooks memory address most _ long
hook_long v hooks memory who (call.LstFlg address most) long = existing_long hooks memory address most _ long
hook_long v hooks memory who (call.LstMbx address most) long = existing_long hooks memory address most _ long
hook_long v hooks memory who (call.LstMtx address most) long = existing_long hooks memory address most _ long
hook_long v hooks memory who (call.LstMbf address most) long = existing_long hooks memory address most _ long
hook_long v hooks memory who (call.LstMpf address most) long = existing_long hooks memory address most _ long
hook_long v hooks memory who (call.LstMpl address most) long = existing_long hooks memory address most _ long
hook_long v hooks memory who (call.LstCyc address most) long = existing_long hooks memory address most _ long
hook_long v hooks memory who (call.LstAlm address most) long = existing_long hooks memory address most _ long
hook_long v hooks memory who (call.LstSsy address most) long = existing_long hooks memory address most _ long
hook_long v hooks memory who (call.RdyQue priority address most) long = ready_long v hooks memory priority address most long
hook_long v hooks memory who (call.SemQue id address most) long = queue_long v hooks memory id address most _ _ long
hook_long v hooks memory who (call.FlgQue id address most) long = queue_long v hooks memory id address most _ _ long
hook_long v hooks memory who (call.MbxQue id address most) long = queue_long v hooks memory id address most _ _ long
hook_long v hooks memory who (call.MtxQue id address most) long = queue_long v hooks memory id address most _ _ long
hook_long v hooks memory who (call.SmbfQue id address most) long = queue_long v hooks memory id address most _ _ long
hook_long v hooks memory who (call.RmbfQue id address most) long = queue_long v hooks memory id address most _ _ long
hook_long v hooks memory who (call.MpfQue id address most) long = queue_long v hooks memory id address most _ _ long
hook_long v hooks memory who (call.MplQue id address most) long = queue_long v hooks memory id address most _ _ long
hook_long v hooks memory who (call.HokSvc value) long = set_hook_long hooks memory value _ long
hook_long v hooks memory who (call.HokDsp value) long = set_hook_long hooks memory value _ long
hook_long v hooks memory who (call.HokInt value) long = set_hook_long hooks memory value _ long
