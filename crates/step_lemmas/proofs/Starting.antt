-- The parts of the start are the start.
use Rattle.std.proofs.Common.{◌≡◌, ℕ, List, [], ◌∙◌, ap, pos, false}
use Rattle.std.specs.Prelude.{replicate, slice_set}
use Rattle.tk_types.specs.declared.run.Frame.{Frame}
use Rattle.context_model.specs.declared.hook_set.HookSet.{HookSet}
use Rattle.tk_types.specs.declared.script.Script.{Script}
use Rattle.tk_types.specs.declared.task.Event.{Event as DueKind}
use Rattle.kernel_model.specs.Bodies.Statements.{memory_size, start_frame}
use Rattle.kernel_model.specs.SemFlags.Tables.{SemFlags, sem_flags_start}
use Rattle.kernel_model.specs.Tasks.Base.{Base, base_start}
use Rattle.object_model.specs.Mutexes.Tables.{Mutexes, mutexes_start}
use Rattle.object_model.specs.Mails.Tables.{Mails, mails_start}
use Rattle.object_model.specs.Pools.Tables.{Pools, pools_start}
use Rattle.context_model.specs.Clocks.Tables.{Clocks, clocks_start}
use Rattle.context_model.specs.Contexts.Tables.{Contexts, contexts_start}
use Rattle.context_model.specs.Hooks.Tables.{hooks_start}
use Rattle.device_model.specs.Devices.Tables.{Devices, devices_start}
use Rattle.machine_model.specs.States.Objects.{Objects}
use Rattle.machine_model.specs.States.State.{State, no_frame, state_start}

-- a state with these parts that doesn't run yet
abbrev idle : Base → Objects → List ℕ → List Frame → List Frame → List ℕ → HookSet → State
idle b o bodies frames saved memory hooks = record { base = b; objects = o; bodies = bodies; frames = frames; saved = saved; memory = memory; due = []; pending = []; ticks = 0; hooks = hooks; halted = false; steps = 0 }

abbrev objects_of : SemFlags → Mutexes → Mails → Pools → Clocks → Contexts → Devices → Objects
objects_of s m b p k c d = record { sem_flags = s; mutexes = m; mails = b; pools = p; clocks = k; contexts = c; devices = d }

objects_same : (script : Script) (s : SemFlags) (m : Mutexes) (b : Mails) (p : Pools) (k : Clocks) (c : Contexts) (d : Devices) → d ≡ devices_start script → s ≡ sem_flags_start → m ≡ mutexes_start → b ≡ mails_start → p ≡ pools_start → k ≡ clocks_start → c ≡ contexts_start →
    objects_of s m b p k c d ≡ objects_of sem_flags_start mutexes_start mails_start pools_start clocks_start contexts_start (devices_start script)
objects_same script s m b p k c d at_d at_s at_m at_b at_p at_k at_c =
    ap (λ (x : SemFlags). objects_of x m b p k c d) at_s
    ∙ ap (λ (x : Mutexes). objects_of sem_flags_start x b p k c d) at_m
    ∙ ap (λ (x : Mails). objects_of sem_flags_start mutexes_start x p k c d) at_b
    ∙ ap (λ (x : Pools). objects_of sem_flags_start mutexes_start mails_start x k c d) at_p
    ∙ ap (λ (x : Clocks). objects_of sem_flags_start mutexes_start mails_start pools_start x c d) at_k
    ∙ ap (λ (x : Contexts). objects_of sem_flags_start mutexes_start mails_start pools_start clocks_start x d) at_c
    ∙ ap (λ (x : Devices). objects_of sem_flags_start mutexes_start mails_start pools_start clocks_start contexts_start x) at_d

pub started : (script : Script) (b : Base) (s : SemFlags) (m : Mutexes) (mails : Mails) (pools : Pools) (k : Clocks) (c : Contexts) (d : Devices) (bodies : List ℕ) (frames saved : List Frame) (memory : List ℕ) (due : List DueKind) (pending : List ℕ) (hooks : HookSet) → due ≡ [] → pending ≡ [] →
    d ≡ devices_start script → b ≡ base_start script.boot.priority → s ≡ sem_flags_start → m ≡ mutexes_start → mails ≡ mails_start → pools ≡ pools_start → k ≡ clocks_start → c ≡ contexts_start → bodies ≡ slice_set (replicate 256 0) 1 script.boot.body →
    frames ≡ slice_set (replicate 256 no_frame) 1 (start_frame script.boot.body (pos 0) (pos 0)) → saved ≡ replicate 2048 no_frame → memory ≡ replicate memory_size 0 → hooks ≡ hooks_start →
    record { base = b; objects = record { sem_flags = s; mutexes = m; mails = mails; pools = pools; clocks = k; contexts = c; devices = d }; bodies = bodies; frames = frames; saved = saved; memory = memory; due = due; pending = pending; ticks = 0; hooks = hooks; halted = false; steps = 0 } ≡ state_start script
unfolding state_start
started script b s m mails pools k c d bodies frames saved memory due pending hooks no_due no_pending at_d at_b at_s at_m at_mails at_pools at_k at_c at_bodies at_frames at_saved empty unset =
    let first : List Frame = slice_set (replicate 256 no_frame) 1 (start_frame script.boot.body (pos 0) (pos 0)) in
    let made : List ℕ = slice_set (replicate 256 0) 1 script.boot.body in
    let objects : Objects = objects_of sem_flags_start mutexes_start mails_start pools_start clocks_start contexts_start (devices_start script) in
    let given : Objects = objects_of s m mails pools k c d in
    ap (λ (x : List DueKind). record (idle b given bodies frames saved memory hooks) { due = x; pending = pending }) no_due
    ∙ ap (λ (x : List ℕ). record (idle b given bodies frames saved memory hooks) { pending = x }) no_pending
    ∙ ap (λ (x : Base). idle x given bodies frames saved memory hooks) at_b
    ∙ ap (λ (x : Objects). idle (base_start script.boot.priority) x bodies frames saved memory hooks) (objects_same script s m mails pools k c d at_d at_s at_m at_mails at_pools at_k at_c)
    ∙ ap (λ (x : List ℕ). idle (base_start script.boot.priority) objects x frames saved memory hooks) at_bodies
    ∙ ap (λ (x : List Frame). idle (base_start script.boot.priority) objects made x saved memory hooks) at_frames
    ∙ ap (λ (x : List Frame). idle (base_start script.boot.priority) objects made first x memory hooks) at_saved
    ∙ ap (λ (x : List ℕ). idle (base_start script.boot.priority) objects made first (replicate 2048 no_frame) x hooks) empty
    ∙ ap (λ (x : HookSet). idle (base_start script.boot.priority) objects made first (replicate 2048 no_frame) (replicate memory_size 0) x) unset
