-- What a task leaves that a call has ended: a call that ends one ends a task, and its mutexes are freed one after another.
use Rattle.std.proofs.Common.{List, ◌++◌, ◌≡◌, ℕ, zero, suc, ◌+◌, ◌-◌, ◌<◌, ◌≤◌, Bool, true, false, cond, not, [], ◌∷◌, Option, Some, None, ℤ, pos, negsuc, refl, sym, ◌∙◌, ap, subst, arith}
use Rattle.std.specs.Prelude.{unwrap_or}
use Rattle.std.specs.Option.{is_some, option_map}
use Rattle.std.specs.Ordering.{int_eq}
use Rattle.std.proofs.lemmas.Bool.Decides.{nat_tests}
use Rattle.std.specs.Bool.{◌==◌}
use Rattle.tk_types.specs.declared.answer.Outcome.{Outcome}
use Rattle.tk_types.specs.declared.answer.Outcome.TheVariants as outcomes
use Rattle.tk_types.specs.declared.calls.Call.{Call}
use Rattle.tk_types.specs.declared.calls.Call.TheVariants as calls
use Rattle.tk_types.specs.declared.calls.TaskCall.{TaskCall}
use Rattle.tk_types.specs.declared.calls.TaskCall.TheVariants as tasks
use Rattle.tk_types.specs.declared.error_code.Er.TheVariants as er
use Rattle.tk_types.specs.Codes.{code_of}
use Rattle.tk_types.specs.declared.call_name.CallName.{CallName}
use Rattle.tk_types.specs.declared.line.Line.{Line}
use Rattle.tk_types.specs.Calls.{name_of}
use Rattle.context_model.specs.Hooks.Tables.{Hooks}
use Rattle.tk_types.specs.declared.run.Mode.{Mode}
use Rattle.kernel_model.specs.Words.Checks.{◌otherwise◌, natural, within}
use Rattle.kernel_model.specs.Tasks.Base.{Base, is_dormant, make_dormant, task_at}
use Rattle.kernel_model.specs.Tasks.Calls.{caller, checked, enabled_after, finished, terminate_task, task_call}
use Rattle.kernel_model.specs.Tasks.Views.{is_current}
use Rattle.kernel_model.specs.Tasks.Waits.{HavePlaces}
use Rattle.object_model.specs.Mutexes.Tables.{Mutexes, free_last}
use Rattle.object_model.specs.Mutexes.Calls.{task_call_beside}
use Rattle.machine_model.specs.States.Objects.{Parts}
use Rattle.machine_model.specs.States.State.{State, parts_of, who_of, with_parts}
use Rattle.machine_model.specs.Events.Calls.{CallDone, call_lines, called, ended_by, ended_in, family_call}
use Rattle.machine_model.specs.Events.Follow.{settled}
use Rattle.machine_model.specs.Events.Settle.{freed_within, settle, with_freed}
use Rattle.ask_lemmas.proofs.ReachedAsked.{HasAsked, asks_are_kept}
use Rattle.ask_lemmas.proofs.WholeWalk.{kept_family, kept_settled}
use Rattle.step_lemmas.specs.Known.{HasDevices}
use Rattle.step_lemmas.specs.Sound.{IsSound, IsWhole}
use Rattle.step_lemmas.specs.Freeing.{freed_by}
use Rattle.step_lemmas.proofs.Sound.{asked_of, sound_of}

-- ---- a call that ends a task

either_small : (test : Bool) (n : ℕ) → n < 256 → cond test n 0 < 256
either_small true n small = small
either_small false n small = omega arith

-- what a call on tasks that answered ends
answered_small : (t : ℕ) (call : TaskCall) (outcome : Outcome) → ended_in t call < 256 → ended_by t (calls.Task call) outcome < 256
answered_small t call (outcomes.Returned result) small = either_small (int_eq result.value (pos 0)) (ended_in t call) small
answered_small t call outcomes.Blocked small = omega arith
answered_small t call (outcomes.Entered body) small = omega arith

none_small : 0 < 256
none_small = omega arith

terminated_small : (t : ℕ) (task : ℤ) (known there other awake : Bool) (b after : Base) → (known ≡ true → natural task < 256) →
    ended_by t (calls.Task (tasks.TerTsk task)) (checked ((known otherwise er.Id) ∷ (there otherwise er.NoExs) ∷ (other otherwise er.Obj) ∷ (awake otherwise er.Obj) ∷ []) b (finished after)).outcome < 256
unfolding code_of
terminated_small t task false there other awake b after small = none_small
terminated_small t task true false other awake b after small = none_small
terminated_small t task true true false awake b after small = none_small
terminated_small t task true true true false b after small = none_small
terminated_small t task true true true true b after small = small refl

within_small : (task : ℤ) → within 1 255 task ≡ true → natural task < 256
within_small (pos n) is = grind (arith, nat_tests, is)
within_small (negsuc n) is = absurd (cc is)

from_row : (b : Base) (m : Mutexes) (t : ℕ) (call : TaskCall) → ended_in t call < 256 → ended_by t (calls.Task call) (task_call_beside b m (who_of t) call).outcome < 256
from_row b m t call small = answered_small t call (task_call_beside b m (who_of t) call).outcome small

terminate_small : (b : Base) (m : Mutexes) (t : ℕ) (task : ℤ) → ended_by t (calls.Task (tasks.TerTsk task)) (task_call_beside b m (who_of t) (tasks.TerTsk task)).outcome < 256
unfolding task_call_beside task_call terminate_task
terminate_small b m t task =
    terminated_small t task (within 1 255 task) (is_some (task_at b (natural task))) (not (natural task == caller (who_of t))) (not (is_dormant b (natural task))) b
    (enabled_after (is_current (natural task) b.cur) (make_dormant b (natural task))) (within_small task)

task_small : (b : Base) (m : Mutexes) (t : ℕ) (call : TaskCall) → t < 256 → ended_by t (calls.Task call) (task_call_beside b m (who_of t) call).outcome < 256
task_small b m t (tasks.TerTsk task) small = terminate_small b m t task
task_small b m t tasks.ExtTsk small = from_row b m t tasks.ExtTsk small
task_small b m t tasks.ExdTsk small = from_row b m t tasks.ExdTsk small
task_small b m t (tasks.CreTsk a body priority stack) small = from_row b m t (tasks.CreTsk a body priority stack) none_small
task_small b m t (tasks.DelTsk task) small = from_row b m t (tasks.DelTsk task) none_small
task_small b m t (tasks.StaTsk task code) small = from_row b m t (tasks.StaTsk task code) none_small
task_small b m t (tasks.ChgPri task priority) small = from_row b m t (tasks.ChgPri task priority) none_small
task_small b m t (tasks.RotRdq priority) small = from_row b m t (tasks.RotRdq priority) none_small
task_small b m t tasks.GetTid small = from_row b m t tasks.GetTid none_small
task_small b m t (tasks.RefTsk task) small = from_row b m t (tasks.RefTsk task) none_small
task_small b m t (tasks.SlpTsk timeout) small = from_row b m t (tasks.SlpTsk timeout) none_small
task_small b m t (tasks.WupTsk task) small = from_row b m t (tasks.WupTsk task) none_small
task_small b m t (tasks.CanWup task) small = from_row b m t (tasks.CanWup task) none_small
task_small b m t (tasks.RelWai task) small = from_row b m t (tasks.RelWai task) none_small
task_small b m t (tasks.SusTsk task) small = from_row b m t (tasks.SusTsk task) none_small
task_small b m t (tasks.RsmTsk task) small = from_row b m t (tasks.RsmTsk task) none_small
task_small b m t (tasks.FrsmTsk task) small = from_row b m t (tasks.FrsmTsk task) none_small
task_small b m t (tasks.DlyTsk delay) small = from_row b m t (tasks.DlyTsk delay) none_small

call_small : (st : State) (t : ℕ) (call : Call) → t < 256 → ended_by t call (family_call st t call).outcome < 256
unfolding family_call
call_small st t (calls.Task call) small = task_small st.base st.objects.mutexes t call small
call_small st t (calls.SemFlag call) small = omega arith
call_small st t (calls.Mutex call) small = omega arith
call_small st t (calls.Mail call) small = omega arith
call_small st t (calls.Pool call) small = omega arith
call_small st t (calls.Time call) small = omega arith
call_small st t (calls.Context call) small = omega arith
call_small st t (calls.Device call) small = omega arith
call_small st t (calls.Hook call) small = omega arith

-- what a call has ended is a task's ID, or 0
pub ended_small : (st now : State) (t : ℕ) (call : Call) (outcome : Outcome) → t < 256 → family_call st t call ≡ record { state = now; outcome = outcome } → ended_by t call outcome < 256
ended_small st now t call outcome small is = subst (λ (done : CallDone). ended_by t call done.outcome < 256) is (call_small st t call small)

-- ---- what waits, through calls

-- each task that waits stands in its order after a call of any family, and has asked for something that fits
pub call_sound : (st now : State) (t : ℕ) (call : Call) (outcome : Outcome) → HavePlaces st.base → IsWhole st → HasDevices st → IsSound st.base st.objects → family_call st t call ≡ record { state = now; outcome = outcome } → IsSound now.base now.objects
call_sound st now t call outcome places whole none all is =
    subst (λ (done : CallDone). IsSound done.state.base done.state.objects) is (sound_of _ (kept_family HasAsked asks_are_kept st t call (asked_of st places whole none all)))

-- ---- the line of a call

pub called_lines : (mode : Mode) (n : ℕ) (st now : State) (t : ℕ) (call : Call) (outcome : Outcome) → family_call st t call ≡ record { state = now; outcome = outcome } → (called mode n st t call).lines ≡ call_lines st.hooks.svc n t (name_of call) outcome
unfolding called
called_lines mode n st now t call outcome is = ap (λ (done : CallDone). call_lines st.hooks.svc n t (name_of call) done.outcome) is

-- the lines with it, in the form of the code
pub told_lines : (mode : Mode) (n : ℕ) (st now : State) (t : ℕ) (call : Call) (outcome : Outcome) (name : CallName) (hooks : Hooks) (before after : List Line) → hooks ≡ st.hooks → family_call st t call ≡ record { state = now; outcome = outcome } → name ≡ name_of call →
    after ≡ before ++ call_lines hooks.svc n t name outcome → after ≡ before ++ (called mode n st t call).lines
told_lines mode n st now t call outcome name hooks before after set is named written =
    written
    ∙ ap (λ (name : CallName). before ++ call_lines hooks.svc n t name outcome) named
    ∙ ap (λ (h : Hooks). before ++ call_lines h.svc n t (name_of call) outcome) set
    ∙ ap (λ (ls : List Line). before ++ ls) (sym (called_lines mode n st now t call outcome is))

-- ---- settling

pub settled_sound : (mode : Mode) (st now : State) → HavePlaces st.base → IsWhole st → HasDevices st → IsSound st.base st.objects → now ≡ settled mode st → IsSound now.base now.objects
settled_sound mode st now places whole none all is =
    subst (λ (s : State). IsSound s.base s.objects) (sym is) (sound_of _ (kept_settled HasAsked asks_are_kept mode (parts_of st) (asked_of st places whole none all)))

-- ---- mutexes, one after another

freed_asked : (p : Parts) (t : ℕ) (next : Option Mutexes) → free_last p.base p.objects.mutexes t ≡ next → HasAsked p → HasAsked (unwrap_or (option_map (with_freed p) next) p)
freed_asked p t None is has = has
freed_asked p t (Some m) is has = asks_are_kept.freed p t m is has

pub freed_sound : (st now : State) (t : ℕ) → HavePlaces st.base → IsWhole st → HasDevices st → IsSound st.base st.objects → now ≡ freed_by t st → IsSound now.base now.objects
freed_sound st now t places whole none all is =
    subst (λ (s : State). IsSound s.base s.objects) (sym is) (sound_of _ (freed_asked (parts_of st) t (free_last st.base st.objects.mutexes t) refl (asked_of st places whole none all)))

freed_left : (p : Parts) (m : Mutexes) (found : Option Mutexes) → m ≡ unwrap_or found p.objects.mutexes → with_freed p m ≡ unwrap_or (option_map (with_freed p) found) p
freed_left p m None is = ap (with_freed p) is
freed_left p m (Some other) is = ap (with_freed p) is

pub freed_is : (st : State) (m : Mutexes) (t : ℕ) → m ≡ unwrap_or (free_last st.base st.objects.mutexes t) st.objects.mutexes → record st { objects = record st.objects { mutexes = m } } ≡ freed_by t st
freed_is st m t is = ap (with_parts st) (freed_left (parts_of st) m (free_last st.base st.objects.mutexes t) is)

abbrev freed_next : ℕ → Mode → ℕ → Parts → Option Mutexes → Parts
freed_next left mode t p next = elim next as (λ _. Parts) [ None ↦ p | Some m ↦ freed_within left mode t (settle mode (with_freed p m)) ]

more_of : (left : ℕ) (mode : Mode) (t : ℕ) (p : Parts) (next : Option Mutexes) → free_last p.base p.objects.mutexes t ≡ next → is_some next ≡ true →
    freed_within (suc left) mode t p ≡ freed_within left mode t (settle mode (unwrap_or (option_map (with_freed p) next) p))
unfolding freed_within
more_of left mode t p None is some = absurd (cc some)
more_of left mode t p (Some m) is some = ap (freed_next left mode t p) is

-- one mutex more is freed
pub freed_more : (done : ℕ) (mode : Mode) (t : ℕ) (st now after : State) (all : Parts) → done < 64 → is_some (free_last st.base st.objects.mutexes t) ≡ true → now ≡ freed_by t st → after ≡ settled mode now →
    freed_within (64 - done) mode t (parts_of st) ≡ all → freed_within (64 - (done + 1)) mode t (parts_of after) ≡ all
freed_more done mode t st now after all below some same settles left =
    let one : 64 - done ≡ suc (64 - (done + 1)) = omega arith in
    ap (λ (s : State). freed_within (64 - (done + 1)) mode t (parts_of s)) settles
    ∙ ap (λ (s : State). freed_within (64 - (done + 1)) mode t (settle mode (parts_of s))) same
    ∙ sym (more_of (64 - (done + 1)) mode t (parts_of st) (free_last st.base st.objects.mutexes t) refl some)
    ∙ ap (λ n. freed_within n mode t (parts_of st)) (sym one)
    ∙ left

over_of : (left : ℕ) (mode : Mode) (t : ℕ) (p : Parts) (next : Option Mutexes) → free_last p.base p.objects.mutexes t ≡ next → is_some next ≡ false → freed_within left mode t p ≡ unwrap_or (option_map (with_freed p) next) p
unfolding freed_within
over_of zero mode t p None is none = refl
over_of (suc left) mode t p None is none = ap (freed_next left mode t p) is
over_of left mode t p (Some m) is none = absurd (cc none)

-- none is held any more
pub freed_over : (left : ℕ) (mode : Mode) (t : ℕ) (st now : State) (all : Parts) → is_some (free_last st.base st.objects.mutexes t) ≡ false → now ≡ freed_by t st → freed_within left mode t (parts_of st) ≡ all → now ≡ with_parts st all
freed_over left mode t st now all none same rest = same ∙ ap (with_parts st) (sym (over_of left mode t (parts_of st) (free_last st.base st.objects.mutexes t) refl none) ∙ rest)

-- so many were freed
pub freed_spent : (done : ℕ) (mode : Mode) (t : ℕ) (p all : Parts) → 64 ≤ done → freed_within (64 - done) mode t p ≡ all → p ≡ all
unfolding freed_within
freed_spent done mode t p all spent rest = let none : 64 - done ≡ 0 = omega arith in sym (ap (λ n. freed_within n mode t p) none) ∙ rest
