use Rattle.std.proofs.Common.{◌≡◌, ℕ, zero, suc, ◌≤◌, length, true, refl}
use Rattle.kernel_model.specs.LawWords.Precedence.{KeepsPlace}
use Rattle.kernel_model.specs.Tasks.Base.{current, is_ready, task_at}
use Rattle.kernel_model.specs.Tasks.Calls.{caller}
use Rattle.object_model.specs.Mutexes.Priority.{current_of}
use Rattle.machine_model.specs.States.Objects.{Parts}
use Rattle.machine_model.specs.States.State.{parts_of, who_of}
use Rattle.place_lemmas.proofs.Calls.{called_followed, called_stands}
use Rattle.place_lemmas.proofs.Ceilings.{LendsNone}
use Rattle.place_lemmas.proofs.Events.{stands_arrived, stands_followed, stands_holdings, stands_settled, stands_tick}
use Rattle.machine_model.specs.Runs.Step.{worked}
use Rattle.place_lemmas.proofs.Kept.{Alone, IsPreempted, due_place, ended_place, interrupt_place, owning_none_settles, preempted_then, settled_owning_none, settles_first, stands_first, stands_through_step}
use Rattle.place_lemmas.proofs.Mutexes.{mutex_called, mutex_followed}
use Rattle.place_lemmas.proofs.Owned.{current_owning_none}
use Rattle.place_lemmas.proofs.Statements.{acted_place}
use Rattle.place_lemmas.proofs.Tasks.{task_call_place, task_followed}
use Rattle.machine_laws.proofs.places.preempted_task_keeps_its_place.Goals as goal

-- what is asked of the task
asked : (p : Parts) (t : ℕ) → 1 ≤ t → length p.objects.devices.links ≤ 9 → KeepsPlace p.base t → is_ready p.base t ≡ true →
    current p.base t ≡ current_of p.base p.objects.mutexes t → LendsNone t p.objects.mutexes → IsPreempted t p
asked p t one few place ready fresh heirs = record { least = one; few = few; place = place; ready = ready; fresh = fresh; heirs = heirs }

pub returns-clause-settled : goal.returns-clause-settled
returns-clause-settled c = λ mode p t one few place ready fresh heirs.
    let is = asked p t one few place ready fresh heirs in
    (stands_settled (task_at p.base t) t (Alone t p) mode p (settles_first t p is) (stands_first t p is)).place.base.place

pub returns-clause-tick : goal.returns-clause-tick
returns-clause-tick c = λ mode n st t one few place ready fresh heirs.
    let is = asked (parts_of st) t one few place ready fresh heirs in
    (stands_tick (task_at st.base t) t (Alone t (parts_of st)) mode n st (settles_first t (parts_of st) is) (stands_first t (parts_of st) is)).place.base.place

pub returns-clause-due : goal.returns-clause-due
returns-clause-due c = due_place

pub returns-clause-interrupt : goal.returns-clause-interrupt
returns-clause-interrupt c = interrupt_place

pub returns-clause-ended : goal.returns-clause-ended
returns-clause-ended c = ended_place

pub returns-clause-follows : goal.returns-clause-follows
returns-clause-follows c = λ script mode n st t one few place ready fresh heirs.
    let is = asked (parts_of st) t one few place ready fresh heirs in
    (stands_followed (task_at st.base t) t (Alone t (parts_of st)) script mode n st (settles_first t (parts_of st) is) (stands_first t (parts_of st) is)).place.base.place

pub returns-clause-freed : goal.returns-clause-freed
returns-clause-freed c = λ mode st t other one few place ready fresh heirs apart.
    let is = asked (parts_of st) t one few place ready fresh heirs in
    (stands_holdings (task_at st.base t) t (Alone t (parts_of st)) mode st other (settles_first t (parts_of st) is) apart (stands_first t (parts_of st) is)).place.base.place

pub returns-clause-arrives : goal.returns-clause-arrives
returns-clause-arrives c = λ script mode st ending event t one few place ready fresh heirs found.
    let is = asked (parts_of st) t one few place ready fresh heirs in
    (stands_arrived (task_at st.base t) t (Alone t (parts_of st)) script mode st ending event (settles_first t (parts_of st) is) found (stands_first t (parts_of st) is)).place.base.place

pub returns-clause-step : goal.returns-clause-step
returns-clause-step c = λ script mode n st t one few place ready fresh heirs handler task.
    let is = asked (parts_of st) t one few place ready fresh heirs in
    (stands_through_step (task_at st.base t) t (Alone t (parts_of st)) script mode n st (settles_first t (parts_of st) is) (handler, task) (stands_first t (parts_of st) is)).place.base.place

pub returns-clause-still_same : goal.returns-clause-still_same
returns-clause-still_same c = λ script mode n st t one few place ready fresh heirs handler task.
    let is = asked (parts_of st) t one few place ready fresh heirs in
    (stands_through_step (task_at st.base t) t (Alone t (parts_of st)) script mode n st (settles_first t (parts_of st) is) (handler, task) (stands_first t (parts_of st) is)).place.base.is

pub returns-clause-still_fresh : goal.returns-clause-still_fresh
returns-clause-still_fresh c = λ script mode n st t one few place ready fresh heirs handler task.
    let is = asked (parts_of st) t one few place ready fresh heirs in
    (preempted_then t (parts_of st) (parts_of (worked script mode n st).state) is
    (stands_through_step (task_at st.base t) t (Alone t (parts_of st)) script mode n st (settles_first t (parts_of st) is) (handler, task) (stands_first t (parts_of st) is))).fresh

pub returns-clause-still_alone : goal.returns-clause-still_alone
returns-clause-still_alone c = λ script mode n st t one few place ready fresh heirs handler task.
    let is = asked (parts_of st) t one few place ready fresh heirs in
    (stands_through_step (task_at st.base t) t (Alone t (parts_of st)) script mode n st (settles_first t (parts_of st) is) (handler, task) (stands_first t (parts_of st) is)).place.mutexes.heirs

pub returns-clause-statements : goal.returns-clause-statements
returns-clause-statements c = acted_place

pub returns-clause-calls : goal.returns-clause-calls
returns-clause-calls c = λ mode n st caller call t few place ready no_task no_mutex now.
    (called_stands (task_at st.base t) t (λ m. Unit {0}) mode n st caller call ready (no_task, no_mutex)
    (record { place = record { base = record { is = refl; place = place }; mutexes = tt }; few = few }) now).place.base.place

pub returns-clause-calls_follow : goal.returns-clause-calls_follow
returns-clause-calls_follow c = λ script mode n st caller call t one few place ready fresh heirs no_task no_mutex now.
    let is = asked (parts_of st) t one few place ready fresh heirs in
    (called_followed (task_at st.base t) t (Alone t (parts_of st)) script mode n st caller call (settles_first t (parts_of st) is) (no_task, no_mutex) (stands_first t (parts_of st) is) now).place.base.place

-- the caller of a frame's number is that number
same_caller : (u t : ℕ) → (u ≡ t → ⊥) → caller (who_of u) ≡ t → ⊥
same_caller zero t apart is = apart is
same_caller (suc u) t apart is = apart is

pub returns-clause-mutex_calls : goal.returns-clause-mutex_calls
returns-clause-mutex_calls c = λ mode n st caller call t one few place ready none apart now.
    (mutex_called (task_at st.base t) t mode n st caller call one ready (same_caller caller t apart)
    (record { place = record { base = record { is = refl; place = place }; mutexes = none }; few = few }) now).place.base.place

pub returns-clause-mutex_calls_follow : goal.returns-clause-mutex_calls_follow
returns-clause-mutex_calls_follow c = λ script mode n st caller call t one few place ready same none apart now.
    (mutex_followed (task_at st.base t) t script mode n st caller call (owning_none_settles (task_at st.base t) t one ready same) (same_caller caller t apart)
    (record { place = record { base = record { is = refl; place = place }; mutexes = none }; few = few }) now).place.base.place

pub returns-clause-task_calls : goal.returns-clause-task_calls
returns-clause-task_calls c = λ b m who t call place ready rotates changes now same.
    task_call_place b m who t call place ready (record { rotates = rotates; changes = changes }) now same

pub returns-clause-task_calls_follow : goal.returns-clause-task_calls_follow
returns-clause-task_calls_follow c = λ script mode n st caller call t one few place ready fresh heirs rotates changes apart same.
    let is = asked (parts_of st) t one few place ready fresh heirs in
    (task_followed (task_at st.base t) t (Alone t (parts_of st)) script mode n st caller call (settles_first t (parts_of st) is) (record { rotates = rotates; changes = changes }) apart same
    (stands_first t (parts_of st) is)).place.base.place

pub returns-clause-owning_none : goal.returns-clause-owning_none
returns-clause-owning_none c = λ p t one none. current_owning_none p.base p.objects.mutexes t none one

pub returns-clause-still_owning_none : goal.returns-clause-still_owning_none
returns-clause-still_owning_none c = settled_owning_none
