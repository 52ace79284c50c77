-- A statement that is no call, and not the end of a task's own body, leaves every task in its place: it changes flags at most.
use Rattle.std.proofs.Common.{◌≡◌, ℕ, zero, suc, Bool, true, false, cond, ℤ, pos, refl}
use Rattle.std.specs.Bool.{◌==◌}
use Rattle.tk_types.specs.declared.calls.Call.{Call}
use Rattle.tk_types.specs.declared.run.Act.{Act}
use Rattle.tk_types.specs.declared.run.Act.TheVariants as acts
use Rattle.tk_types.specs.declared.run.Mode.{Mode}
use Rattle.kernel_model.specs.LawWords.Precedence.{KeepsPlace}
use Rattle.context_model.specs.Contexts.Tables.{depth_in}
use Rattle.machine_model.specs.Events.Bodies.{body_returned, returned}
use Rattle.machine_model.specs.Events.Follow.{Event}
use Rattle.machine_model.specs.Runs.Turns.{acted, fell_in}
use Rattle.machine_model.specs.States.State.{State}
use Rattle.place_lemmas.proofs.Kept.{ended_place}

either_place : (t : ℕ) (test : Bool) (one other : Event) → KeepsPlace one.state.base t → KeepsPlace other.state.base t → KeepsPlace (cond {A = Event} test one other).state.base t
either_place t true one other first second = first
either_place t false one other first second = second

-- a body that isn't a task's own returns
pub returned_place : (n : ℕ) (st : State) (u t : ℕ) (value : ℤ) → KeepsPlace st.base t → KeepsPlace (body_returned n st u value).state.base t
unfolding body_returned returned
returned_place n st zero t value is = ended_place st t is
returned_place n st (suc u) t value is = either_place t (depth_in st.objects.contexts (suc u) == 0) _ _ is is

fell_place : (mode : Mode) (n : ℕ) (st : State) (u depth t : ℕ) → (depth ≡ 0 → u ≡ 0) → KeepsPlace st.base t → KeepsPlace (fell_in mode n st u depth).state.base t
fell_place mode n st zero depth t inside is = returned_place n st 0 t (pos 0) is
fell_place mode n st (suc u) zero t inside is = absurd (cc (inside refl))
fell_place mode n st (suc u) (suc depth) t inside is = returned_place n st (suc u) t (pos 0) is

-- what a statement asks for, where that is no call
pub acted_place : (mode : Mode) (n : ℕ) (st : State) (u : ℕ) (act : Act) (t : ℕ) → ((call : Call) → act ≡ acts.Call call → ⊥) →
    (act ≡ acts.Fell → depth_in st.objects.contexts u ≡ 0 → u ≡ 0) → KeepsPlace st.base t →
    KeepsPlace (acted mode n st u act).state.base t
unfolding acted
acted_place mode n st u acts.Computed t no_call inside is = is
acted_place mode n st u (acts.Call call) t no_call inside is = absurd (no_call call refl)
acted_place mode n st u (acts.Say text) t no_call inside is = is
acted_place mode n st u (acts.Return value) t no_call inside is = returned_place n st u t value is
acted_place mode n st u acts.Fell t no_call inside is = fell_place mode n st u (depth_in st.objects.contexts u) t (inside refl) is
acted_place mode n st u acts.Halt t no_call inside is = is
