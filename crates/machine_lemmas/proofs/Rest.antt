-- From a state at rest nothing follows, and what follows an event comes to rest.
use Rattle.std.proofs.Common.{◌≡◌, ℕ, ◌≤◌, Bool, true, false, ◌||◌, List, [], ◌∷◌, ◌++◌, Option, None, length, refl, ◌∙◌, ap, sym}
use Rattle.tk_types.specs.declared.run.Mode.{Mode}
use Rattle.tk_types.specs.declared.run.Mode.TheVariants as modes
use Rattle.tk_types.specs.declared.script.Script.{Script}
use Rattle.tk_types.specs.declared.task.Release.{Release}
use Rattle.kernel_model.specs.Tasks.Base.{Base, chosen}
use Rattle.kernel_model.specs.Tasks.Views.{is_current}
use Rattle.object_model.specs.Mutexes.Tables.{Mutexes}
use Rattle.object_model.specs.Mutexes.Priority.{current_of}
use Rattle.device_model.specs.Devices.Handing.{hand_over}
use Rattle.machine_model.specs.States.Objects.{Parts, serve_object}
use Rattle.machine_model.specs.States.State.{State, parts_of}
use Rattle.machine_model.specs.Events.Settle.{handed, refreshed, served_within, settle}
use Rattle.machine_model.specs.Events.Follow.{Event, delays, dispatched, follow_each, follow_release, followed, settled, turned, with_releases}
use Rattle.machine_model.specs.Events.Rest.{AreUpToDate, IsAtRest}
use Rattle.kernel_lemmas.proofs.Tables.{itself}
use Rattle.machine_lemmas.proofs.HandedTwice.{handed_twice}
use Rattle.machine_lemmas.proofs.HandingServes.{handed_none}
use Rattle.machine_lemmas.proofs.Servings.{FewDevices}
use Rattle.machine_lemmas.proofs.Settling.{enough_servings, settle_current, settled_none}
use Rattle.machine_lemmas.proofs.Unserved.{turned_to, turned_unserved}
use Rattle.machine_lemmas.proofs.Walk.{settled_keeps}

-- ---- what has settled

-- nobody can be served, each priority is that of its definition, and no request can go to a driver
pub record HasSettled (mode : Mode) (p : Parts) : Type 0 where
  pub unserved : serve_object p ≡ None
  pub up_to_date : AreUpToDate p.base p.objects.mutexes
  pub given : handed mode p ≡ p

settle_unserved : (mode : Mode) (p : Parts) → FewDevices p → length p.base.tasks ≤ 256 → serve_object (settle mode p) ≡ None
unfolding settle
settle_unserved mode p few slots = handed_none mode (served_within 512 (refreshed p)) (enough_servings p few slots)

pub settle_given : (mode : Mode) (p : Parts) → handed mode (settle mode p) ≡ settle mode p
unfolding settle
settle_given mode p = handed_twice mode (served_within 512 (refreshed p))

-- settling leaves what has settled
pub settle_settles : (mode : Mode) (p : Parts) → FewDevices p → length p.base.tasks ≤ 256 → HasSettled mode (settle mode p)
settle_settles mode p few slots = record { unserved = settle_unserved mode p few slots; up_to_date = settle_current mode p; given = settle_given mode p }

-- ---- neither dispatching nor what is taken of the ends of waits changes that

turned_current : (b : Base) (m : Mutexes) (cur : Option ℕ) (r : List Release) → AreUpToDate b m → AreUpToDate (turned_to b cur r) m
unfolding current_of
turned_current b m cur r is = record { each = is.each }

turned_given : (mode : Mode) (p : Parts) (cur : Option ℕ) (r : List Release) → handed mode p ≡ p → handed mode (record p { base = turned_to p.base cur r }) ≡ record p { base = turned_to p.base cur r }
unfolding hand_over
turned_given modes.Sync p cur r is = refl
turned_given modes.Free p cur r is = ap (λ (q : Parts). record q { base = turned_to p.base cur r }) is

pub turned_settled : (mode : Mode) (p : Parts) (cur : Option ℕ) (r : List Release) → HasSettled mode p → HasSettled mode (record p { base = turned_to p.base cur r })
turned_settled mode p cur r is = record {
  unserved = turned_unserved p cur r is.unserved;
  up_to_date = turned_current p.base p.objects.mutexes cur r is.up_to_date;
  given = turned_given mode p cur r is.given;
}

pub followed_settled : (script : Script) (mode : Mode) (n : ℕ) (st : State) → FewDevices (parts_of st) → length st.base.tasks ≤ 256 → HasSettled mode (parts_of (followed script mode n st).state)
followed_settled script mode n st few slots =
    settled_keeps (HasSettled mode) (λ p cur is. turned_settled mode p cur p.base.released is) (λ p is. turned_settled mode p p.base.cur [] is) script mode n st (settle_settles mode (parts_of st) few slots)

-- ---- nothing follows

settled_same : (mode : Mode) (st : State) → IsAtRest mode st → settled mode st ≡ st
settled_same mode st rest = ap (λ (p : Parts). record st { base = p.base; objects = p.objects; memory = p.memory }) (settled_none mode (parts_of st) rest.up_to_date rest.unserved rest.given)

releases_none : (script : Script) (n : ℕ) (st : State) → st.base.released ≡ [] → with_releases script n st ≡ record { state = st; lines = [] }
unfolding with_releases follow_each
releases_none script n st none =
    ap (λ (ended : List Release). follow_each script n (record st { base = record st.base { released = [] } }) ended) none
    ∙ ap (λ (ended : List Release). record { state = record st { base = record st.base { released = ended } }; lines = [] }) (sym none)

turned_none : (same : Bool) (n : ℕ) (st : State) → same ≡ true → turned same n st ≡ record { state = st; lines = [] }
turned_none true n st is = refl
turned_none false n st is = absurd (cc is)

dispatched_none : (n : ℕ) (st : State) → (delays st || is_current (chosen st.base) st.base.cur) ≡ true → dispatched n st ≡ record { state = st; lines = [] }
unfolding dispatched
dispatched_none n st same = turned_none (delays st || is_current (chosen st.base) st.base.cur) n st same

-- nothing follows from a state at rest
pub followed_none : (script : Script) (mode : Mode) (n : ℕ) (st : State) → IsAtRest mode st → followed script mode n st ≡ record { state = st; lines = [] }
unfolding followed
followed_none script mode n st rest =
    let released : with_releases script n (settled mode st) ≡ record { state = st; lines = [] } = ap (with_releases script n) (settled_same mode st rest) ∙ releases_none script n st rest.followed in
    let after : Event → Event = λ before. record { state = (dispatched n before.state).state; lines = before.lines ++ (dispatched n before.state).lines } in
    ap after released ∙ dispatched_none n st rest.dispatched

-- ---- what follows comes to rest

taken_each : (script : Script) (n : ℕ) (st : State) (ended : List Release) → st.base.released ≡ [] → (follow_each script n st ended).state.base.released ≡ []
unfolding follow_each follow_release
taken_each script n st [] none = none
taken_each script n st (first ∷ rest) none = taken_each script n (follow_release script n st first).state rest none

-- where no end of a wait is left to take, dispatching leaves none
pub turned_taken : (same : Bool) (n : ℕ) (st : State) → st.base.released ≡ [] → (turned same n st).state.base.released ≡ []
turned_taken true n st none = none
turned_taken false n st none = none

followed_taken : (script : Script) (mode : Mode) (n : ℕ) (st : State) → (followed script mode n st).state.base.released ≡ []
unfolding followed with_releases dispatched
followed_taken script mode n st =
    turned_taken _ n _ (taken_each script n (record (settled mode st) { base = record (settled mode st).base { released = [] } }) (settled mode st).base.released refl)

or_true : (test : Bool) → (test || true) ≡ true
or_true true = refl
or_true false = refl

-- after dispatching the chosen task is the current one, or it is delayed
pub turned_dispatched : (same : Bool) (n : ℕ) (st : State) → (delays st || is_current (chosen st.base) st.base.cur) ≡ same →
    (delays (turned same n st).state || is_current (chosen (turned same n st).state.base) (turned same n st).state.base.cur) ≡ true
unfolding chosen
turned_dispatched true n st is = is
turned_dispatched false n st is = ap (λ same. delays st || same) (itself (chosen st.base)) ∙ or_true (delays st)

followed_dispatched : (script : Script) (mode : Mode) (n : ℕ) (st : State) → (delays (followed script mode n st).state || is_current (chosen (followed script mode n st).state.base) (followed script mode n st).state.base.cur) ≡ true
unfolding followed dispatched
followed_dispatched script mode n st = turned_dispatched _ n (with_releases script n (settled mode st)).state refl

-- a state in whose table there is room for 256 tasks, and which has at most eight devices, comes to rest
pub followed_rest : (script : Script) (mode : Mode) (n : ℕ) (st : State) → FewDevices (parts_of st) → length st.base.tasks ≤ 256 → IsAtRest mode (followed script mode n st).state
followed_rest script mode n st few slots =
    let has = followed_settled script mode n st few slots in
    record {
      unserved = has.unserved;
      up_to_date = has.up_to_date;
      given = has.given;
      followed = followed_taken script mode n st;
      dispatched = followed_dispatched script mode n st;
    }
