-- A state that needs an ending: what it waits in, and that it waits so also once its messages were taken.
use Rattle.std.proofs.Common.{◌≡◌, ℕ, ◌+◌, zero, suc, Bool, true, false, not, ◌&&◌, ◌||◌, List, [], ◌∷◌, Option, Some, None, refl, ◌∙◌, ap, sym, subst}
use Rattle.std.specs.Prelude.{slice_set}
use Rattle.std.specs.List.{find, list_any}
use Rattle.std.specs.Option.{is_some}
use Rattle.tk_types.specs.declared.run.Mode.{Mode}
use Rattle.tk_types.specs.declared.run.Mode.TheVariants as modes
use Rattle.tk_types.specs.declared.script.Script.{Script}
use Rattle.kernel_model.specs.Words.Orders.{entry}
use Rattle.device_model.specs.Devices.Tables.{Devices, Given, Link, Row, device_ids, first_queued, handed, handed_first, handed_given, handed_link, handed_row, link_at, link_handed, request_of, row_at}
use Rattle.device_model.specs.Devices.Handing.{any_given, any_queued, hand_first, handed_one, has_given}
use Rattle.machine_model.specs.States.State.{State, taken}
use Rattle.machine_model.specs.Runs.Step.{Needs, any_unfinished, counted, ended_or_went, handed_if, has_event, is_quiet, needed, needed_or, needed_sync, needs_if, step, step_if, with_first_handed}
use Rattle.device_lemmas.proofs.Emptied.{emptied_any}
use Rattle.kernel_lemmas.proofs.Tables.{entry_there}

-- ---- links

-- where a driver has a request, some driver has one
any_by : (links : List (Option Link)) (d : ℕ) → has_given (entry links d) ≡ true → list_any has_given links ≡ true
any_by [] d has = absurd (cc has)
any_by (link ∷ links) zero has = ap (λ (test : Bool). test || list_any has_given links) has
any_by (link ∷ links) (suc d) has = or_later (has_given link) (list_any has_given links) (any_by links d has)
  where
    or_later : (one other : Bool) → other ≡ true → (one || other) ≡ true
    or_later true other is = refl
    or_later false other is = is

pub any_at : (dv : Devices) (d : ℕ) → has_given (link_at dv d) ≡ true → any_given dv ≡ true
any_at dv d has = any_by dv.links d has

-- ---- the first request goes to its driver in sync mode

-- a driver has a request now, or nothing changed
data IsHanded (dv now : Devices) : Type 0 where
  went : any_given now ≡ true → IsHanded dv now
  stayed : now ≡ dv → IsHanded dv now

row_handed : (dv : Devices) (d : ℕ) (link : Link) (id : ℕ) (slot : Option Row) → link_at dv d ≡ Some link → IsHanded dv (handed_row dv d link id slot)
row_handed dv d link id None at = stayed refl
row_handed dv d link id (Some row) at =
    let now : Option Link = Some (link_handed d link (request_of id (link.number + 1) row)) in
    went (any_by (slice_set dv.links d now) d (ap has_given (entry_there dv.links d link now at)))

first_handed : (dv : Devices) (d : ℕ) (link : Link) (first : Option ℕ) → link_at dv d ≡ Some link → IsHanded dv (handed_first dv d link first)
first_handed dv d link None at = stayed refl
first_handed dv d link (Some id) at = row_handed dv d link id (row_at dv id) at

given_handed : (dv : Devices) (d : ℕ) (link : Link) (given : Option Given) → link_at dv d ≡ Some link → IsHanded dv (handed_given dv d link given)
given_handed dv d link (Some given) at = stayed refl
given_handed dv d link None at = first_handed dv d link (first_queued dv d) at

slot_handed : (dv : Devices) (d : ℕ) (slot : Option Link) → link_at dv d ≡ slot → IsHanded dv (handed_link dv d slot)
slot_handed dv d None at = stayed refl
slot_handed dv d (Some link) at = given_handed dv d link link.given at

one_handed : (dv : Devices) (first : Option ℕ) → IsHanded dv (handed_one first dv)
unfolding handed
one_handed dv None = stayed refl
one_handed dv (Some d) = slot_handed dv d (link_at dv d) refl

hand_first_is : (dv : Devices) → IsHanded dv (hand_first dv)
unfolding hand_first
hand_first_is dv = one_handed dv (find (λ d. is_some (first_queued dv d)) (device_ids dv))

-- ---- what a state waits in

-- it waits as it is; or, in sync mode, where no driver had a request, the first that waited has gone to its driver
pub data IsWaiting (mode : Mode) (st : State) : State → Type 0 where
  itself : IsWaiting mode st st
  handed_on : mode ≡ modes.Sync → is_quiet st ≡ true → any_given st.objects.devices ≡ false → any_given (hand_first st.objects.devices) ≡ true → IsWaiting mode st (with_first_handed st)

by_handed : (st : State) (now : Devices) → is_quiet st ≡ true → any_given st.objects.devices ≡ false → hand_first st.objects.devices ≡ now → IsHanded st.objects.devices now → IsWaiting modes.Sync st (with_first_handed st)
by_handed st now quiet none is (went given) = handed_on refl quiet none (ap any_given is ∙ given)
by_handed st now quiet none is (stayed same) =
    subst (IsWaiting modes.Sync st) (ap (λ (dv : Devices). record st { objects = record st.objects { devices = dv } }) (sym (is ∙ same))) itself

handed_is : (queued : Bool) (st now : State) → is_quiet st ≡ true → any_given st.objects.devices ≡ false → handed_if queued st ≡ Some now → IsWaiting modes.Sync st now
handed_is true st now quiet none at =
    let same : with_first_handed st ≡ now = cc at in
    subst (IsWaiting modes.Sync st) same (by_handed st (hand_first st.objects.devices) quiet none refl (hand_first_is st.objects.devices))
handed_is false st now quiet none at = absurd (cc at)

sync_is : (given : Bool) (st now : State) → is_quiet st ≡ true → any_given st.objects.devices ≡ given → needed_sync given st ≡ Some now → IsWaiting modes.Sync st now
sync_is true st now quiet is at = let same : st ≡ now = cc at in subst (IsWaiting modes.Sync st) same itself
sync_is false st now quiet is at = handed_is (any_queued st.objects.devices) st now quiet is at

free_is : (needs : Bool) (st now : State) → needs_if needs st ≡ Some now → IsWaiting modes.Free st now
free_is true st now at = let same : st ≡ now = cc at in subst (IsWaiting modes.Free st) same itself
free_is false st now at = absurd (cc at)

mode_is : (mode : Mode) (set : Bool) (st now : State) → is_quiet st ≡ true → needed mode set st ≡ Some now → IsWaiting mode st now
mode_is modes.Sync set st now quiet at = sync_is (any_given st.objects.devices) st now quiet refl at
mode_is modes.Free set st now quiet at = free_is (not set && any_given st.objects.devices) st now at

never_needs : {A : Type 0} (over : Bool) (script : Script) (mode : Mode) (budget : ℕ) (st now : State) → ended_or_went over script mode budget st ≡ Needs now → A
unfolding counted
never_needs true script mode budget st now at = absurd (cc at)
never_needs false script mode budget st now at = absurd (cc at)

or_is : (found : Option State) (set : Bool) (script : Script) (mode : Mode) (budget : ℕ) (st now : State) → is_quiet st ≡ true → needed mode set st ≡ found → needed_or found set script mode budget st ≡ Needs now → IsWaiting mode st now
or_is (Some waiting) set script mode budget st now quiet found at = let same : waiting ≡ now = cc at in subst (IsWaiting mode st) same (mode_is mode set st waiting quiet found)
or_is None set script mode budget st now quiet found at = never_needs (not set && not (any_unfinished st.objects.devices)) script mode budget st now at

quiet_is : (quiet : Bool) (script : Script) (mode : Mode) (budget : ℕ) (st now : State) → is_quiet st ≡ quiet → step_if quiet script mode budget st ≡ Needs now → IsWaiting mode st now
quiet_is true script mode budget st now quiet at =
    let set : Bool = has_event script (st.steps + 1) st in or_is (needed mode set st) set script mode budget st now quiet refl at
quiet_is false script mode budget st now quiet at = never_needs false script mode budget st now at

-- what a state waits in that needs an ending
pub waits : (script : Script) (mode : Mode) (budget : ℕ) (st waiting : State) → step script mode budget st ≡ Needs waiting → IsWaiting mode st waiting
unfolding step
waits script mode budget st waiting at = quiet_is (is_quiet st) script mode budget st waiting refl at

steps_of : (mode : Mode) (st waiting : State) → IsWaiting mode st waiting → waiting.steps ≡ st.steps
steps_of mode st _ itself = refl
steps_of mode st _ (handed_on sync quiet none given) = refl

-- it has as many steps
pub needs_steps : (script : Script) (mode : Mode) (budget : ℕ) (st waiting : State) → step script mode budget st ≡ Needs waiting → waiting.steps ≡ st.steps
needs_steps script mode budget st waiting at = steps_of mode st waiting (waits script mode budget st waiting at)

given_itself : (mode : Mode) (st waiting : State) → any_given st.objects.devices ≡ true → IsWaiting mode st waiting → waiting ≡ st
given_itself mode st _ has itself = refl
given_itself mode st _ has (handed_on sync quiet none given) = absurd (let both : true ≡ false = sym has ∙ none in cc both)

-- where a driver has a request, a state waits as it is
pub given_waits : (script : Script) (mode : Mode) (budget : ℕ) (st waiting : State) → any_given st.objects.devices ≡ true → step script mode budget st ≡ Needs waiting → waiting ≡ st
given_waits script mode budget st waiting has at = given_itself mode st waiting has (waits script mode budget st waiting at)

free_itself : (st waiting : State) → IsWaiting modes.Free st waiting → waiting ≡ st
free_itself st _ itself = refl
free_itself st _ (handed_on sync quiet none given) = absurd (cc sync)

-- so it does in free mode
pub free_waits : (script : Script) (budget : ℕ) (st waiting : State) → step script modes.Free budget st ≡ Needs waiting → waiting ≡ st
free_waits script budget st waiting at = free_itself st waiting (waits script modes.Free budget st waiting at)

-- ---- it waits so once its messages were taken

-- a quiet state, some driver of which has a request, needs an ending in sync mode
sync_needs : (script : Script) (budget : ℕ) (st : State) → is_quiet st ≡ true → any_given st.objects.devices ≡ true → step script modes.Sync budget st ≡ Needs st
unfolding step
sync_needs script budget st quiet given =
    let set : Bool = has_event script (st.steps + 1) st in
    ap (λ (test : Bool). step_if test script modes.Sync budget st) quiet
    ∙ ap (λ (test : Bool). needed_or (needed_sync test st) set script modes.Sync budget st) given

waits_again : (script : Script) (mode : Mode) (budget : ℕ) (st waiting : State) → taken st ≡ st → step script mode budget st ≡ Needs waiting → IsWaiting mode st waiting → step script mode budget (taken waiting) ≡ Needs (taken waiting)
waits_again script mode budget st _ none at itself = ap (λ (now : State). step script mode budget now) none ∙ at ∙ ap Needs (sym none)
waits_again script mode budget st _ none at (handed_on sync quiet before given) =
    let now : State = taken (with_first_handed st) in
    ap (λ (mode : Mode). step script mode budget now) sync
    ∙ sync_needs script budget now quiet (emptied_any (hand_first st.objects.devices) ∙ given)

-- a state without messages that needs an ending needs it again once its messages were taken, and has no more of them
pub still_needs : (script : Script) (mode : Mode) (budget : ℕ) (st waiting : State) → taken st ≡ st → step script mode budget st ≡ Needs waiting → step script mode budget (taken waiting) ≡ Needs (taken waiting)
still_needs script mode budget st waiting none at = waits_again script mode budget st waiting none at (waits script mode budget st waiting at)
