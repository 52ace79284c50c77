-- The arrival of an ending, in the form of the code.
use Rattle.std.proofs.Common.{◌≡◌, ◌+◌, Bool, true, false, List, [], ◌∷◌, ◌++◌, Option, Some, None, refl, sym, ◌∙◌, ap, subst, append_assoc}
use Rattle.std.specs.Prelude.{unwrap_or}
use Rattle.std.specs.Option.{is_some, option_map}
use Rattle.tk_types.specs.declared.line.Line.{Line}
use Rattle.tk_types.specs.declared.run.Mode.{Mode}
use Rattle.tk_types.specs.declared.script.Script.{Script}
use Rattle.kernel_model.specs.Tasks.Waits.{HavePlaces}
use Rattle.device_model.specs.declared.messages.Ending.{Ending}
use Rattle.device_model.specs.declared.messages.Message.{Message}
use Rattle.device_model.specs.Devices.Endings.{DevParts, arrive}
use Rattle.device_model.specs.Devices.Handing.{messages}
use Rattle.machine_model.specs.States.Objects.{dev_parts, with_devices}
use Rattle.machine_model.specs.States.State.{State, parts_of, taken, with_parts}
use Rattle.machine_model.specs.Events.Arrivals.{after_arrival, arrived, ending_line}
use Rattle.machine_model.specs.Events.Follow.{Event, followed}
use Rattle.step_lemmas.specs.Arrivals.{HasArrived, arrival_of, landed}
use Rattle.step_lemmas.specs.Known.{HasDevices}
use Rattle.step_lemmas.specs.Sound.{IsSound, IsWhole}
use Rattle.step_lemmas.proofs.Going.{arrival_sound}

-- the parts of the code after an ending has come are those of the definition
pub landed_is : (view st : State) (q now : DevParts) (found : Option DevParts) → view ≡ st → dev_parts (parts_of view) ≡ q → now ≡ unwrap_or found q →
    with_parts view (with_devices (parts_of view) now) ≡ unwrap_or (option_map (landed st) found) st
landed_is view st q now None same whole left =
    ap (λ (p : DevParts). with_parts view (with_devices (parts_of view) p)) (left ∙ sym whole) ∙ same
landed_is view st q now (Some parts) same whole left =
    ap (λ (p : DevParts). with_parts view (with_devices (parts_of view) p)) left ∙ ap (λ (s : State). with_parts s (with_devices (parts_of s) parts)) same

some_lands : (found : Option DevParts) (f : DevParts → State) → is_some (option_map f found) ≡ is_some found
some_lands None f = refl
some_lands (Some q) f = refl

pub lands : (st : State) (e : Ending) (some : Bool) → some ≡ is_some (arrive (dev_parts (parts_of st)) e) → some ≡ is_some (arrival_of st e)
lands st e some is = is ∙ sym (some_lands (arrive (dev_parts (parts_of st)) e) (landed st))

kept_sound : (st : State) (e : Ending) (found : Option DevParts) → arrive (dev_parts (parts_of st)) e ≡ found → HavePlaces st.base → IsWhole st → HasDevices st → IsSound st.base st.objects →
    IsSound (unwrap_or (option_map (landed st) found) st).base (unwrap_or (option_map (landed st) found) st).objects
kept_sound st e None is places whole devices sound = sound
kept_sound st e (Some parts) is places whole devices sound = arrival_sound st (landed st parts) e parts places whole devices sound is refl

-- what waits still stands in its order
pub landed_sound : (st now : State) (e : Ending) → HavePlaces st.base → IsWhole st → HasDevices st → IsSound st.base st.objects → now ≡ unwrap_or (arrival_of st e) st → IsSound now.base now.objects
landed_sound st now e places whole devices sound is =
    subst (λ (s : State). IsSound s.base s.objects) (sym is) (kept_sound st e (arrive (dev_parts (parts_of st)) e) refl places whole devices sound)

-- none is fit, and nothing changed
none_by : (script : Script) (mode : Mode) (st : State) (e : Ending) (found : Option DevParts) → is_some (option_map (landed st) found) ≡ false →
    (option_map (after_arrival script mode (st.steps + 1) st e) found ≡ None) × (unwrap_or (option_map (landed st) found) st ≡ st)
none_by script mode st e None is = (refl, refl)
none_by script mode st e (Some parts) is = absurd (cc is)

pub arrived_none : (script : Script) (mode : Mode) (st now : State) (e : Ending) → is_some (arrival_of st e) ≡ false → now ≡ unwrap_or (arrival_of st e) st → (arrived script mode st e ≡ None) × (now ≡ st)
unfolding arrived
arrived_none script mode st now e none is =
    let both = none_by script mode st e (arrive (dev_parts (parts_of st)) e) none in
    (both.0, is ∙ both.1)

-- an ending has arrived, with all that follows it
some_by : (script : Script) (mode : Mode) (st mid : State) (e : Ending) (found : Option DevParts) → is_some (option_map (landed st) found) ≡ true → mid ≡ unwrap_or (option_map (landed st) found) st →
    option_map (after_arrival script mode (st.steps + 1) st e) found
    ≡ Some (record { state = (followed script mode (st.steps + 1) mid).state; lines = (ending_line (st.steps + 1) e ∷ []) ++ (followed script mode (st.steps + 1) mid).lines })
some_by script mode st mid e None some is = absurd (cc some)
some_by script mode st mid e (Some parts) some is =
    ap (λ (s : State). Some (record { state = (followed script mode (st.steps + 1) s).state; lines = (ending_line (st.steps + 1) e ∷ []) ++ (followed script mode (st.steps + 1) s).lines })) (sym is)

pub arrived_some : (script : Script) (mode : Mode) (st mid after now : State) (e : Ending) (line : Line) (before between all : List Line) (waiting sent : List Message) → is_some (arrival_of st e) ≡ true → mid ≡ unwrap_or (arrival_of st e) st →
    line ≡ ending_line (st.steps + 1) e → between ≡ before ++ line ∷ [] → after ≡ (followed script mode (st.steps + 1) mid).state → all ≡ between ++ (followed script mode (st.steps + 1) mid).lines →
    now ≡ taken after → sent ≡ waiting ++ messages after.objects.devices → HasArrived (arrived script mode st e) now before all waiting sent
unfolding arrived
arrived_some script mode st mid after now e line before between all waiting sent some is at_line at_between at_after at_all at_now at_sent =
    let rest : Event = followed script mode (st.steps + 1) mid in
    record {
      event = record { state = rest.state; lines = (ending_line (st.steps + 1) e ∷ []) ++ rest.lines };
      comes = some_by script mode st mid e (arrive (dev_parts (parts_of st)) e) some is;
      state = at_now ∙ ap (λ (s : State). taken s) at_after;
      lines =
          at_all
          ∙ ap (λ ls. ls ++ rest.lines) (at_between ∙ ap (λ (l : Line). before ++ l ∷ []) at_line)
          ∙ append_assoc before (ending_line (st.steps + 1) e ∷ []) rest.lines;
      messages = at_sent ∙ ap (λ (s : State). waiting ++ messages s.objects.devices) at_after;
    }
