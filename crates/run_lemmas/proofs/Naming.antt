-- An ending that is fit is the one that its entry names, but for how many messages its driver had taken, and the room of its bytes.
use Rattle.std.proofs.Common.{◌≡◌, ℕ, ◌+◌, Bool, true, false, cond, Option, Some, None, refl, ◌∙◌, ap, sym}
use Rattle.std.specs.Bool.{◌==◌}
use Rattle.std.specs.Option.{is_some, option_map}
use Rattle.std.proofs.lemmas.Bool.Decides.{Decides-eqb}
use Rattle.tk_types.specs.declared.run.Mode.{Mode}
use Rattle.tk_types.specs.declared.script.Script.{Script}
use Rattle.device_model.specs.declared.messages.Ending.{Ending}
use Rattle.device_model.specs.Devices.Endings.{DevParts, arrive, arrive_fit, arrive_given, arrive_link, expected, expected_given, expected_link, is_fit}
use Rattle.device_model.specs.Devices.Handing.{any_given}
use Rattle.device_model.specs.Devices.Tables.{Given, Link, given_in, link_at}
use Rattle.machine_model.specs.States.Objects.{dev_parts}
use Rattle.machine_model.specs.States.State.{State, parts_of}
use Rattle.machine_model.specs.Events.Follow.{Event}
use Rattle.machine_model.specs.Events.Arrivals.{after_arrival, arrived}
use Rattle.machine_model.specs.Runs.Trace.{named_ending, of_request}
use Rattle.device_laws.specs.Words.{WasExpected, but_for}
use Rattle.device_laws.proofs.Fits.{arrived_was_expected}
use Rattle.run_model.specs.SoFar.{entry_before}
use Rattle.run_model.specs.Told.{untold}
use Rattle.run_lemmas.proofs.Needing.{any_at}

-- ---- an arrival goes by what a journal holds

fit_alike : (p : DevParts) (e : Ending) (room : ℕ) (link : Link) (given : Given) (fit : Bool) → arrive_fit fit p (but_for e 0 room) link given ≡ arrive_fit fit p e link given
fit_alike p e room link given true = refl
fit_alike p e room link given false = refl

given_alike : (p : DevParts) (e : Ending) (room : ℕ) (link : Link) (given : Option Given) → arrive_given p (but_for e 0 room) link given ≡ arrive_given p e link given
given_alike p e room link None = refl
given_alike p e room link (Some given) = fit_alike p e room link given (is_fit e link given)

link_alike : (p : DevParts) (e : Ending) (room : ℕ) (link : Option Link) → arrive_link p (but_for e 0 room) link ≡ arrive_link p e link
link_alike p e room None = refl
link_alike p e room (Some link) = given_alike p e room link link.given

arrive_alike : (p : DevParts) (e : Ending) (room : ℕ) → arrive p (but_for e 0 room) ≡ arrive p e
unfolding arrive
arrive_alike p e room = link_alike p e room (link_at p.table e.device)

event_alike : (script : Script) (mode : Mode) (st : State) (e : Ending) (room : ℕ) (left : Option DevParts) →
    option_map (after_arrival script mode (st.steps + 1) st (but_for e 0 room)) left ≡ option_map (after_arrival script mode (st.steps + 1) st e) left
event_alike script mode st e room None = refl
event_alike script mode st e room (Some q) = refl

-- how many messages were taken, and the room of the bytes, play no part in an arrival
pub arrives_alike : (script : Script) (mode : Mode) (st : State) (e : Ending) (room : ℕ) → arrived script mode st (but_for e 0 room) ≡ arrived script mode st e
unfolding arrived
arrives_alike script mode st e room =
    ap (option_map (after_arrival script mode (st.steps + 1) st (but_for e 0 room))) (arrive_alike (dev_parts (parts_of st)) e room)
    ∙ event_alike script mode st e room (arrive (dev_parts (parts_of st)) e)

-- ---- the ending that is named

request_itself : (e : Ending) (same : Bool) → (e.request == e.request) ≡ same → cond same (Some e) None ≡ Some e
request_itself e true is = refl
request_itself e false is = absurd (let both : false ≡ true = sym is ∙ (Decides-eqb e.request e.request).1 refl in cc both)

-- what is expected for an ending's device and kind is named by its entry, where the request is its own
expected_is_named : (st : State) (e named : Ending) (n : ℕ) → expected st.objects.devices e.device e.how ≡ Some named → named.request ≡ e.request → named_ending st (entry_before n e) ≡ Some named
expected_is_named st e named n is same =
    ap (of_request e.request) is ∙ ap (λ (request : ℕ). of_request request (Some named)) (sym same) ∙ request_itself named (named.request == named.request) refl

-- an ending that is fit is named by its entry
pub record IsNamed (script : Script) (mode : Mode) (st : State) (e : Ending) (event : Event) : Type 0 where
  pub named : Ending
  pub is : named_ending st (entry_before (st.steps + 1) e) ≡ Some named
  pub same : untold e ≡ untold named
  pub entry : (n : ℕ) → entry_before n named ≡ entry_before n e
  pub itself : named_ending st (entry_before (st.steps + 1) named) ≡ Some named  -- as its own entry does
  pub arrives : arrived script mode st named ≡ Some event

by_expected : (script : Script) (mode : Mode) (st : State) (e : Ending) (event : Event) → arrived script mode st e ≡ Some event → WasExpected e (expected st.objects.devices e.device e.how) → IsNamed script mode st e event
by_expected script mode st e event comes was =
    let named : Ending = but_for e 0 was.0 in
    let is : named_ending st (entry_before (st.steps + 1) e) ≡ Some named = expected_is_named st e named (st.steps + 1) was.1 refl in
    record { named = named; is = is; same = refl; entry = λ n. refl; itself = is; arrives = arrives_alike script mode st e was.0 ∙ comes }

by_arrival : (script : Script) (mode : Mode) (st : State) (e : Ending) (event : Event) (left : Option DevParts) → arrived script mode st e ≡ Some event → arrive (dev_parts (parts_of st)) e ≡ left →
    option_map (after_arrival script mode (st.steps + 1) st e) left ≡ Some event → IsNamed script mode st e event
by_arrival script mode st e event None comes is made = absurd (cc made)
by_arrival script mode st e event (Some q) comes is made = by_expected script mode st e event comes (arrived_was_expected (dev_parts (parts_of st)) q e is)

pub fit_is_named : (script : Script) (mode : Mode) (st : State) (e : Ending) (event : Event) → arrived script mode st e ≡ Some event → IsNamed script mode st e event
unfolding arrived
fit_is_named script mode st e event comes = by_arrival script mode st e event (arrive (dev_parts (parts_of st)) e) comes refl comes

-- ---- where an ending is named

given_there : (d : ℕ) (link : Link) (given : Option Given) (e named : Ending) → of_request e.request (expected_given d e.how link given) ≡ Some named → is_some given ≡ true
given_there d link None e named is = absurd (cc is)
given_there d link (Some given) e named is = refl

link_there : (d : ℕ) (link : Option Link) (e named : Ending) → of_request e.request (expected_link d e.how link) ≡ Some named → is_some (given_in link) ≡ true
link_there d None e named is = absurd (cc is)
link_there d (Some link) e named is = given_there d link link.given e named is

-- where an ending is named its driver has a request
pub named_given : (st : State) (n : ℕ) (e named : Ending) → named_ending st (entry_before n e) ≡ Some named → any_given st.objects.devices ≡ true
unfolding expected
named_given st n e named is = any_at st.objects.devices e.device (link_there e.device (link_at st.objects.devices e.device) e named is)
