-- What becomes of requests in every run.
use Rattle.std.proofs.Common.{◌≡◌, ℕ, zero, suc, ◌+◌, true, false, List, [], ◌∷◌, ◌++◌, Option, Some, None, refl, ap, sym, subst, ◌∙◌}
use Rattle.std.specs.Option.{option_map}
use Rattle.std.specs.Prelude.{map}
use Rattle.tk_types.specs.declared.line.How.{How}
use Rattle.tk_types.specs.declared.line.How.TheVariants.{Cut, Done}
use Rattle.tk_types.specs.declared.run.Mode.{Mode}
use Rattle.tk_types.specs.declared.script.Device.{Device}
use Rattle.tk_types.specs.declared.script.Script.{Script}
use Rattle.kernel_model.specs.Bodies.Statements.{IsRunnable}
use Rattle.kernel_model.specs.Words.Orders.{entry}
use Rattle.device_model.specs.declared.messages.Ending.{Ending}
use Rattle.device_model.specs.Devices.Endings.{DevParts, arrive, expected}
use Rattle.device_model.specs.Devices.MoveProofs.{is_abort}
use Rattle.device_model.specs.Devices.Tables.{Devices, Row, devices_start, given_in, has_ended, link_start, row_at}
use Rattle.device_laws.specs.Moves.{Leads}
use Rattle.device_laws.specs.Requests.{AreApart, AreTied, IsGone, NoneAborted, StaysSo, asked_in, is_asked}
use Rattle.device_laws.specs.Words.{WasExpected, but_for}
use Rattle.device_laws.proofs.Aborts.{cut_was_asked, done_is_plain}
use Rattle.device_laws.proofs.Asked.{all_were_asked}
use Rattle.device_laws.proofs.Fits.{arrived_was_expected}
use Rattle.device_laws.proofs.Leading.{arriving, leading, no_moves, takes}
use Rattle.device_laws.proofs.Lives.{apart_at_first, nothing_there, stay_apart, stays_gone, stays_so}
use Rattle.device_laws.proofs.Ties.{stay_tied, tied_at_first}
use Rattle.machine_model.specs.States.Objects.{dev_parts}
use Rattle.machine_model.specs.States.State.{State, parts_of, state_start}
use Rattle.machine_model.specs.Events.Arrivals.{after_arrival, arrived}
use Rattle.machine_model.specs.Events.Follow.{Event}
use Rattle.machine_model.specs.Runs.Reached.{Move, state_after}
use Rattle.machine_lemmas.proofs.BaseKept.{start_slots}
use Rattle.machine_lemmas.proofs.Reached.{kept_move, reached_has}
use Rattle.machine_lemmas.proofs.Walk.{of_kept}
use Rattle.journal_laws.specs.Requests.{EndedAsAsked, devices_after}
use Rattle.journal_laws.proofs.Made.{IsOfMoves, IsSaid, said_is_kept}

-- ---- devices change by their moves

of_moves : (dv : Devices) → IsOfMoves (Leads dv)
of_moves dv = record { moves = leading dv; arrivals = arriving dv; takes = takes dv }

first_made : (script : Script) → IsRunnable script → IsSaid (Leads (devices_start script)) (parts_of (state_start script))
unfolding state_start
first_made script runnable = record { few = (start_slots script runnable).few; so = no_moves (devices_start script) }

reached_made : (script : Script) (mode : Mode) (budget : ℕ) (moves : List Move) → IsRunnable script → IsSaid (Leads (devices_start script)) (parts_of (state_after script mode budget moves))
reached_made script mode budget moves runnable =
    reached_has (IsSaid (Leads (devices_start script))) (said_is_kept (Leads (devices_start script)) (of_moves (devices_start script))) script mode budget moves (first_made script runnable)

pub made_from_start : (script : Script) (mode : Mode) (budget : ℕ) (moves : List Move) → IsRunnable script → Leads (devices_start script) (devices_after script mode budget moves)
made_from_start script mode budget moves runnable = (reached_made script mode budget moves runnable).so

later_made : (dv : Devices) (script : Script) (mode : Mode) (budget : ℕ) (before more : List Move) → IsSaid (Leads dv) (parts_of (state_after script mode budget before)) → IsSaid (Leads dv) (parts_of (state_after script mode budget (more ++ before)))
unfolding state_after
later_made dv script mode budget before [] made = made
later_made dv script mode budget before (move ∷ more) made =
    kept_move (IsSaid (Leads dv)) (of_kept (IsSaid (Leads dv)) (said_is_kept (Leads dv) (of_moves dv))) script mode budget (state_after script mode budget (more ++ before)) move (later_made dv script mode budget before more made)

pub made_from_before : (script : Script) (mode : Mode) (budget : ℕ) (before more : List Move) → IsRunnable script → Leads (devices_after script mode budget before) (devices_after script mode budget (more ++ before))
made_from_before script mode budget before more runnable =
    let dv : Devices = devices_after script mode budget before in
    (later_made dv script mode budget before more (record { few = (reached_made script mode budget before runnable).few; so = no_moves dv })).so

-- ---- requests end once

pub reached_apart : (script : Script) (mode : Mode) (budget : ℕ) (moves : List Move) → IsRunnable script → AreApart (devices_after script mode budget moves)
reached_apart script mode budget moves runnable = let made = made_from_start script mode budget moves runnable in subst AreApart made.leads (stay_apart made.moves (devices_start script) (apart_at_first script))

pub reached_tied : (script : Script) (mode : Mode) (budget : ℕ) (moves : List Move) → IsRunnable script → AreTied (devices_after script mode budget moves)
reached_tied script mode budget moves runnable = let made = made_from_start script mode budget moves runnable in subst AreTied made.leads (stay_tied made.moves (devices_start script) (tied_at_first script))

pub later_so : (script : Script) (mode : Mode) (budget : ℕ) (before more : List Move) (id : ℕ) (row : Row) → IsRunnable script → row_at (devices_after script mode budget before) id ≡ Some row → has_ended row.life ≡ true →
    StaysSo row (devices_after script mode budget (more ++ before))
later_so script mode budget before more id row runnable there over =
    let dv : Devices = devices_after script mode budget before in
    let made = made_from_before script mode budget before more runnable in
    subst (StaysSo row) made.leads (stays_so made.moves dv id row (reached_apart script mode budget before runnable) there over)

pub later_gone : (script : Script) (mode : Mode) (budget : ℕ) (before more : List Move) (serial : ℕ) → IsRunnable script → IsGone serial (devices_after script mode budget before) → IsGone serial (devices_after script mode budget (more ++ before))
later_gone script mode budget before more serial runnable gone =
    let made = made_from_before script mode budget before more runnable in subst (IsGone serial) made.leads (stays_gone serial made.moves (devices_after script mode budget before) gone)

-- ---- requests end aborted where that was asked

none_asked : (devices : List Device) (d : ℕ) → asked_in (given_in (entry (map link_start devices) d)) ≡ false
none_asked [] d = refl
none_asked (device ∷ devices) zero = refl
none_asked (device ∷ devices) (suc d) = none_asked devices d

unasked_at_first : (devices : List Device) (d : ℕ) → asked_in (given_in (entry (None ∷ map link_start devices) d)) ≡ false
unasked_at_first devices zero = refl
unasked_at_first devices (suc d) = none_asked devices d

none_at_first : (script : Script) → NoneAborted (devices_start script)
unfolding devices_start
none_at_first script = record { drivers = λ d. unasked_at_first script.devices d; requests = λ id row there. absurd (nothing_there 65 id row there) }

pub reached_as_asked : (script : Script) (mode : Mode) (budget : ℕ) (moves : List Move) → IsRunnable script → EndedAsAsked script (devices_after script mode budget moves)
reached_as_asked script mode budget moves runnable =
    let made = made_from_start script mode budget moves runnable in record { made = made; asked = all_were_asked (devices_start script) made.moves (tied_at_first script) (none_at_first script) }

was_expected : (script : Script) (mode : Mode) (st : State) (ending : Ending) (event : Event) (found : Option DevParts) → arrive (dev_parts (parts_of st)) ending ≡ found →
    option_map (after_arrival script mode (st.steps + 1) st ending) found ≡ Some event → WasExpected ending (expected st.objects.devices ending.device ending.how)
was_expected script mode st ending event None is comes = absurd (cc comes)
was_expected script mode st ending event (Some q) is comes = arrived_was_expected (dev_parts (parts_of st)) q ending is

expected_there : (script : Script) (mode : Mode) (st : State) (ending : Ending) (event : Event) → arrived script mode st ending ≡ Some event → WasExpected ending (expected st.objects.devices ending.device ending.how)
unfolding arrived
expected_there script mode st ending event comes = was_expected script mode st ending event (arrive (dev_parts (parts_of st)) ending) refl comes

pub arrived_as_asked : (script : Script) (mode : Mode) (st : State) (ending : Ending) (event : Event) (count : ℕ) → arrived script mode st ending ≡ Some event → ending.how ≡ Cut count → is_asked st.objects.devices ending.device ≡ true
arrived_as_asked script mode st ending event count comes how =
    let fit = expected_there script mode st ending event comes in
    cut_was_asked st.objects.devices ending.device count (but_for ending 0 fit.0) (ap (λ (h : How). expected st.objects.devices ending.device h) (sym how) ∙ fit.1)

pub arrived_plain : (script : Script) (mode : Mode) (st : State) (ending : Ending) (event : Event) → arrived script mode st ending ≡ Some event → ending.how ≡ Done → is_abort ending.error ≡ false
arrived_plain script mode st ending event comes how =
    let fit = expected_there script mode st ending event comes in
    done_is_plain st.objects.devices ending.device (but_for ending 0 fit.0) (ap (λ (h : How). expected st.objects.devices ending.device h) (sym how) ∙ fit.1)
