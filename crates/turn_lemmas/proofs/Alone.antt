-- Without devices both modes have one trace, which is fed with no endings.
use Rattle.std.proofs.Common.{◌≡◌, ℕ, zero, suc, ◌+◌, ◌≤◌, ◌<◌, List, [], ◌∷◌, length, Option, Some, None, refl, ap, sym, subst, ◌∙◌, arith}
use Rattle.tk_types.specs.declared.line.Entry.{Entry}
use Rattle.tk_types.specs.declared.run.End.{End}
use Rattle.tk_types.specs.declared.run.Mode.{Mode}
use Rattle.tk_types.specs.declared.run.Mode.TheVariants as modes
use Rattle.tk_types.specs.declared.script.Script.{Script}
use Rattle.kernel_model.specs.Bodies.Statements.{IsRunnable}
use Rattle.machine_model.specs.States.State.{State, parts_of, taken}
use Rattle.machine_model.specs.Events.Follow.{Event}
use Rattle.machine_model.specs.Runs.Reached.{Steps}
use Rattle.machine_model.specs.Runs.Reached as reached
use Rattle.machine_model.specs.Runs.Step.{Ends, Needs, Pace, Went, step}
use Rattle.machine_model.specs.Runs.SyncTrace.{SyncRun, sync_trace}
use Rattle.machine_model.specs.Runs.Trace.{Trace, lines_of, start, trace}
use Rattle.run_model.specs.SoFar.{IsSoFar, SoFar, after_event, begins, first_so_far, goes_on}
use Rattle.tk_model.specs.Journal.{journal_of}
use Rattle.count_lemmas.proofs.Steps.{step_steps}
use Rattle.run_lemmas.proofs.Ends.{ends_idle, ends_with}
use Rattle.run_lemmas.proofs.Onward.{steps_left}
use Rattle.run_lemmas.proofs.Told.{trace_tells}
use Rattle.way_lemmas.proofs.SyncRuns.{sync_ended, sync_idle}
use Rattle.machine_lemmas.proofs.Reached.{kept_move, start_has}
use Rattle.machine_lemmas.proofs.Walk.{of_kept}
use Rattle.step_lemmas.proofs.NoDevices.{HasNone, NeedsNone, never_needs, none_is_kept, start_none}

-- both traces are one
abbrev Alike : Script → ℕ → Type 0
Alike script budget = trace script modes.Sync budget [] ≡ sync_trace script budget

-- a run that has taken nothing in
record Untouched (script : Script) (budget n : ℕ) (so : SoFar) : Type 0 where
  is : IsSoFar script modes.Sync budget so
  none : so.entries ≡ []
  has : HasNone (parts_of so.state)
  left : budget ≤ so.state.steps + n

fed_none : (script : Script) (budget : ℕ) (so : SoFar) → so.entries ≡ [] → trace script modes.Sync budget [] ≡ trace script modes.Sync budget so.entries
fed_none script budget so none = ap (λ (entries : List Entry). trace script modes.Sync budget entries) (sym none)

alike_by : (n : ℕ) (script : Script) (budget : ℕ) (so : SoFar) (pace : Pace) → ((next : SoFar) → Untouched script budget n next → Alike script budget) → IsRunnable script → 1 ≤ budget → Untouched script budget (suc n) so →
    step script modes.Sync budget so.state ≡ pace → NeedsNone pace → HasNone (parts_of (reached.after_pace so.state pace)) → Alike script budget
alike_by n script budget so (Went event None) again runnable low u went needs now =
    let steps : event.state.steps ≡ so.state.steps + 1 = step_steps script modes.Sync budget so.state event None went in
    again (after_event so event) (record { is = goes_on u.is went; none = u.none; has = now; left = omega (arith, u.left, steps) })
alike_by n script budget so (Went event (Some end)) again runnable low u went needs now =
    fed_none script budget so u.none
    ∙ ((ends_with script modes.Sync budget so event end low u.is went).0 ∙ sym (ap (λ (r : SyncRun). r.trace) (sync_ended script budget so event end runnable low u.is went)))
alike_by n script budget so (Needs waiting) again runnable low u went needs now = absurd needs
alike_by n script budget so Ends again runnable low u went needs now =
    fed_none script budget so u.none
    ∙ ((ends_idle script modes.Sync budget so low u.is went).0 ∙ sym (ap (λ (r : SyncRun). r.trace) (sync_idle script budget so runnable low u.is went)))

-- it comes to an end that is that of both
ends_alike : (n : ℕ) (script : Script) (budget : ℕ) (so : SoFar) → IsRunnable script → 1 ≤ budget → Untouched script budget n so → Alike script budget
ends_alike zero script budget so runnable low u = absurd (omega (arith, u.left, steps_left script modes.Sync budget so low u.is))
ends_alike (suc n) script budget so runnable low u =
    alike_by n script budget so (step script modes.Sync budget so.state) (λ next left. ends_alike n script budget next runnable low left) runnable low u refl (never_needs script modes.Sync budget so.state u.has)
    (kept_move HasNone (of_kept HasNone none_is_kept) script modes.Sync budget so.state Steps u.has)

pub alone_sync : (script : Script) (mode : Mode) (budget : ℕ) → IsRunnable script → 1 ≤ budget → script.devices ≡ [] → mode ≡ modes.Sync → trace script mode budget [] ≡ sync_trace script budget
alone_sync script mode budget runnable low none same =
    ap (λ (m : Mode). trace script m budget []) same
    ∙ ends_alike budget script budget (first_so_far script) runnable low
    (record { is = begins; none = refl; has = start_has HasNone (λ p cur has. has) script (start_none script none); left = omega arith })

-- and it tells that it was fed with none
pub alone_own : (script : Script) (mode : Mode) (budget : ℕ) → 1 ≤ budget → trace script mode budget [] ≡ trace script mode budget (journal_of (lines_of (trace script mode budget [])))
alone_own script mode budget low = ap (λ (entries : List Entry). trace script mode budget entries) (sym (trace_tells script mode budget (first_so_far script) low begins))
