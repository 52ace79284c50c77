-- A run of a script without devices, fed with no endings, ends by itself or at its budget.
use Rattle.std.proofs.Common.{◌≡◌, ℕ, zero, suc, [], Some, None}
use Rattle.tk_types.specs.declared.line.LastLine.{LastLine}
use Rattle.tk_types.specs.declared.line.LastLine.TheVariants as lasts
use Rattle.tk_types.specs.declared.run.End.{End}
use Rattle.tk_types.specs.declared.run.End.TheVariants as ends
use Rattle.tk_types.specs.declared.run.Mode.{Mode}
use Rattle.tk_types.specs.declared.run.Mode.TheVariants as modes
use Rattle.tk_types.specs.declared.script.Script.{Script}
use Rattle.machine_model.specs.States.State.{State, parts_of}
use Rattle.machine_model.specs.Runs.Reached as reached
use Rattle.machine_model.specs.Runs.Reached.{Steps}
use Rattle.machine_model.specs.Runs.Step.{Ends, Needs, Pace, Went, step}
use Rattle.machine_model.specs.Runs.Trace.{Rest, free_pace, last_of, run_turn, runs, start, sync_pace, trace}
use Rattle.machine_lemmas.proofs.Reached.{kept_move, start_has}
use Rattle.machine_lemmas.proofs.Walk.{of_kept}
use Rattle.step_lemmas.proofs.NoDevices.{HasNone, NeedsNone, never_needs, none_is_kept, start_none}

-- a run ended by itself, or at its budget
abbrev pub IsEnd : LastLine → Type 0
IsEnd lasts.Starved = ⊥
IsEnd (lasts.Unfit entry) = ⊥
IsEnd _ = Unit {0}

ended : (end : End) → IsEnd (last_of end)
ended ends.Idle = tt
ended ends.Halt = tt
ended ends.Budget = tt

abbrev GoesOn : Rest → ℕ → State → Type 0
GoesOn next k now = IsEnd (next now k []).last

free_ends : (next : Rest) (st : State) (k : ℕ) (pace : Pace) → NeedsNone pace → GoesOn next k (reached.after_pace st pace) → IsEnd (free_pace next st k [] pace).last
free_ends next st k (Went event None) needs goes = goes
free_ends next st k (Went event (Some end)) needs goes = ended end
free_ends next st k (Needs waiting) needs goes = absurd needs
free_ends next st k Ends needs goes = tt

sync_ends : (next : Rest) (script : Script) (st : State) (k : ℕ) (pace : Pace) → NeedsNone pace → GoesOn next k (reached.after_pace st pace) → IsEnd (sync_pace next script st k [] pace).last
sync_ends next script st k (Went event None) needs goes = goes
sync_ends next script st k (Went event (Some end)) needs goes = ended end
sync_ends next script st k (Needs waiting) needs goes = absurd needs
sync_ends next script st k Ends needs goes = tt

turn_ends : (next : Rest) (script : Script) (mode : Mode) (budget : ℕ) (st : State) (k : ℕ) → HasNone (parts_of st) → GoesOn next k (reached.after_pace st (step script mode budget st)) → IsEnd (run_turn next script mode budget st k []).last
turn_ends next script modes.Free budget st k none goes = free_ends next st k (step script modes.Free budget st) (never_needs script modes.Free budget st none) goes
turn_ends next script modes.Sync budget st k none goes = sync_ends next script st k (step script modes.Sync budget st) (never_needs script modes.Sync budget st none) goes

pub runs_end : (left : ℕ) (script : Script) (mode : Mode) (budget : ℕ) (st : State) (k : ℕ) → HasNone (parts_of st) → IsEnd (runs left script mode budget st k []).last
unfolding runs
runs_end zero script mode budget st k none = tt
runs_end (suc left) script mode budget st k none =
    turn_ends (λ now j later. runs left script mode budget now j later) script mode budget st k none
    (runs_end left script mode budget (reached.after_pace st (step script mode budget st)) k (kept_move HasNone (of_kept HasNone none_is_kept) script mode budget st Steps none))

-- the trace of a script without devices
pub trace_ends : (script : Script) (mode : Mode) (budget : ℕ) → script.devices ≡ [] → IsEnd (trace script mode budget []).last
unfolding trace
trace_ends script mode budget none = runs_end _ script mode budget (start script).state 1 (start_has HasNone (λ p cur has. has) script (start_none script none))
