-- What a run with drivers came to, once its fleet was closed.
use Rattle.std.specs.Prelude.{not, ◌==◌}
use Rattle.std.specs.Option.{is_some}
use Rattle.std.proofs.lemmas.Bool.Decides.{nat_tests}
use Rattle.std.proofs.lemmas.List.{append-nil, append_assoc, length-append}
use Rattle.std.proofs.Common.{◌≡◌, ◌≢◌, ◌≤◌, ◌<◌, ◌⊎◌, inl, inr, ℕ, ◌+◌, ◌-◌, true, false, List, [], ◌∷◌, ◌++◌, length, map, Option, Some, None, Result, Ok, Err, refl, ap, sym, subst, ◌∙◌, arith}
use Rattle.tk_types.specs.declared.line.Entry.{Entry}
use Rattle.tk_types.specs.declared.line.LastLine.{LastLine}
use Rattle.tk_types.specs.declared.line.LastLine.TheVariants as lasts
use Rattle.tk_types.specs.declared.line.Line.{Line}
use Rattle.tk_types.specs.declared.run.End.{End}
use Rattle.tk_types.specs.declared.run.End.TheVariants as ends
use Rattle.tk_types.specs.declared.run.Mode.{Mode}
use Rattle.tk_types.specs.declared.run.Mode.TheVariants as modes
use Rattle.tk_types.specs.declared.script.Device.{Device}
use Rattle.tk_types.specs.declared.script.Script.{Script}
use Rattle.fleet_model.specs.Fleets.{EachHasPlace, Fleet, fleet_start, most_counted}
use Rattle.fleet_model.specs.Records.{AreJoined, Closes, Record}
use Rattle.fleet_lemmas.proofs.Closes.{closes_tells}
use Rattle.machine_model.specs.Runs.Machine.{Machine, new_machine}
use Rattle.machine_model.specs.Runs.SyncTrace.{sync_trace}
use Rattle.machine_model.specs.Runs.Trace.{Trace, last_of, lines_of, start, trace}
use Rattle.run_model.specs.SoFar.{first_so_far}
use Rattle.run_model.specs.Told.{Tells}
use Rattle.tk_model.specs.Journal.{journal_of}
use Rattle.tk_model.specs.LineText.{text_of_lines}
use Rattle.tk_ports.specs.Streams.{Appends, AppendsFront, Rose}
use Rattle.tk_ports.proofs.Streams.{front_none, front_within}
use Rattle.tk_trace.proofs.Growth.{lines_append}
use Rattle.turn_lemmas.specs.Going.{IsFrontOf, IsOver}
use Rattle.turn_lemmas.proofs.Ends.{over_front, over_places}
use Rattle.turn_lemmas.proofs.Moves.{coming_start, coming_waits}
use Rattle.tk_run.specs.Answers.{IsDone}
use Rattle.tk_run.specs.FleetRuns.{Held, RunBreaksOff, RunEnds, RunsDone, RunsToEnd}
use Rattle.tk_run.specs.Runs.{HasRoom, IsRunOf, RecordTells, ScriptAnswers, StartsAnswers, WritesFront, WritesRun, has_devices}
use Rattle.tk_run.proofs.FleetTurns.{over_close}
use Rattle.tk_run.specs.declared.status.Status.{Status}
use Rattle.tk_run.specs.declared.status.Status.TheVariants as statuses
use Rattle.tk_run.specs.declared.writing.Unwritten.{Unwritten}
use Rattle.tk_run.specs.declared.writing.Unwritten.TheVariants as failures

some_devices : (script : Script) → 1 ≤ length script.devices → has_devices script ≡ true
some_devices script some = by (length script.devices == 0) refl
  where
    by : (b : _) → (length script.devices == 0) ≡ b → not b ≡ true
    by true is = absurd (none is)
      where
        none : (length script.devices == 0) ≡ true → ⊥
        none is = let zero : length script.devices ≡ 0 = grind (arith, nat_tests, is) in omega (arith, zero, some)
    by false is = refl

not_alone : {A : Type 0} (script : Script) → 1 ≤ length script.devices → script.devices ≡ [] → A
not_alone script some none = let zero : length script.devices ≡ 0 = ap (λ (d : List Device). length d) none in absurd (omega (arith, zero, some))

-- ---- the record

run_told : (script : Script) (mode : Mode) (budget : ℕ) (all : List Line) (end : End) (fleet : Fleet) (closed : Record) (o : IsOver script mode budget all end [] fleet) → Closes fleet closed →
    RecordTells script mode budget (trace script mode budget o.entries) (Some closed)
run_told script mode budget all end fleet closed o c =
    (c.joined, subst (λ (entries : List Entry). Tells script mode budget entries closed) (sym o.own) (closes_tells script mode budget o.entries fleet closed c o.follows o.kinds o.polls))

runs_writes : (script : Script) (mode : Mode) (budget : ℕ) (IsEnd : LastLine → Type 0) (end : End) (fleet : Fleet) (closed : Record) (old new : Held) → 1 ≤ length script.devices → RunsToEnd script mode budget end fleet old new → Closes fleet closed →
    IsEnd (last_of end) → WritesRun script mode budget IsEnd old.bytes new.bytes (Some closed)
runs_writes script mode budget IsEnd end fleet closed old new some r c last =
    let run : Trace = trace script mode budget r.over.entries in
    record {
      run = run;
      is = record {
        own = ap (λ (entries : List Entry). trace script mode budget entries) (sym r.over.own);
        sync = r.over.sync;
        alone = λ none. not_alone script some none;
      };
      last = subst IsEnd (sym r.over.last) last;
      written = subst (λ (l : List Line). Appends old.bytes new.bytes (text_of_lines l)) (sym r.over.is) r.written.appended;
      told = run_told script mode budget r.lines end fleet closed r.over c;
      there = sym (some_devices script some);
    }

breaks_front : (script : Script) (mode : Mode) (budget : ℕ) (failure : Unwritten) (fleet : Fleet) (old new : Held) → 1 ≤ length script.devices → RunBreaksOff script mode budget failure fleet old new → WritesFront script mode budget old.bytes new.bytes
breaks_front script mode budget failure fleet old new some b = record {
  run = trace script mode budget b.front.entries;
  own = ap (λ (entries : List Entry). trace script mode budget entries) (sym b.front.own);
  front = within b.lines b.front.rest (lines_of (trace script mode budget b.front.entries)) b.front.is b.taken;
  sync = λ same. let s = b.front.sync same in within b.lines s.0 (lines_of (sync_trace script budget)) s.1 b.taken;
  alone = λ none. not_alone script some none;
}
  where
    within : (lines rest all : List Line) → all ≡ lines ++ rest → AppendsFront old.bytes new.bytes (text_of_lines lines) → AppendsFront old.bytes new.bytes (text_of_lines all)
    within lines rest all is front = subst (λ (t : List ℕ). AppendsFront old.bytes new.bytes t) (sym (ap text_of_lines is ∙ lines_append lines rest)) (front_within old.bytes new.bytes (text_of_lines lines) (text_of_lines rest) front)

-- ---- by the status

done_writes : (script : Script) (mode : Mode) (budget : ℕ) (fleet : Fleet) (closed : Record) (old new : Held) → 1 ≤ length script.devices → RunsDone script mode budget fleet old new → Closes fleet closed →
    WritesRun script mode budget IsDone old.bytes new.bytes (Some closed)
done_writes script mode budget fleet closed old new some (inl r) c = runs_writes script mode budget IsDone ends.Idle fleet closed old new some r c (inl refl)
done_writes script mode budget fleet closed old new some (inr r) c = runs_writes script mode budget IsDone ends.Halt fleet closed old new some r c (inr refl)

-- the answers of a run whose fleet was closed
pub run_answers : (script : Script) (mode : Mode) (budget : ℕ) (fleet : Fleet) (closed : Record) (old new : Held) (status : Status) → 1 ≤ length script.devices → RunEnds script mode budget fleet old new status → Closes fleet closed →
    ScriptAnswers script mode budget old.bytes new.bytes status (Some closed)
run_answers script mode budget fleet closed old new statuses.Done some r c = done_writes script mode budget fleet closed old new some r c
run_answers script mode budget fleet closed old new statuses.Budget some r c = runs_writes script mode budget (λ last. last ≡ lasts.Budget) ends.Budget fleet closed old new some r c refl
run_answers script mode budget fleet closed old new statuses.WriteFault some r c = (breaks_front script mode budget failures.WriteFault fleet old new some r, sym (some_devices script some))
run_answers script mode budget fleet closed old new statuses.NoMemory some r c = breaks_front script mode budget failures.NoMemory fleet old new some r
run_answers script mode budget fleet closed old new statuses.NoThread some r c = absurd r
run_answers script mode budget fleet closed old new statuses.ReadFault some r c = absurd r
run_answers script mode budget fleet closed old new statuses.Starved some r c = absurd r
run_answers script mode budget fleet closed old new statuses.Usage some r c = absurd r
run_answers script mode budget fleet closed old new (statuses.Unfit entry) some r c = absurd r
run_answers script mode budget fleet closed old new (statuses.Differs line) some r c = absurd r
run_answers script mode budget fleet closed old new (statuses.Refused line why) some r c = absurd r

-- each channel has a place for a Stop
pub run_places : (script : Script) (mode : Mode) (budget : ℕ) (fleet : Fleet) (old new : Held) (status : Status) → RunEnds script mode budget fleet old new status → EachHasPlace fleet.channels
run_places script mode budget fleet old new statuses.Done (inl r) = over_places script mode budget r.lines ends.Idle fleet r.over
run_places script mode budget fleet old new statuses.Done (inr r) = over_places script mode budget r.lines ends.Halt fleet r.over
run_places script mode budget fleet old new statuses.Budget r = over_places script mode budget r.lines ends.Budget fleet r.over
run_places script mode budget fleet old new statuses.WriteFault r = r.places.places
run_places script mode budget fleet old new statuses.NoMemory r = r.places.places
run_places script mode budget fleet old new statuses.NoThread r = absurd r
run_places script mode budget fleet old new statuses.ReadFault r = absurd r
run_places script mode budget fleet old new statuses.Starved r = absurd r
run_places script mode budget fleet old new statuses.Usage r = absurd r
run_places script mode budget fleet old new (statuses.Unfit entry) r = absurd r
run_places script mode budget fleet old new (statuses.Differs line) r = absurd r
run_places script mode budget fleet old new (statuses.Refused line why) r = absurd r

-- there is a channel for each device
pub run_many : (script : Script) (mode : Mode) (budget : ℕ) (fleet : Fleet) (old new : Held) (status : Status) → RunEnds script mode budget fleet old new status → length fleet.channels ≡ length script.devices
run_many script mode budget fleet old new statuses.Done (inl r) = (over_close script mode budget r.lines ends.Idle [] fleet r.over).many
run_many script mode budget fleet old new statuses.Done (inr r) = (over_close script mode budget r.lines ends.Halt [] fleet r.over).many
run_many script mode budget fleet old new statuses.Budget r = (over_close script mode budget r.lines ends.Budget [] fleet r.over).many
run_many script mode budget fleet old new statuses.WriteFault r = r.places.many
run_many script mode budget fleet old new statuses.NoMemory r = r.places.many
run_many script mode budget fleet old new statuses.NoThread r = absurd r
run_many script mode budget fleet old new statuses.ReadFault r = absurd r
run_many script mode budget fleet old new statuses.Starved r = absurd r
run_many script mode budget fleet old new statuses.Usage r = absurd r
run_many script mode budget fleet old new (statuses.Unfit entry) r = absurd r
run_many script mode budget fleet old new (statuses.Differs line) r = absurd r
run_many script mode budget fleet old new (statuses.Refused line why) r = absurd r

-- the count of faults rose where the sink failed, and never falls
pub record Counted (old new : Held) (status : Status) : Type 0 where
  pub rose : status ≡ statuses.WriteFault → Rose old.faults new.faults
  pub stay : old.faults ≤ new.faults

pub run_counted : (script : Script) (mode : Mode) (budget : ℕ) (fleet : Fleet) (old new : Held) (status : Status) → RunEnds script mode budget fleet old new status → Counted old new status
run_counted script mode budget fleet old new statuses.Done (inl r) = record { rose = λ is. absurd (cc is); stay = r.written.faults_stay }
run_counted script mode budget fleet old new statuses.Done (inr r) = record { rose = λ is. absurd (cc is); stay = r.written.faults_stay }
run_counted script mode budget fleet old new statuses.Budget r = record { rose = λ is. absurd (cc is); stay = r.written.faults_stay }
run_counted script mode budget fleet old new statuses.WriteFault r = record { rose = λ is. r.rose refl; stay = r.faults_stay }
run_counted script mode budget fleet old new statuses.NoMemory r = record { rose = λ is. absurd (cc is); stay = r.faults_stay }
run_counted script mode budget fleet old new statuses.NoThread r = absurd r
run_counted script mode budget fleet old new statuses.ReadFault r = absurd r
run_counted script mode budget fleet old new statuses.Starved r = absurd r
run_counted script mode budget fleet old new statuses.Usage r = absurd r
run_counted script mode budget fleet old new (statuses.Unfit entry) r = absurd r
run_counted script mode budget fleet old new (statuses.Differs line) r = absurd r
run_counted script mode budget fleet old new (statuses.Refused line why) r = absurd r

-- ---- where the trace of each journal has room

front_fits : (script : Script) (mode : Mode) (budget : ℕ) (all : List Line) (room : ℕ) → HasRoom script mode budget room → IsFrontOf script mode budget all → length (text_of_lines all) ≤ room
front_fits script mode budget all room has f =
    let size : length (text_of_lines (lines_of (trace script mode budget f.entries))) ≡ length (text_of_lines all) + length (text_of_lines f.rest) =
    ap (λ (l : List Line). length (text_of_lines l)) f.is ∙ (ap (λ (t : List ℕ). length t) (lines_append all f.rest) ∙ length-append (text_of_lines all) (text_of_lines f.rest)) in
    omega (arith, size, has f.entries)

over_fits : (script : Script) (mode : Mode) (budget : ℕ) (all : List Line) (end : End) (fleet : Fleet) (room : ℕ) → HasRoom script mode budget room → IsOver script mode budget all end [] fleet → length (text_of_lines all) ≤ room
over_fits script mode budget all end fleet room has o = front_fits script mode budget all room has (over_front script mode budget all end [] fleet o)

abbrev Sure : Held → Held → Status → Type 0
Sure old new status = (status ≢ statuses.WriteFault) × (new.faults ≡ old.faults)

pub run_sure : (script : Script) (mode : Mode) (budget : ℕ) (fleet : Fleet) (old new : Held) (status : Status) → RunEnds script mode budget fleet old new status → HasRoom script mode budget old.room → Sure old new status
run_sure script mode budget fleet old new statuses.Done (inl r) has = (λ is. cc is, (r.written.certain (over_fits script mode budget r.lines ends.Idle fleet old.room has r.over)).0)
run_sure script mode budget fleet old new statuses.Done (inr r) has = (λ is. cc is, (r.written.certain (over_fits script mode budget r.lines ends.Halt fleet old.room has r.over)).0)
run_sure script mode budget fleet old new statuses.Budget r has = (λ is. cc is, (r.written.certain (over_fits script mode budget r.lines ends.Budget fleet old.room has r.over)).0)
run_sure script mode budget fleet old new statuses.WriteFault r has = let sure = r.certain (front_fits script mode budget r.lines old.room has r.front) in (absurd (sure.0 refl), sure.1)
run_sure script mode budget fleet old new statuses.NoMemory r has = (λ is. cc is, (r.certain (front_fits script mode budget r.lines old.room has r.front)).1)
run_sure script mode budget fleet old new statuses.NoThread r has = absurd r
run_sure script mode budget fleet old new statuses.ReadFault r has = absurd r
run_sure script mode budget fleet old new statuses.Starved r has = absurd r
run_sure script mode budget fleet old new statuses.Usage r has = absurd r
run_sure script mode budget fleet old new (statuses.Unfit entry) r has = absurd r
run_sure script mode budget fleet old new (statuses.Differs line) r has = absurd r
run_sure script mode budget fleet old new (statuses.Refused line why) r has = absurd r

-- ---- the fleet at the start, and the machine of the run

pub start_places : (script : Script) (mode : Mode) (budget : ℕ) (fleet : Fleet) → fleet ≡ fleet_start script.devices → EachHasPlace fleet.channels
start_places script mode budget fleet same =
    subst (λ (f : Fleet). EachHasPlace f.channels) (sym same)
    (coming_waits script mode budget (first_so_far script) (start script).lines [] None 0 (new_machine script mode budget) (fleet_start script.devices) (coming_start script mode budget))

pub own_ends : (script : Script) (mode : Mode) (budget : ℕ) (machine : Machine) (fleet : Fleet) (old new : Held) (status : Status) → machine ≡ new_machine script mode budget →
    RunEnds machine.script mode machine.budget fleet old new status → RunEnds script mode budget fleet old new status
own_ends script mode budget machine fleet old new status same is = subst (λ (m : Machine). RunEnds m.script mode m.budget fleet old new status) same is
