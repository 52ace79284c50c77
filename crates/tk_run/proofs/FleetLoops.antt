-- A run with drivers, turn after turn: what the sink took so far are the lines so far.
use Rattle.std.proofs.Common.{◌≡◌, ◌≢◌, ◌≤◌, ◌⊎◌, inl, inr, ℕ, ◌+◌, List, [], ◌∷◌, ◌++◌, length, Option, Some, None, Result, Ok, Err, refl, ap, sym, subst, ◌∙◌, arith}
use Rattle.std.proofs.lemmas.List.{append-nil, append_assoc, length-append}
use Rattle.tk_types.specs.declared.line.Line.{Line}
use Rattle.tk_types.specs.declared.run.End.{End}
use Rattle.tk_types.specs.declared.run.End.TheVariants as ends
use Rattle.tk_types.specs.declared.run.Mode.{Mode}
use Rattle.tk_types.specs.declared.script.Script.{Script}
use Rattle.device_model.specs.declared.messages.Message.{Message}
use Rattle.fleet_model.specs.Fleets.{EachHasPlace, Fleet, fleet_start}
use Rattle.machine_model.specs.Runs.Machine.{Machine, new_machine}
use Rattle.machine_model.specs.Runs.Trace.{start}
use Rattle.run_model.specs.SoFar.{SoFar, first_so_far}
use Rattle.tk_model.specs.LineText.{text_of_lines}
use Rattle.tk_ports.specs.Streams.{Appends, AppendsFront, Rose}
use Rattle.tk_ports.proofs.Streams.{front_behind, front_none, front_of_part, rose_behind}
use Rattle.tk_trace.proofs.Growth.{lines_append}
use Rattle.turn_lemmas.specs.Going.{Coming, Going, Hands, IsFleetRun, IsFrontOf, IsGoing, IsOver, MayHand}
use Rattle.turn_lemmas.proofs.Ends.{so_far_front}
use Rattle.turn_lemmas.proofs.Moves.{coming_may, coming_start, coming_waits, handed_going}
use Rattle.tk_run.specs.FleetRuns.{BreaksOff, EndsSo, GoesOn, Held, MayClose, RunBreaksOff, RunEnds, RunsDone, RunsToEnd, TakeAnswers, Took, TookFront}
use Rattle.tk_run.specs.Outcomes.{status_of_end}
use Rattle.tk_run.specs.Replays.{WriteAnswers, failure_status}
use Rattle.tk_run.specs.declared.status.Status.{Status}
use Rattle.tk_run.specs.declared.status.Status.TheVariants as statuses
use Rattle.tk_run.specs.declared.writing.Unwritten.{Unwritten}
use Rattle.tk_run.specs.declared.writing.Unwritten.TheVariants as failures
use Rattle.tk_run.proofs.FleetTurns.{breaks_here, coming_close, took_lines, took_nothing}

-- a run on its way, and what the sink took since it began
pub record IsRunningOn (script : Script) (mode : Mode) (budget : ℕ) (first now : Held) (machine : Machine) (fleet : Fleet) : Type 0 where
  pub run : IsFleetRun script budget
  pub so : SoFar
  pub going : Going script mode budget so None 0 machine fleet
  pub written : Took first now (text_of_lines so.lines)

-- ---- it begins

pub begins_may : (script : Script) (mode : Mode) (budget : ℕ) (machine : Machine) (fleet : Fleet) → machine ≡ new_machine script mode budget → fleet ≡ fleet_start script.devices → MayHand fleet machine.messages
begins_may script mode budget machine fleet is made =
    subst (λ (f : Fleet). MayHand f machine.messages) (sym made) (subst (λ (m : Machine). MayHand (fleet_start script.devices) m.messages) (sym is)
    (coming_may script mode budget (first_so_far script) (start script).lines [] None 0 (new_machine script mode budget) (fleet_start script.devices) (coming_start script mode budget)))

pub runs_first : (script : Script) (mode : Mode) (budget : ℕ) (machine now : Machine) (fleet next : Fleet) (old new : Held) → IsFleetRun script budget → machine ≡ new_machine script mode budget → fleet ≡ fleet_start script.devices →
    Took old new (text_of_lines machine.lines) → Hands fleet machine.messages next [] → now ≡ record machine { lines = []; messages = [] } → IsRunningOn script mode budget old new now next
runs_first script mode budget machine now fleet next old new run is made took h emptied = record {
  run = run;
  so = first_so_far script;
  going = handed_going script mode budget (first_so_far script) (start script).lines [] None 0 (new_machine script mode budget) now (fleet_start script.devices) next (coming_start script mode budget)
      (subst (λ (f : Fleet). Hands f [] next []) made (subst (λ (ms : List Message). Hands fleet ms next []) (ap (λ (m : Machine). m.messages) is) h))
      (emptied ∙ ap (λ (m : Machine). record m { lines = []; messages = [] }) is);
  written = subst (λ (l : List Line). Took old new (text_of_lines l)) (ap (λ (m : Machine). m.lines) is) took;
}

-- ---- it breaks off

front_taken : (middle new : Held) (bytes : List ℕ) (failure : Unwritten) → WriteAnswers middle.bytes new.bytes bytes (Err failure) → AppendsFront middle.bytes new.bytes bytes
front_taken middle new bytes failures.WriteFault answer = answer
front_taken middle new bytes failures.NoMemory answer = subst (λ (held : Option (List ℕ)). AppendsFront middle.bytes held bytes) (sym answer) (front_none middle.bytes bytes)

breaks_by : (script : Script) (mode : Mode) (budget : ℕ) (before lines : List Line) (failure : Unwritten) (fleet : Fleet) (old middle new : Held) → IsFrontOf script mode budget (before ++ lines) → Took old middle (text_of_lines before) →
    TookFront middle new (text_of_lines lines) failure → MayClose script fleet → RunBreaksOff script mode budget failure fleet old new
breaks_by script mode budget before lines failure fleet old middle new front took rest places =
    let joined : text_of_lines (before ++ lines) ≡ text_of_lines before ++ text_of_lines lines = lines_append before lines in
    let size : length (text_of_lines (before ++ lines)) ≡ length (text_of_lines before) + length (text_of_lines lines) = ap (λ (t : List ℕ). length t) joined ∙ length-append (text_of_lines before) (text_of_lines lines) in
    record {
      lines = before ++ lines;
      front = front;
      taken = subst (AppendsFront old.bytes new.bytes) (sym joined) (front_behind old.bytes middle.bytes new.bytes (text_of_lines before) (text_of_lines lines) took.appended (front_taken middle new (text_of_lines lines) failure rest.answer));
      rose = λ is. rose_behind old.faults middle.faults new.faults took.faults_stay (rest.rose is);
      faults_stay = omega (arith, took.faults_stay, rest.faults_stay);
      certain = λ fits.
          let one = took.certain (omega (arith, fits, size)) in
          let two = rest.certain (omega (arith, fits, size, one.1)) in
          (two.0, two.1 ∙ one.0);
      places = places;
    }

-- before the first line was written
pub breaks_first : (script : Script) (mode : Mode) (budget : ℕ) (machine : Machine) (fleet now : Fleet) (old new : Held) (failure : Unwritten) → IsFleetRun script budget → machine ≡ new_machine script mode budget → fleet ≡ fleet_start script.devices →
    TookFront old new (text_of_lines machine.lines) failure → now ≡ fleet → RunBreaksOff script mode budget failure now old new
breaks_first script mode budget machine fleet now old new failure run is made rest same =
    let c = coming_start script mode budget in
    breaks_by script mode budget [] (start script).lines failure now old old new (so_far_front script mode budget (first_so_far script) run c.so_far) (took_nothing old)
    (subst (λ (l : List Line). TookFront old new (text_of_lines l) failure) (ap (λ (m : Machine). m.lines) is) rest)
    (subst (MayClose script) (sym (same ∙ made)) (coming_close script mode budget (first_so_far script) (start script).lines [] None 0 (new_machine script mode budget) (fleet_start script.devices) c))

-- ---- a turn

pub is_going : (script : Script) (mode : Mode) (budget : ℕ) (first now : Held) (machine : Machine) (fleet : Fleet) → IsRunningOn script mode budget first now machine fleet → IsGoing script mode budget None 0 machine fleet
is_going script mode budget first now machine fleet r = record { run = r.run; so = r.so; going = r.going }

pub runs_on : (script : Script) (mode : Mode) (budget : ℕ) (first old new : Held) (machine now : Machine) (fleet next : Fleet) (r : IsRunningOn script mode budget first old machine fleet) →
    GoesOn script mode budget r.so now next old new → IsRunningOn script mode budget first new now next
runs_on script mode budget first old new machine now fleet next r g = record {
  run = r.run;
  so = g.next;
  going = g.going;
  written = subst (λ (l : List Line). Took first new (text_of_lines l)) (sym g.more) (took_lines first old new r.so.lines g.lines r.written g.written);
}

to_end : (script : Script) (mode : Mode) (budget : ℕ) (end : End) (first old new : Held) (machine : Machine) (fleet next : Fleet) (r : IsRunningOn script mode budget first old machine fleet) →
    EndsSo script mode budget r.so end next old new → RunsToEnd script mode budget end next first new
to_end script mode budget end first old new machine fleet next r e = record { lines = r.so.lines ++ e.lines; over = e.over; written = took_lines first old new r.so.lines e.lines r.written e.written }

pub ends_run : (script : Script) (mode : Mode) (budget : ℕ) (end : End) (status : Status) (first old new : Held) (machine : Machine) (fleet next : Fleet) (r : IsRunningOn script mode budget first old machine fleet) →
    EndsSo script mode budget r.so end next old new → status ≡ status_of_end end → RunEnds script mode budget next first new status
ends_run script mode budget ends.Idle status first old new machine fleet next r e is = subst (RunEnds script mode budget next first new) (sym is) (inl (to_end script mode budget ends.Idle first old new machine fleet next r e))
ends_run script mode budget ends.Halt status first old new machine fleet next r e is = subst (RunEnds script mode budget next first new) (sym is) (inr (to_end script mode budget ends.Halt first old new machine fleet next r e))
ends_run script mode budget ends.Budget status first old new machine fleet next r e is = subst (RunEnds script mode budget next first new) (sym is) (to_end script mode budget ends.Budget first old new machine fleet next r e)

failed_run : (script : Script) (mode : Mode) (budget : ℕ) (failure : Unwritten) (fleet : Fleet) (first new : Held) → RunBreaksOff script mode budget failure fleet first new → RunEnds script mode budget fleet first new (failure_status failure)
failed_run script mode budget failures.WriteFault fleet first new b = b
failed_run script mode budget failures.NoMemory fleet first new b = b

pub failed_status : (script : Script) (mode : Mode) (budget : ℕ) (failure : Unwritten) (status : Status) (fleet : Fleet) (first new : Held) → RunBreaksOff script mode budget failure fleet first new → status ≡ failure_status failure → RunEnds script mode budget fleet first new status
failed_status script mode budget failure status fleet first new b is = subst (RunEnds script mode budget fleet first new) (sym is) (failed_run script mode budget failure fleet first new b)

pub breaks_run : (script : Script) (mode : Mode) (budget : ℕ) (failure : Unwritten) (status : Status) (first old new : Held) (machine : Machine) (fleet next : Fleet) (r : IsRunningOn script mode budget first old machine fleet) →
    BreaksOff script mode budget r.so failure next old new → status ≡ failure_status failure → RunEnds script mode budget next first new status
breaks_run script mode budget failure status first old new machine fleet next r b is =
    failed_status script mode budget failure status next first new
    (breaks_by script mode budget (r.so.lines ++ b.before) b.lines failure next first b.middle new
    (subst (IsFrontOf script mode budget) (sym (append_assoc r.so.lines b.before b.lines)) b.front)
    (took_lines first old b.middle r.so.lines b.before r.written b.written) b.unwritten b.places)
    is

-- a run that is stopped where it is has written a front of its trace
pub stops_run : (script : Script) (mode : Mode) (budget : ℕ) (first now : Held) (machine : Machine) (fleet : Fleet) → IsRunningOn script mode budget first now machine fleet → RunEnds script mode budget fleet first now statuses.NoMemory
stops_run script mode budget first now machine fleet r =
    let b = breaks_here script mode budget r.so None 0 machine fleet now r.run r.going in
    breaks_run script mode budget failures.NoMemory statuses.NoMemory first now now machine fleet fleet r b refl
