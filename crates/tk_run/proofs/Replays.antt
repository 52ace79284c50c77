-- The loop of a replay, over plain variables: what the sink took, and what is still to be written, make the whole.
use Rattle.std.proofs.Common.{◌≡◌, ◌≢◌, Result, Ok, Err, ℕ, ◌+◌, ◌<◌, ◌≤◌, List, [], ◌∷◌, ◌++◌, length, drop, Option, Some, None, ◌⊎◌, inl, inr, refl, subst, sym, ap, ◌∙◌, arith}
use Rattle.std.proofs.lemmas.List.{append-nil, append_assoc, drop-drop, length-append, length-drop}
use Rattle.tk_types.specs.declared.line.Entry.{Entry}
use Rattle.tk_types.specs.declared.line.LastLine.{LastLine}
use Rattle.tk_types.specs.declared.line.LastLine.TheVariants as lasts
use Rattle.tk_types.specs.declared.line.Line.{Line}
use Rattle.tk_types.specs.declared.run.Mode.{Mode}
use Rattle.tk_types.specs.declared.script.Script.{Script}
use Rattle.tk_ports.specs.Streams.{Appends, AppendsFront}
use Rattle.tk_ports.proofs.Streams.{appends_append, front_of_part, front_behind, front_within}
use Rattle.machine_model.specs.States.State.{State}
use Rattle.machine_model.specs.Runs.Machine.{Machine, new_machine}
use Rattle.machine_model.specs.Runs.Trace.{runs, start, trace}
use Rattle.tk_model.specs.LineText.{text_of_lines}
use Rattle.tk_trace.proofs.Growth.{lines_append}
use Rattle.tk_run.specs.declared.replay_turn.Fate.{Fate}
use Rattle.tk_run.specs.declared.replay_turn.Fate.TheVariants as fates
use Rattle.tk_run.specs.declared.replay_turn.FedTurn.{FedTurn}
use Rattle.tk_run.specs.declared.status.Status.{Status}
use Rattle.tk_run.specs.declared.status.Status.TheVariants as statuses
use Rattle.tk_run.specs.Answers.{IsCertain, OutcomeAnswers}
use Rattle.tk_run.specs.Outcomes.{Outcome, status_of_last}
use Rattle.tk_run.specs.Replays.{CountsSteps, WriteAnswers, failure_status}
use Rattle.tk_run.specs.declared.writing.Unwritten.{Unwritten}
use Rattle.tk_run.specs.declared.writing.Unwritten.TheVariants as failures
use Rattle.tk_run.specs.Writings.{Writing, behind_lines, writing}
use Rattle.tk_run.specs.FedTurns.{Course, GoesOn, IsReady, TurnGives, course, next_course, settled}
use Rattle.count_lemmas.proofs.Steps.{start_unstepped}
use Rattle.tk_run.proofs.Runs.{IsRunning, before_last, run_goes_on, run_starts}
use Rattle.tk_run.proofs.FedTraces.{course_written, fate_written, fed_is, later_runs, runs_written, went_is}

-- what a machine has still to hand out, with so many turns left, and fed with these entries
abbrev pub remaining : ℕ → Machine → ℕ → List Entry → Writing
remaining left m k entries = writing (runs left m.script m.mode m.budget m.state k entries)

-- the loop before a turn: so many turns are done, each of which took an entry or did a step
pub record IsFeeding (held held_now : Option (List ℕ)) (faults faults_now room room_now : ℕ) (whole : Writing) (m : Machine) (mode : Mode) (budget : ℕ) (journal : List Entry) (turns taken left : ℕ) : Type 0 where
  pub ready : IsReady m
  pub mode_is : m.mode ≡ mode
  pub budget_is : m.budget ≡ budget
  pub counted : m.state.steps + taken ≡ turns
  pub within : taken ≤ length journal
  pub running : IsRunning held held_now faults faults_now room room_now whole (remaining left m (taken + 1) (drop taken journal))

-- ---- lines that are written, or not

-- what a run that is written comes to
abbrev pub written : Writing → Outcome
written whole = record { status = status_of_last whole.last; bytes = text_of_lines whole.lines }

-- the text of the next lines comes first
parts_of_now : (now behind : Writing) (lines : List Line) → now ≡ behind_lines lines behind → text_of_lines now.lines ≡ text_of_lines lines ++ text_of_lines behind.lines
parts_of_now now behind lines is = ap (λ (run : Writing). text_of_lines run.lines) is ∙ lines_append lines behind.lines

-- a front of the next lines was written
pub front_written : {held mid : Option (List ℕ)} {faults faults_mid room room_mid : ℕ} {whole now : Writing} (new : Option (List ℕ)) (behind : Writing) (lines : List Line)
    → IsRunning held mid faults faults_mid room room_mid whole now → now ≡ behind_lines lines behind → AppendsFront mid new (text_of_lines lines) → AppendsFront held new (text_of_lines whole.lines)
front_written {held} {mid} {whole = whole} {now = now} new behind lines h is part =
    let text : List ℕ = text_of_lines lines in
    let rest : List ℕ = text_of_lines behind.lines in
    let joins : (h.front ++ text) ++ rest ≡ text_of_lines whole.lines =
    append_assoc h.front text rest ∙ (ap (λ (l : List ℕ). h.front ++ l) (sym (parts_of_now now behind lines is)) ∙ h.joins) in
    rw (← joins) (front_within held new (h.front ++ text) rest (front_behind held mid new h.front text h.taken part))

-- nothing of them was
pub nothing_written : {held mid : Option (List ℕ)} {faults faults_mid room room_mid : ℕ} {whole now : Writing} (new : Option (List ℕ))
    → IsRunning held mid faults faults_mid room room_mid whole now → new ≡ mid → AppendsFront held new (text_of_lines whole.lines)
nothing_written {held} {mid} {whole = whole} {now = now} new h same = rw same (front_of_part held mid h.front (text_of_lines now.lines) (text_of_lines whole.lines) h.taken h.joins)

-- where the whole surely has room, so have they
room_for_lines : {held mid : Option (List ℕ)} {faults faults_mid room room_mid : ℕ} {whole now : Writing} (behind : Writing) (lines : List Line)
    → IsRunning held mid faults faults_mid room room_mid whole now → now ≡ behind_lines lines behind → length (text_of_lines whole.lines) ≤ room → (faults_mid ≡ faults) × (length (text_of_lines lines) ≤ room_mid)
room_for_lines {now = now} behind lines h is fits =
    let before = h.certain fits in
    (before.0, omega (arith, before.1, ap length (parts_of_now now behind lines is), length-append (text_of_lines lines) (text_of_lines behind.lines)))

pub unwritten_outcome : {held mid : Option (List ℕ)} {faults faults_mid room room_mid : ℕ} {whole now : Writing} (new : Option (List ℕ)) (behind : Writing) (lines : List Line) (failure : Unwritten) (status : Status)
    → IsRunning held mid faults faults_mid room room_mid whole now → now ≡ behind_lines lines behind → WriteAnswers mid new (text_of_lines lines) (Err failure) → status ≡ failure_status failure
    → OutcomeAnswers (written whole) held new status
unwritten_outcome new behind lines failures.WriteFault status h is part same = rw same (front_written new behind lines h is part)
unwritten_outcome new behind lines failures.NoMemory status h is none same = rw same (nothing_written new h none)

abbrev not_written : Unwritten → Result (Unit {0}) Unwritten
not_written failure = Err failure

certainly : (status : Status) (why : Unwritten) → not_written why ≢ not_written failures.WriteFault → (failure_status why ≡ status) ⊎ (failure_status why ≡ statuses.NoMemory)
certainly status failures.WriteFault never = absurd (never refl)
certainly status failures.NoMemory never = inr refl

pub unwritten_certain : {held mid : Option (List ℕ)} {faults faults_mid room room_mid : ℕ} {whole now : Writing} {Left : Type 0} (faults_new : ℕ) (behind : Writing) (lines : List Line) (failure : Unwritten) (status : Status)
    → IsRunning held mid faults faults_mid room room_mid whole now → now ≡ behind_lines lines behind
    → (length (text_of_lines lines) ≤ room_mid → (not_written failure ≢ not_written failures.WriteFault) × (faults_new ≡ faults_mid) × Left) → status ≡ failure_status failure
    → length (text_of_lines whole.lines) ≤ room → IsCertain (status_of_last whole.last) faults faults_new status
unwritten_certain {whole = whole} faults_new behind lines failure status h is sure same fits =
    let now = room_for_lines behind lines h is fits in
    let turn = sure now.1 in
    record { answer_is = rw same (certainly (status_of_last whole.last) failure turn.0); no_fault = turn.1 ∙ now.0 }

answered : (whole : Writing) (last : LastLine) (held new : Option (List ℕ)) → whole.last ≡ last → Appends held new (text_of_lines whole.lines) → OutcomeAnswers (written whole) held new (status_of_last last)
answered whole lasts.Idle held new is all = (ap status_of_last is, all)
answered whole lasts.Halt held new is all = (ap status_of_last is, all)
answered whole lasts.Budget held new is all = (ap status_of_last is, all)
answered whole lasts.Starved held new is all = (ap status_of_last is, all)
answered whole (lasts.Unfit entry) held new is all = (ap status_of_last is, all)

-- the last lines were written
pub last_outcome : {held mid : Option (List ℕ)} {faults faults_mid room room_mid : ℕ} {whole now : Writing} (new : Option (List ℕ)) (lines : List Line) (last : LastLine) (steps : ℕ) (status : Status)
    → IsRunning held mid faults faults_mid room room_mid whole now → now ≡ record { lines = lines; last = last; steps = steps } → Appends mid new (text_of_lines lines) → status ≡ status_of_last last
    → OutcomeAnswers (written whole) held new status
last_outcome {held} {mid} {whole = whole} {now = now} new lines last steps status h is more same =
    let joins : h.front ++ text_of_lines lines ≡ text_of_lines whole.lines = ap (λ (run : Writing). h.front ++ text_of_lines run.lines) (sym is) ∙ h.joins in
    let all : Appends held new (text_of_lines whole.lines) = rw (← joins) (appends_append held mid new h.front (text_of_lines lines) h.taken more) in
    rw same (answered whole last held new (sym h.lasts ∙ ap (λ (run : Writing). run.last) is) all)

-- ---- a turn

-- the text of a turn's lines comes first of what is to come
pub turn_first : (m new : Machine) (k left more : ℕ) (entries : List Entry) (turn : FedTurn) → more ≡ left + 1 → TurnGives m new (next_course m k entries) turn
    → (behind : Writing) × (remaining more m k entries ≡ behind_lines turn.lines.items behind)
turn_first m new k left more entries turn is gives =
    let c : Course = next_course m k entries in
    let next = later_runs left m.script m.mode m.budget in
    let first = by_fate c.fate in
    (first.0, runs_written left more m.script m.mode m.budget m.state k entries is ∙ (first.1 ∙ ap (λ (front : List Line). behind_lines front first.0) (sym gives.lines)))
  where
    by_fate : (fate : Fate) → (behind : Writing) × (fate_written (later_runs left m.script m.mode m.budget) k entries (next_course m k entries) fate ≡ behind_lines (next_course m k entries).lines behind)
    by_fate fates.Fed = (writing (runs left m.script m.mode m.budget (next_course m k entries).state (k + 1) (drop 1 entries)), refl)
    by_fate fates.Went = (writing (runs left m.script m.mode m.budget (next_course m k entries).state k entries), refl)
    by_fate (fates.Over last) = (
      record { lines = []; last = last; steps = (next_course m k entries).state.steps },
      ap (λ (front : List Line). record { lines = front; last = last; steps = (next_course m k entries).state.steps }) (sym (append-nil (next_course m k entries).lines)),
    )

-- the rest of the run behind a turn
ready_again : (m next : Machine) (st : State) → IsReady m → next ≡ settled m st → next.state.steps < next.budget → IsReady next
ready_again m next st ready is below = record {
  going = ap (λ (n : Machine). n.over) is ∙ ready.going;
  lines = ap (λ (n : Machine). n.lines) is;
  below = below;
  limit = omega (arith, ap (λ (n : Machine). n.budget) is, ready.limit);
}

went_remaining : (m next : Machine) (k left more : ℕ) (entries : List Entry) (turn : FedTurn) → more ≡ left + 1 → TurnGives m next (next_course m k entries) turn → (next_course m k entries).fate ≡ fates.Went → next ≡ settled m (next_course m k entries).state
    → remaining more m k entries ≡ behind_lines turn.lines.items (remaining left next k entries)
went_remaining m next k left more entries turn is gives came next_is =
    runs_written left more m.script m.mode m.budget m.state k entries is
    ∙ (ap (fate_written (later_runs left m.script m.mode m.budget) k entries (next_course m k entries)) came
    ∙ (ap (λ (front : List Line). behind_lines front (remaining left (settled m (next_course m k entries).state) k entries)) (sym gives.lines)
    ∙ ap (λ (n : Machine). behind_lines turn.lines.items (remaining left n k entries)) (sym next_is)))

fed_remaining : (m next : Machine) (k left more : ℕ) (entries later : List Entry) (turn : FedTurn) → more ≡ left + 1 → TurnGives m next (next_course m k entries) turn → (next_course m k entries).fate ≡ fates.Fed → next ≡ settled m (next_course m k entries).state
    → drop 1 entries ≡ later → remaining more m k entries ≡ behind_lines turn.lines.items (remaining left next (k + 1) later)
fed_remaining m next k left more entries later turn is gives came next_is later_is =
    runs_written left more m.script m.mode m.budget m.state k entries is
    ∙ (ap (fate_written (later_runs left m.script m.mode m.budget) k entries (next_course m k entries)) came
    ∙ (ap (λ (front : List Line). behind_lines front (remaining left (settled m (next_course m k entries).state) (k + 1) (drop 1 entries))) (sym gives.lines)
    ∙ (ap (λ (n : Machine). behind_lines turn.lines.items (remaining left n (k + 1) (drop 1 entries))) (sym next_is)
    ∙ ap (λ (es : List Entry). behind_lines turn.lines.items (remaining left next (k + 1) es)) later_is)))

drop-drop-one : (n : ℕ) (list : List Entry) → drop 1 (drop n list) ≡ drop (n + 1) list
drop-drop-one n list = drop-drop 1 n list

first_lines : (script : Script) (mode : Mode) (budget : ℕ) (journal : List Entry) (old m : Machine) (left : ℕ) → old ≡ new_machine script mode budget → m ≡ record (new_machine script mode budget) { lines = [] } → left ≡ budget + length journal + 1
    → writing (trace script mode budget journal) ≡ behind_lines old.lines (remaining left m 1 journal)
unfolding trace
first_lines script mode budget journal old m left is m_is left_is =
    let turns : budget + (length journal + 1) ≡ left = omega (arith, left_is) in
    before_last (start script).lines (runs (budget + (length journal + 1)) script mode budget (start script).state 1 journal)
    ∙ (ap (λ (n : ℕ). behind_lines (start script).lines (writing (runs n script mode budget (start script).state 1 journal))) turns
    ∙ (ap (λ (n : Machine). behind_lines (start script).lines (remaining left n 1 journal)) (sym m_is)
    ∙ ap (λ (n : Machine). behind_lines n.lines (remaining left m 1 journal)) (sym is)))

-- where it took an entry
pub feeds_on : {held mid new : Option (List ℕ)} {faults faults_mid faults_new room room_mid room_new : ℕ} {whole : Writing} {mode : Mode} {budget turns taken more : ℕ} {journal : List Entry} (m next : Machine) (left : ℕ) (turn : FedTurn)
    → IsFeeding held mid faults faults_mid room room_mid whole m mode budget journal turns taken more → more ≡ left + 1 → TurnGives m next (next_course m (taken + 1) (drop taken journal)) turn → turn.fate ≡ fates.Fed
    → Appends mid new (text_of_lines turn.lines.items) → faults_mid ≤ faults_new
    → (length (text_of_lines turn.lines.items) ≤ room_mid → (faults_new ≡ faults_mid) × (room_mid ≤ room_new + length (text_of_lines turn.lines.items)))
    → IsFeeding held new faults faults_new room room_new whole next mode budget journal (turns + 1) (taken + 1) left
feeds_on {turns = turns} {taken = taken} {journal = journal} m next left turn h is gives fate more stay sure =
    let c : Course = next_course m (taken + 1) (drop taken journal) in
    let came : c.fate ≡ fates.Fed = sym gives.fate ∙ fate in
    let counts = fed_is m.script m.mode m.budget m.state (taken + 1) (drop taken journal) h.ready.below came in
    let next_is : next ≡ settled m c.state = rw fate at gives.next in
    let steps : next.state.steps ≡ m.state.steps = ap (λ (n : Machine). n.state.steps) next_is ∙ counts.0 in
    let within : taken + 1 ≤ length journal = omega (arith, counts.1, length-drop taken journal) in
    let now : remaining _ m (taken + 1) (drop taken journal) ≡ behind_lines turn.lines.items (remaining left next (taken + 1 + 1) (drop (taken + 1) journal)) =
    fed_remaining m next (taken + 1) left _ (drop taken journal) (drop (taken + 1) journal) turn is gives came next_is (drop-drop-one taken journal) in
    record {
      ready = ready_again m next c.state h.ready next_is (omega (arith, steps, h.ready.below, ap (λ (n : Machine). n.budget) next_is));
      mode_is = ap (λ (n : Machine). n.mode) next_is ∙ h.mode_is;
      budget_is = ap (λ (n : Machine). n.budget) next_is ∙ h.budget_is;
      counted = omega (arith, steps, h.counted);
      within = within;
      running = run_goes_on (remaining left next (taken + 1 + 1) (drop (taken + 1) journal)) turn.lines.items h.running now more stay sure;
    }

-- where it did a step
pub goes_on : {held mid new : Option (List ℕ)} {faults faults_mid faults_new room room_mid room_new : ℕ} {whole : Writing} {mode : Mode} {budget turns taken more : ℕ} {journal : List Entry} (m next : Machine) (left : ℕ) (turn : FedTurn)
    → IsFeeding held mid faults faults_mid room room_mid whole m mode budget journal turns taken more → more ≡ left + 1 → TurnGives m next (next_course m (taken + 1) (drop taken journal)) turn → turn.fate ≡ fates.Went
    → Appends mid new (text_of_lines turn.lines.items) → faults_mid ≤ faults_new
    → (length (text_of_lines turn.lines.items) ≤ room_mid → (faults_new ≡ faults_mid) × (room_mid ≤ room_new + length (text_of_lines turn.lines.items)))
    → IsFeeding held new faults faults_new room room_new whole next mode budget journal (turns + 1) taken left
goes_on {turns = turns} {taken = taken} {journal = journal} m next left turn h is gives fate more stay sure =
    let c : Course = next_course m (taken + 1) (drop taken journal) in
    let came : c.fate ≡ fates.Went = sym gives.fate ∙ fate in
    let counts = went_is m.script m.mode m.budget m.state (taken + 1) (drop taken journal) h.ready.below came in
    let next_is : next ≡ settled m c.state = rw fate at gives.next in
    let steps : next.state.steps ≡ m.state.steps + 1 = ap (λ (n : Machine). n.state.steps) next_is ∙ counts.0 in
    let now : remaining _ m (taken + 1) (drop taken journal) ≡ behind_lines turn.lines.items (remaining left next (taken + 1) (drop taken journal)) =
    went_remaining m next (taken + 1) left _ (drop taken journal) turn is gives came next_is in
    record {
      ready = ready_again m next c.state h.ready next_is (omega (arith, steps, counts.0, counts.1, ap (λ (n : Machine). n.budget) next_is));
      mode_is = ap (λ (n : Machine). n.mode) next_is ∙ h.mode_is;
      budget_is = ap (λ (n : Machine). n.budget) next_is ∙ h.budget_is;
      counted = omega (arith, steps, h.counted);
      within = h.within;
      running = run_goes_on (remaining left next (taken + 1) (drop taken journal)) turn.lines.items h.running now more stay sure;
    }

-- the machine ended the run
pub over_remaining : (m new : Machine) (k left more : ℕ) (entries : List Entry) (turn : FedTurn) (last : LastLine) → more ≡ left + 1 → TurnGives m new (next_course m k entries) turn → turn.fate ≡ fates.Over last
    → remaining more m k entries ≡ record { lines = turn.lines.items; last = last; steps = turn.steps }
over_remaining m new k left more entries turn last is gives fate =
    let came : (next_course m k entries).fate ≡ fates.Over last = sym gives.fate ∙ fate in
    runs_written left more m.script m.mode m.budget m.state k entries is
    ∙ (ap (fate_written (later_runs left m.script m.mode m.budget) k entries (next_course m k entries)) came
    ∙ (ap (λ (front : List Line). record { lines = front; last = last; steps = (next_course m k entries).state.steps }) (sym gives.lines)
    ∙ ap (λ (n : ℕ). record { lines = turn.lines.items; last = last; steps = n }) (sym gives.steps)))

-- ---- the start

pub feeding_begins : {held mid : Option (List ℕ)} {faults faults_mid room room_mid : ℕ} (script : Script) (mode : Mode) (budget : ℕ) (journal : List Entry) (old m : Machine) (left : ℕ)
    → old ≡ new_machine script mode budget → m ≡ record old { lines = [] } → 1 ≤ budget → budget ≤ 1000000 → left ≡ budget + length journal + 1
    → Appends held mid (text_of_lines old.lines) → faults ≤ faults_mid
    → (length (text_of_lines old.lines) ≤ room → (faults_mid ≡ faults) × (room ≤ room_mid + length (text_of_lines old.lines)))
    → IsFeeding held mid faults faults_mid room room_mid (writing (trace script mode budget journal)) m mode budget journal 0 0 left
feeding_begins {held} {faults = faults} {room = room} script mode budget journal old m left is taken low high left_is more stay sure =
    let m_is : m ≡ record (new_machine script mode budget) { lines = [] } = taken ∙ ap (λ (n : Machine). record n { lines = [] }) is in
    let steps : m.state.steps ≡ 0 = ap (λ (n : Machine). n.state.steps) m_is ∙ start_unstepped script in
    let budget_is : m.budget ≡ budget = ap (λ (n : Machine). n.budget) m_is in
    let now : writing (trace script mode budget journal) ≡ behind_lines old.lines (remaining left m 1 journal) = first_lines script mode budget journal old m left is m_is left_is in
    record {
      ready = record { going = ap (λ (n : Machine). n.over) m_is; lines = ap (λ (n : Machine). n.lines) m_is; below = omega (arith, steps, budget_is); limit = omega (arith, budget_is) };
      mode_is = ap (λ (n : Machine). n.mode) m_is;
      budget_is = budget_is;
      counted = omega (arith, steps);
      within = omega arith;
      running = run_goes_on (remaining left m 1 journal) old.lines (run_starts held faults room (writing (trace script mode budget journal)) (writing (trace script mode budget journal)) refl) now more stay sure;
    }

-- nothing but a front of the first lines was written
pub begins_outcome : (held new : Option (List ℕ)) (script : Script) (mode : Mode) (budget : ℕ) (journal : List Entry) (old : Machine) (failure : Unwritten) (status : Status)
    → old ≡ new_machine script mode budget → WriteAnswers held new (text_of_lines old.lines) (Err failure) → status ≡ failure_status failure → OutcomeAnswers (written (writing (trace script mode budget journal))) held new status
begins_outcome held new script mode budget journal old failure status is part same =
    let whole : Writing = writing (trace script mode budget journal) in
    let left : ℕ = budget + length journal + 1 in
    let m : Machine = record (new_machine script mode budget) { lines = [] } in
    unwritten_outcome new (remaining left m 1 journal) old.lines failure status (run_starts held 0 0 whole whole refl) (first_lines script mode budget journal old m left is refl refl) part same

pub begins_certain : {Left : Type 0} (held : Option (List ℕ)) (faults faults_new room : ℕ) (script : Script) (mode : Mode) (budget : ℕ) (journal : List Entry) (old : Machine) (failure : Unwritten) (status : Status)
    → old ≡ new_machine script mode budget → (length (text_of_lines old.lines) ≤ room → (not_written failure ≢ not_written failures.WriteFault) × (faults_new ≡ faults) × Left) → status ≡ failure_status failure
    → length (text_of_lines (writing (trace script mode budget journal)).lines) ≤ room → IsCertain (status_of_last (writing (trace script mode budget journal)).last) faults faults_new status
begins_certain held faults faults_new room script mode budget journal old failure status is sure same fits =
    let whole : Writing = writing (trace script mode budget journal) in
    let left : ℕ = budget + length journal + 1 in
    let m : Machine = record (new_machine script mode budget) { lines = [] } in
    unwritten_certain faults_new (remaining left m 1 journal) old.lines failure status (run_starts held faults room whole whole refl) (first_lines script mode budget journal old m left is refl refl) sure same fits

-- the last lines surely had room
pub last_certain : {held mid : Option (List ℕ)} {faults faults_mid room room_mid : ℕ} {whole now : Writing} {Sure Left : Type 0} (faults_new : ℕ) (lines : List Line) (last : LastLine) (steps : ℕ) (status : Status)
    → IsRunning held mid faults faults_mid room room_mid whole now → now ≡ record { lines = lines; last = last; steps = steps } → (length (text_of_lines lines) ≤ room_mid → Sure × (faults_new ≡ faults_mid) × Left) → status ≡ status_of_last last
    → length (text_of_lines whole.lines) ≤ room → IsCertain (status_of_last whole.last) faults faults_new status
last_certain {whole = whole} faults_new lines last steps status h is sure same fits =
    let before = h.certain fits in
    let size : length (text_of_lines lines) ≤ _ = rw is at before.1 in
    let turn = sure size in
    record { answer_is = inl (same ∙ ap status_of_last (sym (ap (λ (run : Writing). run.last) is) ∙ h.lasts)); no_fault = turn.1 ∙ before.0 }

-- the run is over after as many steps as its trace has
pub last_steps : {held mid : Option (List ℕ)} {faults faults_mid room room_mid : ℕ} {whole now : Writing} (lines : List Line) (last : LastLine) (steps : ℕ)
    → IsRunning held mid faults faults_mid room room_mid whole now → now ≡ record { lines = lines; last = last; steps = steps } → steps ≡ whole.steps
last_steps lines last steps h is = sym (ap (λ (run : Writing). run.steps) is) ∙ h.steps

pub status_steps : (last : LastLine) (steps counted : ℕ) → counted ≡ steps → CountsSteps steps (status_of_last last) counted
status_steps lasts.Idle steps counted same = same
status_steps lasts.Halt steps counted same = same
status_steps lasts.Budget steps counted same = same
status_steps lasts.Starved steps counted same = same
status_steps (lasts.Unfit entry) steps counted same = same

-- a run whose lines weren't written tells no steps
pub unwritten_steps : (failure : Unwritten) (steps counted : ℕ) (status : Status) → status ≡ failure_status failure → CountsSteps steps status counted
unwritten_steps failures.WriteFault steps counted status is = rw is tt
unwritten_steps failures.NoMemory steps counted status is = rw is tt
