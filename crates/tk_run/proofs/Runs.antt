-- A run on its way, over plain variables: what the sink took, and what is still to be written, make the whole.
use Rattle.std.proofs.Common.{◌≡◌, ℕ, ◌+◌, ◌≤◌, List, [], ◌∷◌, ◌++◌, length, Option, refl, sym, ap, ◌∙◌, arith}
use Rattle.std.proofs.lemmas.List.{append_assoc, length-append}
use Rattle.tk_types.specs.declared.line.Line.{Line}
use Rattle.tk_types.specs.declared.line.Line.TheVariants as lines
use Rattle.tk_ports.specs.Streams.{Appends}
use Rattle.tk_ports.proofs.Streams.{appends_append, appends_none}
use Rattle.machine_model.specs.Runs.Trace.{Trace}
use Rattle.tk_model.specs.LineText.{text_of_lines}
use Rattle.tk_trace.proofs.Growth.{lines_append}
use Rattle.tk_run.specs.Writings.{Writing, behind_lines, writing}

-- lines before the last one of a trace
pub before_last : (front : List Line) (run : Trace) → writing (record run { lines = front ++ run.lines }) ≡ behind_lines front (writing run)
before_last front run = ap (λ (all : List Line). record { lines = all; last = run.last; steps = run.steps }) (append_assoc front run.lines (lines.End run.steps run.last ∷ []))

-- a run on its way: what was taken, and the text of what is to come, make the whole
pub record IsRunning (held held_now : Option (List ℕ)) (faults faults_now room room_now : ℕ) (whole now : Writing) : Type 0 where
  pub front : List ℕ
  pub taken : Appends held held_now front
  pub joins : front ++ text_of_lines now.lines ≡ text_of_lines whole.lines
  pub lasts : now.last ≡ whole.last
  pub steps : now.steps ≡ whole.steps
  pub faults_stay : faults ≤ faults_now
  pub certain : length (text_of_lines whole.lines) ≤ room → (faults_now ≡ faults) × (length (text_of_lines now.lines) ≤ room_now)

pub run_starts : (held : Option (List ℕ)) (faults room : ℕ) (whole now : Writing) → now ≡ whole → IsRunning held held faults faults room room whole now
run_starts held faults room whole now is = record {
  front = [];
  taken = appends_none held;
  joins = ap (λ (run : Writing). text_of_lines run.lines) is;
  lasts = ap (λ (run : Writing). run.last) is;
  steps = ap (λ (run : Writing). run.steps) is;
  faults_stay = omega arith;
  certain = λ fits. (refl, rw is fits);
}

-- the lines of a turn were written
pub run_goes_on : {held mid new : Option (List ℕ)} {faults faults_mid faults_new room room_mid room_new : ℕ} {whole now : Writing} (next : Writing) (lines : List Line)
    → IsRunning held mid faults faults_mid room room_mid whole now → now ≡ behind_lines lines next → Appends mid new (text_of_lines lines) → faults_mid ≤ faults_new
    → (length (text_of_lines lines) ≤ room_mid → (faults_new ≡ faults_mid) × (room_mid ≤ room_new + length (text_of_lines lines)))
    → IsRunning held new faults faults_new room room_new whole next
run_goes_on {held} {mid} {new} {faults} {faults_mid} {faults_new} {room} {room_mid} {room_new} {whole} {now} next lines h is more stay sure =
    let text : List ℕ = text_of_lines lines in
    let behind : List ℕ = text_of_lines next.lines in
    let parts : text_of_lines now.lines ≡ text ++ behind = ap (λ (run : Writing). text_of_lines run.lines) is ∙ lines_append lines next.lines in
    let size : length (text_of_lines now.lines) ≡ length text + length behind = ap length parts ∙ length-append text behind in
    record {
      front = h.front ++ text;
      taken = appends_append held mid new h.front text h.taken more;
      joins = append_assoc h.front text behind ∙ (ap (λ (l : List ℕ). h.front ++ l) (sym parts) ∙ h.joins);
      lasts = sym (ap (λ (run : Writing). run.last) is) ∙ h.lasts;
      steps = sym (ap (λ (run : Writing). run.steps) is) ∙ h.steps;
      faults_stay = omega arith;
      certain = λ fits.
          let before : (faults_mid ≡ faults) × (length (text_of_lines now.lines) ≤ room_mid) = h.certain fits in
          let now_sure : (faults_new ≡ faults_mid) × (room_mid ≤ room_new + length text) = sure (omega (arith, before.1)) in
          (now_sure.0 ∙ before.0, omega (arith, before.1, now_sure.1));
    }
