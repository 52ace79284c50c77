-- What the loops of whole texts keep, over plain variables.
use Rattle.std.proofs.Common.{◌≡◌, ℕ, ◌+◌, ◌-◌, ◌<◌, ◌≤◌, List, [], ◌++◌, length, take, drop, Option, None, Some, refl, sym, ap, ◌∙◌, arith}
use Rattle.std.proofs.lemmas.List.{append_assoc, length-append, length-drop, take-append-drop}
use Rattle.std.proofs.Math.Seq.{take-add}
use Rattle.tk_ports.specs.Streams.{Appends, AppendsFront, TakesFront, TakesAtMost, TakesWithin, Counts, CountsWithin}
use Rattle.tk_ports.proofs.Streams.{appends_none, appends_append, front_of_part, takes_none, counts_none, counts_one_more, counts_within}

-- ---- writing

-- so many of the bytes are written
pub record IsWriting (held held_now : Option (List ℕ)) (faults faults_now room room_now : ℕ) (bytes : List ℕ) (written : ℕ) : Type 0 where
  pub within : written ≤ length bytes
  pub appended : Appends held held_now (take written bytes)
  pub faults_stay : faults ≤ faults_now
  pub certain : length bytes ≤ room → (faults_now ≡ faults) × (room ≤ room_now + written)

pub writing_starts : (held : Option (List ℕ)) (faults room : ℕ) (bytes : List ℕ) → IsWriting held held faults faults room room bytes 0
writing_starts held faults room bytes = record {
  within = omega arith;
  appended = appends_none held;
  faults_stay = omega arith;
  certain = λ _. (refl, omega arith);
}

-- a further piece is written
pub writing_goes_on : {held mid new : Option (List ℕ)} {faults faults_mid faults_new room room_mid room_new : ℕ} {bytes : List ℕ} {written : ℕ}
    (piece : List ℕ) (count : ℕ) → IsWriting held mid faults faults_mid room room_mid bytes written → written < length bytes
    → piece ≡ drop written bytes → count ≤ length piece → Appends mid new (take count piece) → faults_mid ≤ faults_new
    → (0 < length piece → length piece ≤ room_mid → (room_mid ≤ room_new + count) × (faults_new ≡ faults_mid))
    → IsWriting held new faults faults_new room room_new bytes (written + count)
writing_goes_on {held} {mid} {new} {faults} {faults_mid} {faults_new} {room} {room_mid} {room_new} {bytes} {written} piece count h below is bound more stay sure =
    let size : length piece ≡ length bytes - written = ap length is ∙ length-drop written bytes in
    let behind : Appends mid new (take count (drop written bytes)) = rw is at more in
    record {
      within = omega arith;
      appended = rw take-add (appends_append held mid new (take written bytes) (take count (drop written bytes)) h.appended behind);
      faults_stay = omega arith;
      certain = λ fits.
          let before : (faults_mid ≡ faults) × (room ≤ room_mid + written) = h.certain fits in
          let now : (room_mid ≤ room_new + count) × (faults_new ≡ faults_mid) = sure (omega arith) (omega arith) in
          (now.1 ∙ before.0, omega arith);
    }

-- a write failed: what was written before is a front of the bytes
pub writing_fails : (held mid new : Option (List ℕ)) (bytes : List ℕ) (written : ℕ) → Appends held mid (take written bytes) → new ≡ mid → AppendsFront held new bytes
writing_fails held mid new bytes written p e = rw e (front_of_part held mid (take written bytes) (drop written bytes) bytes p (take-append-drop written bytes))

-- ---- reading

-- so many bytes are read, each turn of which took one or more
pub record IsReading (left left_now : Option (List ℕ)) (turns turns_now : Option ℕ) (sound sound_now : Type 0) (faults faults_now : ℕ) (bytes : List ℕ) : Type 0 where
  pub taken : TakesFront left left_now bytes
  pub counted : CountsWithin turns turns_now (length bytes)
  pub faults_stay : faults ≤ faults_now
  pub certain : sound → sound_now × (faults_now ≡ faults)

pub reading_starts : (left : Option (List ℕ)) (turns : Option ℕ) (sound : Type 0) (faults : ℕ) → IsReading left left turns turns sound sound faults faults []
reading_starts left turns sound faults = record {
  taken = takes_none left;
  counted = counts_none turns;
  faults_stay = omega arith;
  certain = λ h. (h, refl);
}

-- a turn failed: what was read and what it may have taken are within the limit, and so are the turns
pub reading_fails : (left mid new : Option (List ℕ)) (turns turns_mid turns_new : Option ℕ) (bytes : List ℕ) (size most : ℕ) → TakesFront left mid bytes
    → TakesAtMost mid new (most - size) → length bytes ≡ size → size ≤ most → CountsWithin turns turns_mid (length bytes) → Counts turns_mid turns_new
    → TakesWithin left new turns turns_new most
reading_fails None mid new turns turns_mid turns_new bytes size most p q e b t o = tt
reading_fails (Some input) mid new turns turns_mid turns_new bytes size most p q e b t o =
    let lost : TakesAtMost (Some p.0) new (most - size) = rw p.2 at q in
    let both : length (bytes ++ lost.0) ≡ length bytes + length lost.0 = length-append bytes lost.0 in
    let counted : CountsWithin turns turns_new (length bytes + 1) = counts_one_more turns turns_mid turns_new (length bytes) t o in (
      bytes ++ lost.0,
      lost.1,
      p.1 ∙ ap (λ l. bytes ++ l) lost.2 ∙ sym (append_assoc bytes lost.0 lost.1),
      lost.3,
      omega arith,
      counts_within turns turns_new (length bytes + 1) (length (bytes ++ lost.0) + 1) counted (omega arith),
    )
