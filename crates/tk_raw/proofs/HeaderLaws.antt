-- The parts of a script that one line gives: what is read is spelled so, and each is read as itself.
use Rattle.std.proofs.Common.{◌≡◌, ◌∙◌, refl, sym, ap, subst, arith, inl, inr, ℕ, ◌≤◌, Bool, true, false, cond, eqb, List, [], ◌∷◌, length, Result, Ok}
use Rattle.std.specs.Prelude.{bytes_eq, codes, decimal, ◌⊎◌}
use Rattle.std.proofs.lemmas.Slice.Eq.{bytes_eq-Decides}
use Rattle.tk_types.specs.declared.script.BodyKind.{BodyKind}
use Rattle.tk_types.specs.declared.script.BodyKind.TheVariants.{Task, Hand, Svc}
use Rattle.tk_types.specs.declared.script.Device.{Device}
use Rattle.tk_types.specs.declared.script.Interrupt.{Interrupt}
use Rattle.tk_types.specs.declared.script.Kind.{Kind}
use Rattle.tk_types.specs.declared.script.Kind.TheVariants as units
use Rattle.tk_types.specs.declared.why.Why.{Why}
use Rattle.tk_types.specs.declared.why.Why.TheVariants as whys
use Rattle.tk_model.specs.ScriptText.{unit_words, device_words, irq_words, body_kind_word, IsBetween, IsName, IsDevice, FitsUnit}
use Rattle.tk_raw.specs.declared.builder.UnitWord.{UnitWord}
use Rattle.tk_raw.specs.declared.builder.UnitWord.TheVariants as words
use Rattle.tk_raw.specs.declared.raw.RawBody.{RawBody}
use Rattle.tk_raw.specs.declared.raw.RawBoot.{RawBoot}
use Rattle.tk_raw.specs.declared.raw.RawItem.{RawItem}
use Rattle.tk_raw.specs.Pieces.{◌>>=◌, name_at, short_name_at, number_between}
use Rattle.tk_raw.specs.RawText.{raw_boot_words}
use Rattle.tk_raw.specs.RawReading.{new_name, device_taken, body_taken, label_taken, unit_named, unit_count, ram_at, flaky_at, slow_at, unit_at, new_device_name, device_from, device_at, pace_at, least_step, irq_from, irq_at, boot_from, boot_at, kind_named, new_body_name, body_from, body_at, new_label, label_at}
use Rattle.tk_raw.proofs.Results.{bind_ok, fine, ok_is, passed, not_failed, went}
use Rattle.tk_raw.proofs.WordLaws.{number_takes, number_again, name_takes, name_again, short_name_takes, short_name_again}

-- a choice among words: the first that it is, or one of the later ones
chosen_word : {A : Type 0} (word text : List ℕ) (x y : A) (rest : Result A Why) → cond (bytes_eq word text) (fine x) rest ≡ Ok y → ((word ≡ text) × (x ≡ y)) ⊎ (rest ≡ Ok y)
chosen_word {A} word text x y rest e =
    let by : ((bytes_eq word text ≡ true) × (fine x ≡ Ok y)) ⊎ ((bytes_eq word text ≡ false) × (rest ≡ Ok y)) → ((word ≡ text) × (x ≡ y)) ⊎ (rest ≡ Ok y) = λ way. elim way as (λ _. ((word ≡ text) × (x ≡ y)) ⊎ (rest ≡ Ok y))
    [ inl here ↦ inl ((bytes_eq-Decides word text).0 here.0, ok_is x y here.1) | inr later ↦ inr later.1 ]
    in by (went (bytes_eq word text) (fine x) rest (Ok y) e)

-- what holds of the value of the word that it is
by_word : {A : Type 0} (P : List ℕ → A → Type 0) (word text : List ℕ) (x y : A) (rest : Result A Why) → P text x → (rest ≡ Ok y → P word y) → cond (bytes_eq word text) (fine x) rest ≡ Ok y → P word y
by_word {A} P word text x y rest is later e =
    let by : ((word ≡ text) × (x ≡ y)) ⊎ (rest ≡ Ok y) → P word y = λ way. elim way as (λ _. P word y)
    [ inl here ↦ subst (λ (w : List ℕ). P w y) (sym here.0) (subst (P text) here.1 is) | inr behind ↦ later behind ]
    in by (chosen_word word text x y rest e)

new_name_takes : (taken : Bool) (name y : List ℕ) → new_name taken name ≡ Ok y → (taken ≡ false) × (name ≡ y)
new_name_takes taken name y e =
    let p = not_failed taken (fine name) whys.Name y e in (p.0, ok_is name y p.1)

same_words : {b c d e : List ℕ} (a : List ℕ) → b ≡ c → d ≡ e → a ∷ c ∷ e ∷ [] ≡ a ∷ b ∷ d ∷ []
same_words a p q = rw (p, q) refl

-- the word of a unit's kind
abbrev unit_text : UnitWord → List ℕ
unit_text words.Ram = codes "ram"
unit_text words.Log = codes "log"
unit_text words.Flaky = codes "flaky"
unit_text words.Slow = codes "slow"

unit_named_takes : (word : List ℕ) (unit : UnitWord) → unit_named word ≡ Ok unit → word ≡ unit_text unit
unfolding unit_named
unit_named_takes word unit e =
    let P : List ℕ → UnitWord → Type 0 = λ w u. w ≡ unit_text u in
    by_word P word (codes "ram") words.Ram unit _ refl
    (by_word P word (codes "log") words.Log unit _ refl
    (by_word P word (codes "flaky") words.Flaky unit _ refl
    (by_word P word (codes "slow") words.Slow unit _ refl (λ bad. absurd (cc))))) e

abbrev TakenUnit : UnitWord → List (List ℕ) → Kind → Type 0
TakenUnit unit numbers kind = (unit_words kind ≡ unit_text unit ∷ numbers) × FitsUnit kind

ram_takes : (size : List ℕ) (kind : Kind) → ram_at size ≡ Ok kind → TakenUnit words.Ram (size ∷ []) kind
unfolding ram_at unit_words FitsUnit
ram_takes size kind e =
    let b = bind_ok (number_between 1 65536 size) (λ s. fine (units.Ram s)) kind e in
    let t = number_takes 1 65536 size b.0 b.1 in
    subst (TakenUnit words.Ram (size ∷ [])) (ok_is (units.Ram b.0) kind b.2) (ap (λ (w : List ℕ). codes "ram" ∷ w ∷ []) (sym t.0), (t.1, t.2))

flaky_takes : (size fails : List ℕ) (kind : Kind) → flaky_at size fails ≡ Ok kind → TakenUnit words.Flaky (size ∷ fails ∷ []) kind
unfolding flaky_at unit_words FitsUnit
flaky_takes size fails kind e =
    let b = bind_ok (number_between 1 65536 size) (λ s. number_between 1 1000 fails >>= λ f. fine (units.Flaky s f)) kind e in
    let t = number_takes 1 65536 size b.0 b.1 in
    let d = bind_ok (number_between 1 1000 fails) (λ f. fine (units.Flaky b.0 f)) kind b.2 in
    let u = number_takes 1 1000 fails d.0 d.1 in
    subst (TakenUnit words.Flaky (size ∷ fails ∷ [])) (ok_is (units.Flaky b.0 d.0) kind d.2) (same_words (codes "flaky") t.0 u.0, ((t.1, t.2), (u.1, u.2)))

slow_takes : (size turns : List ℕ) (kind : Kind) → slow_at size turns ≡ Ok kind → TakenUnit words.Slow (size ∷ turns ∷ []) kind
unfolding slow_at unit_words FitsUnit
slow_takes size turns kind e =
    let b = bind_ok (number_between 1 65536 size) (λ s. number_between 0 1000 turns >>= λ f. fine (units.Slow s f)) kind e in
    let t = number_takes 1 65536 size b.0 b.1 in
    let d = bind_ok (number_between 0 1000 turns) (λ f. fine (units.Slow b.0 f)) kind b.2 in
    let u = number_takes 0 1000 turns d.0 d.1 in
    subst (TakenUnit words.Slow (size ∷ turns ∷ [])) (ok_is (units.Slow b.0 d.0) kind d.2) (same_words (codes "slow") t.0 u.0, ((t.1, t.2), u.2))

unit_takes : (unit : UnitWord) (numbers : List (List ℕ)) (kind : Kind) → unit_at unit numbers ≡ Ok kind → TakenUnit unit numbers kind
unfolding unit_at unit_words FitsUnit
unit_takes words.Ram (size ∷ []) kind e = ram_takes size kind e
unit_takes words.Log [] kind e = subst (TakenUnit words.Log []) (ok_is units.Log kind e) (refl, tt)
unit_takes words.Flaky (size ∷ fails ∷ []) kind e = flaky_takes size fails kind e
unit_takes words.Slow (size ∷ turns ∷ []) kind e = slow_takes size turns kind e
unit_takes _ _ kind e = absurd (cc)

-- a device that a line gives: spelled so, of a kind that it may have, with a name that none has
pub record TakenDevice (devices : List Device) (line : List (List ℕ)) (device : Device) : Type 0 where
  pub spelled : device_words device ≡ codes "device" ∷ line
  pub is : IsDevice device
  pub new : device_taken devices device.name ≡ false

device_from_takes : (devices : List Device) (word : List ℕ) (unit : UnitWord) (numbers : List (List ℕ)) (device : Device) → device_from devices word unit numbers ≡ Ok device → TakenDevice devices (word ∷ unit_text unit ∷ numbers) device
unfolding device_from new_device_name
device_from_takes devices word unit numbers device e =
    let p = passed (eqb (length numbers) (unit_count unit)) (new_device_name devices word >>= λ name. unit_at unit numbers >>= λ kind. fine (record { name = name; kind = kind })) whys.Count device e in
    let b = bind_ok (new_device_name devices word) (λ name. unit_at unit numbers >>= λ kind. fine (record { name = name; kind = kind })) device p.1 in
    let d = bind_ok (unit_at unit numbers) (λ kind. fine (record { name = b.0; kind = kind })) device b.2 in
    let n = bind_ok (short_name_at word) (λ name. new_name (device_taken devices word) name) b.0 b.1 in
    let t = short_name_takes word n.0 n.1 in
    let w = new_name_takes (device_taken devices word) n.0 b.0 n.2 in
    let u = unit_takes unit numbers d.0 d.1 in
    subst (TakenDevice devices (word ∷ unit_text unit ∷ numbers)) (ok_is (record { name = b.0; kind = d.0 }) device d.2)
    (record {
      spelled = ap (λ (n : List ℕ). codes "device" ∷ n ∷ unit_words d.0) (sym (t.0 ∙ w.1)) ∙ ap (λ (ws : List (List ℕ)). codes "device" ∷ word ∷ ws) u.0;
      is = record { name = subst (IsName 8) w.1 t.1; unit = u.1 };
      new = ap (device_taken devices) (sym (t.0 ∙ w.1)) ∙ w.0;
    })

pub device_takes : (devices : List Device) (line : List (List ℕ)) (device : Device) → device_at devices line ≡ Ok device → TakenDevice devices line device
unfolding device_at
device_takes devices (word ∷ kind ∷ numbers) device e =
    let b = bind_ok (unit_named kind) (λ unit. device_from devices word unit numbers) device e in
    subst (λ (k : List ℕ). TakenDevice devices (word ∷ k ∷ numbers) device) (sym (unit_named_takes kind b.0 b.1)) (device_from_takes devices word b.0 numbers device b.2)
device_takes devices [] device e = absurd (cc)
device_takes devices (word ∷ []) device e = absurd (cc)

-- a new device is read as itself
new_device_again : (devices : List Device) (name : List ℕ) → IsName 8 name → device_taken devices name ≡ false → new_device_name devices name ≡ Ok name
unfolding new_device_name
new_device_again devices name is new = rw (short_name_again name is, new) refl

unit_again : (devices : List Device) (name : List ℕ) (kind : Kind) → new_device_name devices name ≡ Ok name → FitsUnit kind → device_at devices (name ∷ unit_words kind) ≡ Ok (record { name = name; kind = kind })
unfolding device_at unit_named device_from unit_count unit_at ram_at flaky_at slow_at unit_words FitsUnit
unit_again devices name (units.Ram size) new fits =
    let to = fits.1 in rw (new, number_again 1 65536 size (omega (arith, to)) fits.0 fits.1) refl
unit_again devices name units.Log new fits = rw new refl
unit_again devices name (units.Flaky size fails) new fits =
    let to = fits.0.1 in let above = fits.1.1 in
    rw (new, number_again 1 65536 size (omega (arith, to)) fits.0.0 fits.0.1, number_again 1 1000 fails (omega (arith, above)) fits.1.0 fits.1.1) refl
unit_again devices name (units.Slow size turns) new fits =
    let to = fits.0.1 in let above = fits.1 in
    rw (new, number_again 1 65536 size (omega (arith, to)) fits.0.0 fits.0.1, number_again 0 1000 turns (omega (arith, above)) (omega arith) fits.1) refl

pub device_again : (devices : List Device) (device : Device) → IsDevice device → device_taken devices device.name ≡ false → device_at devices (device.name ∷ unit_words device.kind) ≡ Ok device
device_again devices device is new = unit_again devices device.name device.kind (new_device_again devices device.name is.name new) is.unit

pub pace_takes : (line : List (List ℕ)) (pace : ℕ) → pace_at line ≡ Ok pace → (decimal pace ∷ [] ≡ line) × IsBetween 1 1000000 pace
unfolding pace_at
pace_takes [] pace e = absurd (cc)
pace_takes (word ∷ []) pace e = let t = number_takes 1 1000000 word pace e in (ap (λ (w : List ℕ). w ∷ []) (sym t.0), (t.1, t.2))
pace_takes (word ∷ other ∷ line) pace e = absurd (cc)

pub pace_again : (pace : ℕ) → IsBetween 1 1000000 pace → pace_at (decimal pace ∷ []) ≡ Ok pace
unfolding pace_at
pace_again pace fits = let to = fits.1 in number_again 1 1000000 pace (omega (arith, to)) fits.0 fits.1

pub record TakenIrq (irqs : List Interrupt) (line : List (List ℕ)) (irq : Interrupt) : Type 0 where
  pub spelled : irq_words irq ≡ codes "irq" ∷ line
  pub from : least_step irqs ≤ irq.step
  pub to : irq.step ≤ 1000000
  pub number : IsBetween 1 255 irq.number

irq_from_takes : (irqs : List Interrupt) (step number : List ℕ) (irq : Interrupt) → irq_from (least_step irqs) step number ≡ Ok irq → TakenIrq irqs (step ∷ number ∷ []) irq
unfolding irq_from
irq_from_takes irqs step number irq e =
    let low = least_step irqs in
    let b = bind_ok (number_between low 1000000 step) (λ s. number_between 1 255 number >>= λ n. fine (record { step = s; number = n })) irq e in
    let t = number_takes low 1000000 step b.0 b.1 in
    let d = bind_ok (number_between 1 255 number) (λ n. fine (record { step = b.0; number = n })) irq b.2 in
    let u = number_takes 1 255 number d.0 d.1 in
    subst (TakenIrq irqs (step ∷ number ∷ [])) (ok_is (record { step = b.0; number = d.0 }) irq d.2)
    (record { spelled = same_words (codes "irq") t.0 u.0; from = t.1; to = t.2; number = (u.1, u.2) })

pub irq_takes : (irqs : List Interrupt) (line : List (List ℕ)) (irq : Interrupt) → irq_at irqs line ≡ Ok irq → TakenIrq irqs line irq
unfolding irq_at
irq_takes irqs [] irq e = absurd (cc)
irq_takes irqs (step ∷ []) irq e = absurd (cc)
irq_takes irqs (step ∷ number ∷ []) irq e = irq_from_takes irqs step number irq e
irq_takes irqs (step ∷ number ∷ other ∷ line) irq e = absurd (cc)

pub irq_again : (irqs : List Interrupt) (irq : Interrupt) → least_step irqs ≤ irq.step → irq.step ≤ 1000000 → IsBetween 1 255 irq.number → irq_at irqs (decimal irq.step ∷ decimal irq.number ∷ []) ≡ Ok irq
unfolding irq_at irq_from
irq_again irqs irq from to number =
    let above = number.1 in
    rw (number_again (least_step irqs) 1000000 irq.step (omega (arith, to)) from to, number_again 1 255 irq.number (omega (arith, above)) number.0 number.1) refl

abbrev pub IsBoot : RawBoot → Type 0
IsBoot boot = IsName 16 boot.body × IsBetween 1 140 boot.priority

abbrev pub TakenBoot : List (List ℕ) → RawBoot → Type 0
TakenBoot line boot = (raw_boot_words boot ≡ codes "boot" ∷ line) × IsBoot boot

boot_from_takes : (name priority : List ℕ) (boot : RawBoot) → boot_from name priority ≡ Ok boot → TakenBoot (name ∷ priority ∷ []) boot
unfolding boot_from
boot_from_takes name priority boot e =
    let b = bind_ok (name_at name) (λ n. number_between 1 140 priority >>= λ p. fine (record { body = n; priority = p })) boot e in
    let t = name_takes name b.0 b.1 in
    let d = bind_ok (number_between 1 140 priority) (λ p. fine (record { body = b.0; priority = p })) boot b.2 in
    let u = number_takes 1 140 priority d.0 d.1 in
    subst (TakenBoot (name ∷ priority ∷ [])) (ok_is (record { body = b.0; priority = d.0 }) boot d.2) (same_words (codes "boot") t.0 u.0, (t.1, (u.1, u.2)))

pub boot_takes : (line : List (List ℕ)) (boot : RawBoot) → boot_at line ≡ Ok boot → TakenBoot line boot
unfolding boot_at
boot_takes [] boot e = absurd (cc)
boot_takes (name ∷ []) boot e = absurd (cc)
boot_takes (name ∷ priority ∷ []) boot e = boot_from_takes name priority boot e
boot_takes (name ∷ priority ∷ other ∷ line) boot e = absurd (cc)

pub boot_again : (boot : RawBoot) → IsBoot boot → boot_at (boot.body ∷ decimal boot.priority ∷ []) ≡ Ok boot
unfolding boot_at boot_from
boot_again boot is = let above = is.1.1 in rw (name_again boot.body is.0, number_again 1 140 boot.priority (omega (arith, above)) is.1.0 is.1.1) refl

kind_takes : (word : List ℕ) (kind : BodyKind) → kind_named word ≡ Ok kind → word ≡ body_kind_word kind
unfolding kind_named body_kind_word
kind_takes word kind e =
    let P : List ℕ → BodyKind → Type 0 = λ w k. w ≡ body_kind_word k in
    by_word P word (codes "task") Task kind _ refl
    (by_word P word (codes "hand") Hand kind _ refl
    (by_word P word (codes "svc") Svc kind _ refl (λ bad. absurd (cc)))) e

kind_again : (kind : BodyKind) → kind_named (body_kind_word kind) ≡ Ok kind
unfolding kind_named body_kind_word
kind_again Task = refl
kind_again Hand = refl
kind_again Svc = refl

-- a body that begins in a line
pub record TakenBody (bodies : List RawBody) (line : List (List ℕ)) (body : RawBody) : Type 0 where
  pub spelled : codes "body" ∷ body.name ∷ body_kind_word body.kind ∷ [] ≡ codes "body" ∷ line
  pub name : IsName 16 body.name
  pub new : body_taken bodies body.name ≡ false
  pub empty : body.items ≡ []

body_from_takes : (bodies : List RawBody) (name kind : List ℕ) (body : RawBody) → body_from bodies name kind ≡ Ok body → TakenBody bodies (name ∷ kind ∷ []) body
unfolding body_from new_body_name
body_from_takes bodies name kind body e =
    let b = bind_ok (new_body_name bodies name) (λ n. kind_named kind >>= λ k. fine (record { name = n; kind = k; items = [] })) body e in
    let d = bind_ok (kind_named kind) (λ k. fine (record { name = b.0; kind = k; items = [] })) body b.2 in
    let n = bind_ok (name_at name) (λ m. new_name (body_taken bodies name) m) b.0 b.1 in
    let t = name_takes name n.0 n.1 in
    let w = new_name_takes (body_taken bodies name) n.0 b.0 n.2 in
    let k = kind_takes kind d.0 d.1 in
    subst (TakenBody bodies (name ∷ kind ∷ [])) (ok_is (record { name = b.0; kind = d.0; items = [] }) body d.2)
    (record {
      spelled = ap (λ (m : List ℕ). codes "body" ∷ m ∷ body_kind_word d.0 ∷ []) (sym (t.0 ∙ w.1)) ∙ ap (λ (m : List ℕ). codes "body" ∷ name ∷ m ∷ []) (sym k);
      name = subst (IsName 16) w.1 t.1;
      new = ap (body_taken bodies) (sym (t.0 ∙ w.1)) ∙ w.0;
      empty = refl;
    })

pub body_takes : (bodies : List RawBody) (line : List (List ℕ)) (body : RawBody) → body_at bodies line ≡ Ok body → TakenBody bodies line body
unfolding body_at
body_takes bodies [] body e = absurd (cc)
body_takes bodies (name ∷ []) body e = absurd (cc)
body_takes bodies (name ∷ kind ∷ []) body e = body_from_takes bodies name kind body e
body_takes bodies (name ∷ kind ∷ other ∷ line) body e = absurd (cc)

pub body_again : (bodies : List RawBody) (name : List ℕ) (kind : BodyKind) → IsName 16 name → body_taken bodies name ≡ false → body_at bodies (name ∷ body_kind_word kind ∷ []) ≡ Ok (record { name = name; kind = kind; items = [] })
unfolding body_at body_from new_body_name
body_again bodies name kind is new = rw (name_again name is, new, kind_again kind) refl

pub label_takes : (lines : List RawItem) (line : List (List ℕ)) (name : List ℕ) → label_at lines line ≡ Ok name → (name ∷ [] ≡ line) × IsName 16 name × (label_taken lines name ≡ false)
unfolding label_at new_label
label_takes lines [] name e = absurd (cc)
label_takes lines (word ∷ []) name e =
    let n = bind_ok (name_at word) (λ m. new_name (label_taken lines word) m) name e in
    let t = name_takes word n.0 n.1 in
    let w = new_name_takes (label_taken lines word) n.0 name n.2 in
    (ap (λ (m : List ℕ). m ∷ []) (sym (t.0 ∙ w.1)), subst (IsName 16) w.1 t.1, ap (label_taken lines) (sym (t.0 ∙ w.1)) ∙ w.0)
label_takes lines (word ∷ other ∷ line) name e = absurd (cc)

pub label_again : (lines : List RawItem) (name : List ℕ) → IsName 16 name → label_taken lines name ≡ false → label_at lines (name ∷ []) ≡ Ok name
unfolding label_at new_label
label_again lines name is new = rw (name_again name is, new) refl
