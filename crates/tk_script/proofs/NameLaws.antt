-- Names, looked up: which body or label a name stands for.
use Rattle.std.proofs.Common.{◌≡◌, ◌∙◌, sym, ap, subst, refl, arith, ℕ, zero, suc, ◌+◌, ◌-◌, eqb, ◌<◌, ◌≤◌, Bool, true, false, not, ◌&&◌, ◌||◌, List, [], ◌∷◌, map, length, get_or, Option, Some, None, Ok}
use Rattle.std.specs.Prelude.{nat_lt, position, slice_get}
use Rattle.std.specs.List.{list_any, position_or_len}
use Rattle.std.specs.Option.{option_map}
use Rattle.std.specs.Str.{bytes_eq}
use Rattle.std.proofs.lemmas.Bool.{lt-ltb}
use Rattle.std.proofs.lemmas.Bool.Decides.{nat_tests}
use Rattle.std.proofs.lemmas.List.Quantifiers.{position-Some}
use Rattle.std.proofs.lemmas.Option.{slice_get-map, slice_get_within, slice_get-get_or}
use Rattle.std.proofs.lemmas.Slice.Eq.{bytes_eq-Decides}
use Rattle.tk_types.specs.declared.script.Body.{Body}
use Rattle.tk_types.specs.declared.script.BodyKind.{BodyKind}
use Rattle.tk_types.specs.declared.script.BodyKind.TheVariants.{Task, Hand, Svc}
use Rattle.tk_types.specs.declared.script.Label.{Label}
use Rattle.tk_types.specs.declared.why.Why.TheVariants as whys
use Rattle.tk_model.specs.ScriptText.{all_differ, body_word, name_or_dash, label_name, IsBodyNumber}
use Rattle.tk_raw.specs.declared.raw.RawBody.{RawBody}
use Rattle.tk_raw.proofs.Results.{passed, both_true, ok_is, some_is, false_of_not}
use Rattle.tk_script.specs.Resolving.{same_kind, body_place, number_if, number_at, body_number, known, label_number}

-- ---- a name among names

-- what is known of a mapped option
pub mapped_some : {X Y : Type 0} (f : X → Y) (o : Option X) (y : Y) → option_map f o ≡ Some y → (x : X) × (o ≡ Some x) × (f x ≡ y)
mapped_some f None y e = absurd (cc)
mapped_some f (Some x) y e = (x, refl, cc)

-- neither of two tests passed
pub neither : (a b : Bool) → (a || b) ≡ false → (a ≡ false) × (b ≡ false)
neither true b e = absurd (cc)
neither false b e = (refl, e)

pub same_bytes : (word : List ℕ) → bytes_eq word word ≡ true
same_bytes word = (bytes_eq-Decides word word).1 refl

-- what is found in a place has the name
pub place_takes : {X : Type 0} (f : X → List ℕ) (xs : List X) (word : List ℕ) (i : ℕ) → position (λ x. bytes_eq (f x) word) xs ≡ Some i → option_map f (slice_get xs i) ≡ Some word
place_takes f [] word i e = absurd (cc)
place_takes f (x ∷ xs) word i e =
    let found = position-Some (λ y. bytes_eq (f y) word) (x ∷ xs) i x e in
    let same : f (get_or (x ∷ xs) i x) ≡ word = (bytes_eq-Decides (f (get_or (x ∷ xs) i x)) word).0 found.1 in
    ap (option_map f) (slice_get-get_or (x ∷ xs) i x found.0) ∙ ap Some same

-- a name that isn't among those behind
not_among : {X : Type 0} (f : X → List ℕ) (first word : List ℕ) (xs : List X) (i : ℕ) → list_any (bytes_eq first) (map f xs) ≡ false → option_map f (slice_get xs i) ≡ Some word → bytes_eq first word ≡ false
not_among f first word [] i none is = absurd (cc)
not_among f first word (x ∷ xs) zero none is = subst (λ w. bytes_eq first w ≡ false) (some_is (f x) word is) (neither (bytes_eq first (f x)) (list_any (bytes_eq first) (map f xs)) none).0
not_among f first word (x ∷ xs) (suc i) none is = not_among f first word xs i (neither (bytes_eq first (f x)) (list_any (bytes_eq first) (map f xs)) none).1 is

place_len : {X : Type 0} (f : X → List ℕ) (xs : List X) (word : List ℕ) (i : ℕ) → all_differ (map f xs) ≡ true → option_map f (slice_get xs i) ≡ Some word → position_or_len (λ x. bytes_eq (f x) word) xs ≡ i
unfolding all_differ
place_len f [] word i differ is = absurd (cc)
place_len f (x ∷ xs) word zero differ is =
    let same : bytes_eq (f x) word ≡ true = (bytes_eq-Decides (f x) word).1 (some_is (f x) word is) in rw same refl
place_len f (x ∷ xs) word (suc i) differ is =
    let t = both_true (not (list_any (bytes_eq (f x)) (map f xs))) (all_differ (map f xs)) differ in
    let other : bytes_eq (f x) word ≡ false = not_among f (f x) word xs i (false_of_not _ t.0) is in
    rw (other, place_len f xs word i t.1 is) (omega arith)

-- where the names differ, the one in a place is found there
pub place_again : {X : Type 0} (f : X → List ℕ) (xs : List X) (word : List ℕ) (i : ℕ) → all_differ (map f xs) ≡ true → option_map f (slice_get xs i) ≡ Some word → position (λ x. bytes_eq (f x) word) xs ≡ Some i
place_again f xs word i differ is =
    let found = mapped_some f (slice_get xs i) word is in
    let within : i < length xs = slice_get_within xs i found.0 found.1 in
    rw (place_len f xs word i differ is, lt-ltb i (length xs) within) refl

-- ---- bodies

-- the bodies of two scripts have the same names and kinds
pub record SameBodies (raws : List RawBody) (bodies : List Body) : Type 0 where
  pub names : map (λ (raw : RawBody). raw.name) raws ≡ map (λ (body : Body). body.name) bodies
  pub kinds : map (λ (raw : RawBody). raw.kind) raws ≡ map (λ (body : Body). body.kind) bodies

pub name_in : (raws : List RawBody) (bodies : List Body) (i : ℕ) → SameBodies raws bodies → option_map (λ (raw : RawBody). raw.name) (slice_get raws i) ≡ option_map (λ (body : Body). body.name) (slice_get bodies i)
name_in raws bodies i same = sym (slice_get-map (λ (raw : RawBody). raw.name) raws i) ∙ (ap (λ names. slice_get names i) same.names ∙ slice_get-map (λ (body : Body). body.name) bodies i)

pub kind_in : (raws : List RawBody) (bodies : List Body) (i : ℕ) → SameBodies raws bodies → option_map (λ (raw : RawBody). raw.kind) (slice_get raws i) ≡ option_map (λ (body : Body). body.kind) (slice_get bodies i)
kind_in raws bodies i same = sym (slice_get-map (λ (raw : RawBody). raw.kind) raws i) ∙ (ap (λ kinds. slice_get kinds i) same.kinds ∙ slice_get-map (λ (body : Body). body.kind) bodies i)

pub kinds_same : (kind other : BodyKind) → same_kind kind other ≡ true → kind ≡ other
kinds_same Task Task e = refl
kinds_same Hand Hand e = refl
kinds_same Svc Svc e = refl
kinds_same _ _ e = absurd (cc)

pub same_kind_again : (kind : BodyKind) → same_kind kind kind ≡ true
same_kind_again Task = refl
same_kind_again Hand = refl
same_kind_again Svc = refl

pub not_zero : (n : ℕ) → 1 ≤ n → eqb n 0 ≡ false
not_zero n low = grind (arith, nat_tests)

-- the word of a number from 1 on is the name in its place
pub numbered_word : (bodies : List Body) (n : ℕ) → 1 ≤ n → body_word bodies n ≡ name_or_dash (slice_get bodies (n - 1))
unfolding body_word
numbered_word bodies n low = rw (not_zero n low) refl

pub name_or : (found : Option Body) (name : List ℕ) → option_map (λ (body : Body). body.name) found ≡ Some name → name_or_dash found ≡ name
name_or None name e = absurd (cc)
name_or (Some body) name e = cc

-- what a name is found to be
pub record Found (bodies : List Body) (kind : BodyKind) (name : List ℕ) (n : ℕ) : Type 0 where
  pub word : body_word bodies n ≡ name
  pub is : IsBodyNumber bodies kind n

if_takes : (raws : List RawBody) (bodies : List Body) (kind : BodyKind) (name : List ℕ) (i n : ℕ) (o : Option RawBody) → SameBodies raws bodies → slice_get raws i ≡ o → option_map (λ (raw : RawBody). raw.name) o ≡ Some name → number_if kind i o ≡ Ok n → Found bodies kind name n
if_takes raws bodies kind name i n None same is named e = absurd (cc)
if_takes raws bodies kind name i n (Some raw) same is named e =
    let t = passed (same_kind raw.kind kind && nat_lt i 255) _ whys.Kind n e in
    let k = both_true (same_kind raw.kind kind) (nat_lt i 255) t.0 in
    let number : i + 1 ≡ n = ok_is (i + 1) n t.1 in
    let back : (i + 1) - 1 ≡ i = omega arith in
    let low : 1 ≤ i + 1 = omega arith in
    let word : option_map (λ (body : Body). body.name) (slice_get bodies ((i + 1) - 1)) ≡ Some name =
    rw back (sym (name_in raws bodies i same) ∙ (ap (option_map (λ (r : RawBody). r.name)) is ∙ named)) in
    let kinds : option_map (λ (body : Body). body.kind) (slice_get bodies ((i + 1) - 1)) ≡ Some kind =
    rw back (sym (kind_in raws bodies i same) ∙ (ap (option_map (λ (r : RawBody). r.kind)) is ∙ ap Some (kinds_same raw.kind kind k.0))) in
    subst (Found bodies kind name) number (record {
      word = numbered_word bodies (i + 1) low ∙ name_or (slice_get bodies ((i + 1) - 1)) name word;
      is = record { from_one = low; is = kinds };
    })

at_takes : (raws : List RawBody) (bodies : List Body) (kind : BodyKind) (name : List ℕ) (n : ℕ) (place : Option ℕ) → SameBodies raws bodies → position (λ (raw : RawBody). bytes_eq raw.name name) raws ≡ place → number_at raws kind place ≡ Ok n → Found bodies kind name n
at_takes raws bodies kind name n None same is e = absurd (cc)
at_takes raws bodies kind name n (Some i) same is e =
    if_takes raws bodies kind name i n (slice_get raws i) same refl (place_takes (λ (raw : RawBody). raw.name) raws name i is) e

-- a number that is found is that of the body with the name
pub number_takes : (raws : List RawBody) (bodies : List Body) (kind : BodyKind) (name : List ℕ) (n : ℕ) → SameBodies raws bodies → body_number raws kind name ≡ Ok n → Found bodies kind name n
unfolding body_number body_place
number_takes raws bodies kind name n same e = at_takes raws bodies kind name n _ same refl e

if_again : (raw : RawBody) (kind : BodyKind) (i : ℕ) (o : Option RawBody) → o ≡ Some raw → raw.kind ≡ kind → i < 255 → number_if kind i o ≡ Ok (i + 1)
if_again raw kind i o is same few = rw (is, same, same_kind_again kind, lt-ltb i 255 few) refl

-- the name of a body is found again, where names differ
pub number_again : (raws : List RawBody) (bodies : List Body) (kind : BodyKind) (n : ℕ) → SameBodies raws bodies → all_differ (map (λ (body : Body). body.name) bodies) ≡ true → length bodies ≤ 255 → IsBodyNumber bodies kind n → body_number raws kind (body_word bodies n) ≡ Ok n
unfolding body_number body_place
number_again raws bodies kind n same differ few is =
    let found = mapped_some (λ (body : Body). body.kind) (slice_get bodies (n - 1)) kind is.is in
    let within : n - 1 < length bodies = slice_get_within bodies (n - 1) found.0 found.1 in
    let word : body_word bodies n ≡ found.0.name = numbered_word bodies n is.from_one ∙ ap name_or_dash found.1 in
    let named : option_map (λ (raw : RawBody). raw.name) (slice_get raws (n - 1)) ≡ Some found.0.name = name_in raws bodies (n - 1) same ∙ ap (option_map (λ (body : Body). body.name)) found.1 in
    let raw_found = mapped_some (λ (raw : RawBody). raw.name) (slice_get raws (n - 1)) found.0.name named in
    let kinds : option_map (λ (raw : RawBody). raw.kind) (slice_get raws (n - 1)) ≡ Some kind = kind_in raws bodies (n - 1) same ∙ is.is in
    let raw_kind : raw_found.0.kind ≡ kind = some_is raw_found.0.kind kind (sym (ap (option_map (λ (raw : RawBody). raw.kind)) raw_found.1) ∙ kinds) in
    let differ_raw : all_differ (map (λ (raw : RawBody). raw.name) raws) ≡ true = ap all_differ same.names ∙ differ in
    let placed : position (λ (raw : RawBody). bytes_eq raw.name found.0.name) raws ≡ Some (n - 1) = place_again (λ (raw : RawBody). raw.name) raws found.0.name (n - 1) differ_raw named in
    let back : (n - 1) + 1 ≡ n = omega (arith, is.from_one) in
    ap (body_number raws kind) word
    ∙ (ap (number_at raws kind) placed
    ∙ (if_again raw_found.0 kind (n - 1) (slice_get raws (n - 1)) raw_found.1 raw_kind (omega arith)
    ∙ ap Ok back))

-- ---- labels

label_or : (found : Option Label) (name : List ℕ) → option_map (λ (label : Label). label.name) found ≡ Some name → label_name found ≡ name
label_or None name e = absurd (cc)
label_or (Some label) name e = cc

known_is : (o : Option ℕ) (i : ℕ) → known o ≡ Ok i → o ≡ Some i
known_is None i e = absurd (cc)
known_is (Some j) i e = cc

pub label_takes : (labels : List Label) (name : List ℕ) (i : ℕ) → label_number labels name ≡ Ok i → (label_name (slice_get labels i) ≡ name) × (i < length labels)
unfolding label_number
label_takes labels name i e =
    let named = place_takes (λ (label : Label). label.name) labels name i (known_is _ i e) in
    let found = mapped_some (λ (label : Label). label.name) (slice_get labels i) name named in
    (label_or (slice_get labels i) name named, slice_get_within labels i found.0 found.1)

label_there : (labels : List Label) (i : ℕ) → i < length labels → (label : Label) × (slice_get labels i ≡ Some label)
label_there [] i within = absurd (omega arith)
label_there (label ∷ labels) i within = (get_or (label ∷ labels) i label, slice_get-get_or (label ∷ labels) i label within)

pub label_again : (labels : List Label) (i : ℕ) → all_differ (map (λ (label : Label). label.name) labels) ≡ true → i < length labels → label_number labels (label_name (slice_get labels i)) ≡ Ok i
unfolding label_number
label_again labels i differ within =
    let found = label_there labels i within in
    let named : option_map (λ (label : Label). label.name) (slice_get labels i) ≡ Some found.0.name = ap (option_map (λ (label : Label). label.name)) found.1 in
    ap (label_number labels) (ap label_name found.1)
    ∙ ap known (place_again (λ (label : Label). label.name) labels found.0.name i differ named)
