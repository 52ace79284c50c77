-- Whole scripts, with their names looked up: the lines are those that were read, and each script is found again.
use Rattle.std.specs.Prelude.{flat_map}
use Rattle.std.proofs.Common.{◌≡◌, ◌∙◌, sym, ap, subst, refl, ℕ, List, [], ◌∷◌, ◌++◌, length, drop, Ok, append_assoc}
use Rattle.std.specs.List.{AllByRecursion}
use Rattle.std.proofs.lemmas.List.{append-nil, length-map}
use Rattle.tk_types.specs.declared.script.Body.{Body}
use Rattle.tk_types.specs.declared.script.BodyKind.TheVariants.{Task}
use Rattle.tk_types.specs.declared.script.Script.{Script}
use Rattle.tk_model.specs.ScriptText.{all_differ, body_lines, body_word, head_words, printed_lines, IsBetween, IsBody, IsName, IsScript}
use Rattle.tk_raw.specs.RawText.{raw_body_lines, raw_lines, IsRaw, IsRawBody}
use Rattle.tk_raw.specs.declared.raw.RawBody.{RawBody}
use Rattle.tk_raw.specs.declared.raw.RawScript.{RawScript}
use Rattle.tk_script.specs.Resolving.{◌>>=◌, at_line, behind_body, bodies_from, bodies_with, body_number, body_of, boot_numbers, boot_of, first_number, resolved}
use Rattle.tk_script.proofs.NameLaws.{SameBodies, Found, number_takes, number_again}
use Rattle.tk_script.proofs.ArgumentLaws.{bind_ok, word_named, Alike}
use Rattle.tk_script.proofs.Weaving.{sure_is, line_ok}
use Rattle.tk_script.proofs.BodyLaws.{FoundBody, body_found, TakenBody, body_takes, WrittenBody, body_text, body_again, AgainBody, body_is}

-- body by body
unfoldable pub Each : (RawBody → Body → Type 0) → List RawBody → List Body → Type 0
Each R [] [] = Unit {0}
Each R (raw ∷ raws) (body ∷ bodies) = R raw body × Each R raws bodies
Each R _ _ = ⊥

-- ---- what is read

pub record FoundBodies (raws list : List RawBody) (front all : List Body) : Type 0 where
  pub bodies : List Body
  pub is : all ≡ front ++ bodies
  pub each : Each (FoundBody raws) list bodies

pub bodies_found : (raws : List RawBody) (numbers : List ℕ) (list : List RawBody) (front all : List Body) → AllByRecursion IsRawBody list → bodies_from raws numbers list front ≡ Ok all → FoundBodies raws list front all
unfolding bodies_from bodies_with Each
bodies_found raws numbers [] front all fits e = record { bodies = []; is = sym (append-nil front ∙ sure_is front all e); each = tt }
bodies_found raws numbers (raw ∷ list) front all fits e =
    let b = bind_ok (bodies_with raws numbers raw front) (λ next. bodies_from raws (behind_body raw numbers) list next) all e in
    let c = bind_ok (body_of raws numbers raw) (λ found. Ok (front ++ found ∷ [])) b.0 b.1 in
    let more = bodies_found raws (behind_body raw numbers) list b.0 all fits.1 b.2 in
    let next : front ++ c.0 ∷ [] ≡ b.0 = sure_is (front ++ c.0 ∷ []) b.0 c.2 in
    record {
      bodies = c.0 ∷ more.bodies;
      is = more.is ∙ (ap (λ (f : List Body). f ++ more.bodies) (sym next) ∙ append_assoc front (c.0 ∷ []) more.bodies);
      each = (body_found raws numbers raw c.0 fits.0 c.1, more.each);
    }

each_same : (R : RawBody → Body → Type 0) (raws : List RawBody) (bodies : List Body) → ((raw : RawBody) (body : Body) → R raw body → (raw.name ≡ body.name) × (raw.kind ≡ body.kind)) → Each R raws bodies → SameBodies raws bodies
unfolding Each
each_same R [] [] same each = record { names = refl; kinds = refl }
each_same R [] (body ∷ bodies) same each = absurd each
each_same R (raw ∷ raws) [] same each = absurd each
each_same R (raw ∷ raws) (body ∷ bodies) same each =
    let here = same raw body each.0 in
    let more = each_same R raws bodies same each.1 in
    record { names = rw (here.0, more.names) refl; kinds = rw (here.1, more.kinds) refl }

each_lines : (R : RawBody → Body → Type 0) (whole : List Body) (raws : List RawBody) (bodies : List Body) → ((raw : RawBody) (body : Body) → R raw body → body_lines whole body ≡ raw_body_lines raw) → Each R raws bodies → flat_map (body_lines whole) bodies ≡ flat_map raw_body_lines raws
unfolding Each
each_lines R whole [] [] same each = refl
each_lines R whole [] (body ∷ bodies) same each = absurd each
each_lines R whole (raw ∷ raws) [] same each = absurd each
each_lines R whole (raw ∷ raws) (body ∷ bodies) same each = rw (same raw body each.0, each_lines R whole raws bodies same each.1) refl

each_body : (R : RawBody → Body → Type 0) (P : Body → Type 0) (raws : List RawBody) (bodies : List Body) → ((raw : RawBody) (body : Body) → R raw body → P body) → Each R raws bodies → AllByRecursion P bodies
unfolding Each
each_body R P [] [] holds each = tt
each_body R P [] (body ∷ bodies) holds each = absurd each
each_body R P (raw ∷ raws) [] holds each = absurd each
each_body R P (raw ∷ raws) (body ∷ bodies) holds each = (holds raw body each.0, each_body R P raws bodies holds each.1)

each_raw : (R : RawBody → Body → Type 0) (P : RawBody → Type 0) (raws : List RawBody) (bodies : List Body) → ((raw : RawBody) (body : Body) → R raw body → P raw) → Each R raws bodies → AllByRecursion P raws
unfolding Each
each_raw R P [] [] holds each = tt
each_raw R P [] (body ∷ bodies) holds each = absurd each
each_raw R P (raw ∷ raws) [] holds each = absurd each
each_raw R P (raw ∷ raws) (body ∷ bodies) holds each = (holds raw body each.0, each_raw R P raws bodies holds each.1)

-- what holds of each, with what holds of the bodies that were read
each_with : (R Q : RawBody → Body → Type 0) (P : RawBody → Type 0) (raws : List RawBody) (bodies : List Body) → ((raw : RawBody) (body : Body) → P raw → R raw body → Q raw body) → AllByRecursion P raws → Each R raws bodies → Each Q raws bodies
unfolding Each
each_with R Q P [] [] holds all each = tt
each_with R Q P [] (body ∷ bodies) holds all each = absurd each
each_with R Q P (raw ∷ raws) [] holds all each = absurd each
each_with R Q P (raw ∷ raws) (body ∷ bodies) holds all each = (holds raw body all.0 each.0, each_with R Q P raws bodies holds all.1 each.1)

-- the same with what holds of the bodies that are found
each_of : (R Q : RawBody → Body → Type 0) (P : Body → Type 0) (raws : List RawBody) (bodies : List Body) → ((raw : RawBody) (body : Body) → P body → R raw body → Q raw body) → AllByRecursion P bodies → Each R raws bodies → Each Q raws bodies
unfolding Each
each_of R Q P [] [] holds all each = tt
each_of R Q P [] (body ∷ bodies) holds all each = absurd each
each_of R Q P (raw ∷ raws) [] holds all each = absurd each
each_of R Q P (raw ∷ raws) (body ∷ bodies) holds all each = (holds raw body all.0 each.0, each_of R Q P raws bodies holds all.1 each.1)

same_length : (raws : List RawBody) (bodies : List Body) → SameBodies raws bodies → length raws ≡ length bodies
same_length raws bodies same =
    sym (length-map raws (λ (raw : RawBody). raw.name)) ∙ (ap length same.names ∙ length-map bodies (λ (body : Body). body.name))

-- the lines of a script with its names looked up
pub same_script_lines : (raw : RawScript) (boot : ℕ) (bodies : List Body) → body_word bodies boot ≡ raw.boot.body → flat_map (body_lines bodies) bodies ≡ flat_map raw_body_lines raw.bodies
    → printed_lines (record { devices = raw.devices; pace = raw.pace; irqs = raw.irqs; boot = record { body = boot; priority = raw.boot.priority }; bodies = bodies }) ≡ head_words ∷ raw_lines raw
unfolding printed_lines raw_lines
same_script_lines raw boot bodies word lines = rw (word, lines) refl

-- a script that is found
pub record TakenScript (raw : RawScript) (script : Script) : Type 0 where
  pub lines : printed_lines script ≡ head_words ∷ raw_lines raw
  pub is : IsScript script

-- a script whose names are found has the lines that were read, and is one
pub script_takes : (raw : RawScript) (script : Script) → IsRaw raw → resolved raw ≡ Ok script → TakenScript raw script
unfolding resolved boot_of
script_takes raw script is e =
    let made : ℕ → List Body → Script = λ boot bodies. record { devices = raw.devices; pace = raw.pace; irqs = raw.irqs; boot = record { body = boot; priority = raw.boot.priority }; bodies = bodies } in
    let b = bind_ok (at_line (first_number (boot_numbers raw)) (body_number raw.bodies Task raw.boot.body)) _ script e in
    let c = bind_ok (bodies_from raw.bodies (drop 1 (boot_numbers raw)) raw.bodies []) (λ bodies. Ok (made b.0 bodies)) script b.2 in
    let found = bodies_found raw.bodies (drop 1 (boot_numbers raw)) raw.bodies [] c.0 is.bodies c.1 in
    let F : List Body → Type 0 = λ bs. Each (FoundBody raw.bodies) raw.bodies bs in
    let each = subst F (sym found.is) found.each in
    let same = each_same (FoundBody raw.bodies) raw.bodies c.0 (λ r body f. (f.name, f.kind)) each in
    let taken = each_with (FoundBody raw.bodies) (TakenBody c.0) IsRawBody raw.bodies c.0 (λ r body raw_is f. body_takes raw.bodies c.0 r body same raw_is f) is.bodies each in
    let boot : Found c.0 Task raw.boot.body b.0 = number_takes raw.bodies c.0 Task raw.boot.body b.0 same (line_ok (first_number (boot_numbers raw)) (body_number raw.bodies Task raw.boot.body) b.0 b.1) in
    let lines = each_lines (TakenBody c.0) c.0 raw.bodies c.0 (λ r body t. t.lines) taken in
    let count = same_length raw.bodies c.0 same in
    subst (TakenScript raw) (sure_is (made b.0 c.0) script c.2) (record {
      lines = same_script_lines raw b.0 c.0 boot.word lines;
      is = record {
        few_devices = is.few_devices;
        devices = is.devices;
        devices_differ = is.devices_differ;
        pace = is.pace;
        few_irqs = is.few_irqs;
        irqs = is.irqs;
        boot_body = boot.is;
        boot_priority = is.boot_priority;
        few_bodies = subst (IsBetween 1 255) count is.few_bodies;
        bodies_differ = ap all_differ (sym same.names) ∙ is.bodies_differ;
        bodies = each_body (TakenBody c.0) (IsBody c.0) raw.bodies c.0 (λ r body t. t.is) taken;
      };
    })

-- ---- what may stand is found again

pub record BodyTexts (whole bodies : List Body) : Type 0 where
  pub raws : List RawBody
  pub each : Each (WrittenBody whole) raws bodies

body_texts : (whole bodies : List Body) → AllByRecursion (IsBody whole) bodies → BodyTexts whole bodies
unfolding Each
body_texts whole [] all = record { raws = []; each = tt }
body_texts whole (body ∷ bodies) all =
    let one = body_text whole body all.0 in
    let more = body_texts whole bodies all.1 in
    record { raws = one.raw ∷ more.raws; each = (one.written, more.each) }

all_named : (whole bodies : List Body) → AllByRecursion (IsBody whole) bodies → AllByRecursion (λ (body : Body). IsName 16 body.name) bodies
all_named whole [] all = tt
all_named whole (body ∷ bodies) all = (all.0.name, all_named whole bodies all.1)

bodies_again : (raws : List RawBody) (whole : List Body) (numbers : List ℕ) (list : List RawBody) (front bodies : List Body) → Alike raws whole → AllByRecursion (IsBody whole) bodies → Each (WrittenBody whole) list bodies → bodies_from raws numbers list front ≡ Ok (front ++ bodies)
unfolding Each bodies_from bodies_with
bodies_again raws whole numbers [] front [] alike all each = ap Ok (sym (append-nil front))
bodies_again raws whole numbers [] front (body ∷ bodies) alike all each = absurd each
bodies_again raws whole numbers (raw ∷ list) front [] alike all each = absurd each
bodies_again raws whole numbers (raw ∷ list) front (body ∷ bodies) alike all each =
    ap (λ o. (o >>= λ found. Ok (front ++ found ∷ [])) >>= λ next. bodies_from raws (behind_body raw numbers) list next) (body_again raws whole numbers raw body alike all.0 each.0)
    ∙ (bodies_again raws whole (behind_body raw numbers) list (front ++ body ∷ []) bodies alike all.1 each.1
    ∙ ap Ok (append_assoc front (body ∷ []) bodies))

-- a script before its names are looked up
pub record ScriptText (script : Script) (numbers : List ℕ) (raw : RawScript) : Type 0 where
  pub lines : printed_lines script ≡ head_words ∷ raw_lines raw
  pub numbers_are : raw.lines ≡ numbers
  pub found : resolved raw ≡ Ok script
  pub is : length numbers ≡ length (raw_lines raw) → IsRaw raw

pub record Text (script : Script) (numbers : List ℕ) : Type 0 where
  pub raw : RawScript
  pub text : ScriptText script numbers raw

-- each script can be written, and it is found again
pub script_again : (script : Script) (numbers : List ℕ) → IsScript script → Text script numbers
unfolding resolved boot_of
script_again script numbers is =
    let bodies = script.bodies in
    let texts = body_texts bodies bodies is.bodies in
    let same = each_same (WrittenBody bodies) texts.raws bodies (λ r body w. (w.name, w.kind)) texts.each in
    let alike : Alike texts.raws bodies = record { same = same; differ = is.bodies_differ; few = is.few_bodies.1; named = all_named bodies bodies is.bodies } in
    let raw : RawScript = record { devices = script.devices; pace = script.pace; irqs = script.irqs; boot = record { body = body_word bodies script.boot.body; priority = script.boot.priority }; bodies = texts.raws; lines = numbers } in
    let each = each_of (WrittenBody bodies) (AgainBody bodies) (IsBody bodies) texts.raws bodies (λ r body body_is_one w. body_is texts.raws bodies r body alike body_is_one w) is.bodies texts.each in
    let lines = each_lines (AgainBody bodies) bodies texts.raws bodies (λ r body a. a.lines) each in
    let boot = number_again texts.raws bodies Task script.boot.body same is.bodies_differ is.few_bodies.1 is.boot_body in
    let found = bodies_again texts.raws bodies (drop 1 (boot_numbers raw)) texts.raws [] bodies alike is.bodies texts.each in
    let count = same_length texts.raws bodies same in
    record {
      raw = raw;
      text = record {
        lines = same_script_lines raw script.boot.body bodies refl lines;
        numbers_are = refl;
        found = rw (boot, found) refl;
        is = λ numbered. record {
          few_devices = is.few_devices;
          devices = is.devices;
          devices_differ = is.devices_differ;
          pace = is.pace;
          few_irqs = is.few_irqs;
          irqs = is.irqs;
          boot_body = word_named texts.raws bodies Task script.boot.body alike is.boot_body;
          boot_priority = is.boot_priority;
          few_bodies = subst (IsBetween 1 255) (sym count) is.few_bodies;
          bodies_differ = ap all_differ same.names ∙ is.bodies_differ;
          bodies = each_raw (AgainBody bodies) IsRawBody texts.raws bodies (λ r body a. a.is) each;
          numbered = numbered;
        };
      };
    }
