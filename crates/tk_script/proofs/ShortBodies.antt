-- Each body of a text has few lines.
use Rattle.std.specs.Prelude.{codes, flat_map}
use Rattle.std.proofs.Common.{◌≡◌, ap, arith, ℕ, suc, ◌^◌, ◌<◌, ◌≤◌, Bool, true, false, cond, List, [], ◌∷◌, ◌++◌, map, length, length-append}
use Rattle.std.proofs.lemmas.List.{length-map}
use Rattle.tk_model.specs.ScriptText.{body_kind_word, device_words, irq_words, pace_lines}
use Rattle.tk_model.specs.TextLines.{is_kept, kept_behind, kept_from, kept_lines, text_lines}
use Rattle.tk_model.specs.Words.{words_of}
use Rattle.tk_raw.specs.RawText.{open_body_lines, raw_body_lines, raw_boot_words, raw_item_words, raw_lines}
use Rattle.tk_raw.specs.Spelling.{SpellsRaw}
use Rattle.tk_raw.specs.declared.raw.RawBody.{RawBody}
use Rattle.tk_raw.specs.declared.raw.RawScript.{RawScript}
use Rattle.tk_script.specs.Resolving.{AreShort}
use Rattle.tk_script.proofs.PlainLines.{total}
use Rattle.tk_script.proofs.PlainTexts.{text_total}

kept_by : (b : Bool) (words : List (List ℕ)) (kept : List (List (List ℕ))) (n : ℕ) → length kept ≤ n → length (cond b (words ∷ kept) kept) ≤ suc n
kept_by true words kept n low = omega arith
kept_by false words kept n low = omega arith

kept_few : (lines : List (List ℕ)) → length (kept_behind lines) ≤ total lines
unfolding kept_behind total
kept_few [] = omega arith
kept_few (line ∷ lines) =
    let one = kept_by (is_kept (words_of line)) (words_of line) (kept_behind lines) (total lines) (kept_few lines) in omega (arith, one)

from_few : (lines : List (List ℕ)) → length (kept_from lines) ≤ total lines
unfolding kept_from total
from_few [] = omega arith
from_few (head ∷ lines) = let more = kept_few lines in omega (arith, more)

body_lines_length : (body : RawBody) → length body.items ≤ length (raw_body_lines body)
unfolding raw_body_lines open_body_lines
body_lines_length body =
    omega (arith, length-append ((codes "body" ∷ body.name ∷ body_kind_word body.kind ∷ []) ∷ map raw_item_words body.items) ((codes "end" ∷ []) ∷ []), length-map body.items raw_item_words)

bodies_short : (bodies : List RawBody) (n : ℕ) → length (flat_map raw_body_lines bodies) ≤ n → n < 2 ^ 32 → AreShort bodies
bodies_short [] n few low = tt
bodies_short (body ∷ bodies) n few low =
    let one = body_lines_length body in
    let whole = length-append (raw_body_lines body) (flat_map raw_body_lines bodies) in
    let here : length body.items < 2 ^ 32 = omega (arith, one, whole, few, low) in
    let rest : length (flat_map raw_body_lines bodies) ≤ n = omega (arith, whole, few) in
    (here, bodies_short bodies n rest low)

lines_length : (raw : RawScript) → length (flat_map raw_body_lines raw.bodies) ≤ length (raw_lines raw)
unfolding raw_lines
lines_length raw =
    let rest = raw_boot_words raw.boot ∷ flat_map raw_body_lines raw.bodies in
    omega (arith, length-append (map device_words raw.devices) (pace_lines raw.pace ++ (map irq_words raw.irqs ++ rest)), length-append (pace_lines raw.pace) (map irq_words raw.irqs ++ rest), length-append (map irq_words raw.irqs) rest)

-- the bodies of a script that a text spells
pub spelled_short : (text : List ℕ) (raw : RawScript) → SpellsRaw text raw → AreShort raw.bodies
spelled_short text raw spells =
    let kept = from_few (text_lines text) in
    let lines : length (kept_lines text) ≡ suc (length (raw_lines raw)) = ap length spells.lines in
    let whole = text_total text in
    let part = lines_length raw in
    let short = spells.short in
    let few : length (flat_map raw_body_lines raw.bodies) ≤ 1048577 = omega (arith, kept, lines, whole, part, short) in
    bodies_short raw.bodies 1048577 few (omega arith)
