-- Lines that are the texts of entries, one by one.
use Rattle.std.proofs.Common.{◌≡◌, ◌≢◌, ℕ, ◌+◌, ◌<◌, ◌^◌, Bool, true, false, cond, ltb, List, [], ◌∷◌, ◌++◌, length, map, codes, Option, Some, None, option_and_then, Result, Ok, Err, refl, sym, ap, subst, ◌∙◌, append_assoc, append-nil}
use Rattle.std.specs.Prelude.{IfSome, IfNone}
use Rattle.std.specs.List.{AllByRecursion}
use Rattle.std.specs.Str.{bytes_eq}
use Rattle.std.proofs.lemmas.Bool.Decides.{Decides-ltb}
use Rattle.tk_types.specs.declared.line.Entry.{Entry}
use Rattle.tk_types.specs.declared.line.How.{How}
use Rattle.tk_types.specs.declared.line.How.TheVariants as hows
use Rattle.tk_types.specs.declared.why.Why.TheVariants.{Journal}
use Rattle.tk_model.specs.Decimals.{natural_at}
use Rattle.tk_model.specs.Journal.{IsEntry, IsHow, text_of_entry}
use Rattle.tk_model.specs.TextLines.{text_lines}
use Rattle.tk_model.specs.Words.{parts_of}
use Rattle.tk_raw.specs.RawReading.{Refusal}
use Rattle.tk_text.proofs.Options.{value_chosen}
use Rattle.tk_trace.specs.Reading.{◌>>=◌, below, u8_at, u32_at}
use Rattle.tk_trace.specs.Entries.{how_at, entry_at}
use Rattle.tk_trace.proofs.Texts.{entry_found, entry_text_read}
use Rattle.tk_session.specs.Reading.{entries_from, line_entry, then_entries, with_front}
use Rattle.tk_session.proofs.LineLaws.{no_lines_left}

-- ---- the numbers that words spell fit their types

-- the two steps of a reading that gave a value
and_then_some : {A B : Type 0} (next : A → Option B) (first : Option A) (value : B) → option_and_then next first ≡ Some value → (x : A) × ((first ≡ Some x) × (next x ≡ Some value))
and_then_some next None value e = absurd (cc)
and_then_some next (Some x) value e = (x, (refl, e))

below_fits : (limit n : ℕ) (read : Option ℕ) → below limit read ≡ Some n → n < limit
below_fits limit n None e = absurd (cc)
below_fits limit n (Some m) e =
    let chosen = value_chosen (ltb m limit) m n e in subst (λ (k : ℕ). k < limit) chosen.1 ((Decides-ltb m limit).0 chosen.0)

pub u8_fits : (word : List ℕ) (n : ℕ) → u8_at word ≡ Some n → n < 2 ^ 8
unfolding u8_at
u8_fits word n e = below_fits (2 ^ 8) n (natural_at word) e

pub u32_fits : (word : List ℕ) (n : ℕ) → u32_at word ≡ Some n → n < 2 ^ 32
unfolding u32_at
u32_fits word n e = below_fits (2 ^ 32) n (natural_at word) e

chosen_is : {A : Type 0} (b : Bool) (value : A) (rest : Option A) → cond b rest None ≡ Some value → rest ≡ Some value
chosen_is true value rest e = e
chosen_is false value rest e = absurd (cc)

how_fits : (words : List (List ℕ)) (how : How) → how_at words ≡ Some how → IsHow how
unfolding how_at
how_fits [] how e = absurd (cc)
how_fits (word ∷ []) how e =
    let same : hows.Done ≡ how = cc (chosen_is (bytes_eq word (codes "done")) how (Some hows.Done) e) in subst IsHow same tt
how_fits (word ∷ size ∷ []) how e =
    let (n, (read, made)) = and_then_some (λ (n : ℕ). Some (hows.Cut n)) (u32_at size) how (chosen_is (bytes_eq word (codes "cut")) how (u32_at size >>= λ n. Some (hows.Cut n)) e) in
    let same : hows.Cut n ≡ how = cc in
    subst IsHow same (u32_fits size n read)
how_fits (word ∷ size ∷ more ∷ words) how e = absurd (cc)

abbrev entry_with : ℕ → ℕ → ℕ → How → Entry
entry_with place device request how = record { place = place; device = device; request = request; how = how }

entry_fits : (words : List (List ℕ)) (entry : Entry) → entry_at words ≡ Some entry → IsEntry entry
unfolding entry_at
entry_fits [] entry e = absurd (cc)
entry_fits (place ∷ []) entry e = absurd (cc)
entry_fits (place ∷ device ∷ []) entry e = absurd (cc)
entry_fits (place ∷ device ∷ request ∷ words) entry e =
    let with_how = λ (p d r : ℕ) (how : How). Some (entry_with p d r how) in
    let with_request = λ (p d r : ℕ). option_and_then (with_how p d r) (how_at words) in
    let with_device = λ (p d : ℕ). option_and_then (with_request p d) (u8_at request) in
    let with_place = λ (p : ℕ). option_and_then (with_device p) (u8_at device) in
    let (p, (read_place, one)) = and_then_some with_place (u32_at place) entry e in
    let (d, (read_device, two)) = and_then_some (with_device p) (u8_at device) entry one in
    let (r, (read_request, three)) = and_then_some (with_request p d) (u8_at request) entry two in
    let (how, (read_how, four)) = and_then_some (with_how p d r) (how_at words) entry three in
    let same : entry_with p d r how ≡ entry = cc in
    subst IsEntry {x = entry_with p d r how} same (u32_fits place p read_place, u8_fits device d read_device, u8_fits request r read_request, how_fits words how read_how)

-- ---- one line

-- a line that is read as an entry is that entry's text
pub entry_text : (line : List ℕ) (entry : Entry) → line_entry line ≡ Some entry → (line ≡ text_of_entry entry) × IsEntry entry
unfolding line_entry
entry_text line entry e = entry_found line (Some entry) (sym e) (entry_fits (parts_of 32 line) entry e)

-- the text of an entry is read as that entry
pub entry_again : (entry : Entry) → IsEntry entry → line_entry (text_of_entry entry) ≡ Some entry
unfolding line_entry
entry_again entry is = entry_text_read entry is

never_read : (line : List ℕ) (read : Option Entry) → line_entry line ≡ read → ((entry : Entry) → IsEntry entry → line ≢ text_of_entry entry) → None ≡ read
never_read line None is never = refl
never_read line (Some entry) is never = let text = entry_text line entry is in absurd (never entry text.1 text.0)

-- an exact reading of a line
pub line_read : (line : List ℕ) (read : Option Entry) → IfSome read (λ entry. (line ≡ text_of_entry entry) × IsEntry entry) → IfNone read ((entry : Entry) → IsEntry entry → line ≢ text_of_entry entry) → read ≡ line_entry line
line_read line None some never = never_read line (line_entry line) refl never
line_read line (Some entry) some never = sym (ap line_entry some.0 ∙ entry_again entry some.1)

-- ---- one line after another

pub nothing_before : (read : Result (List Entry) Refusal) → with_front [] read ≡ read
nothing_before (Ok entries) = refl
nothing_before (Err refusal) = refl

two_fronts : (front : List Entry) (entry : Entry) (read : Result (List Entry) Refusal) → with_front front (with_front (entry ∷ []) read) ≡ with_front (front ++ entry ∷ []) read
two_fronts front entry (Ok entries) = ap (λ (all : List Entry). Ok all) (sym (append_assoc front (entry ∷ []) entries))
two_fronts front entry (Err refusal) = refl

-- the next line is an entry's
pub entry_passed : (number : ℕ) (front : List Entry) (entry : Entry) (line : List ℕ) (lines rest : List (List ℕ)) (all : Result (List Entry) Refusal)
    → lines ≡ line ∷ rest → line_entry line ≡ Some entry → with_front front (entries_from number lines) ≡ all → with_front (front ++ entry ∷ []) (entries_from (number + 1) rest) ≡ all
unfolding entries_from
entry_passed number front entry line lines rest all cut read same =
    sym (two_fronts front entry (entries_from (number + 1) rest))
    ∙ (ap (λ (r : Option Entry). with_front front (then_entries number r (entries_from (number + 1) rest))) (sym read)
    ∙ (ap (λ (ls : List (List ℕ)). with_front front (entries_from number ls)) (sym cut) ∙ same))

-- the next line is no entry's
pub entry_refused : (number : ℕ) (front : List Entry) (line : List ℕ) (lines rest : List (List ℕ)) (all : Result (List Entry) Refusal)
    → lines ≡ line ∷ rest → line_entry line ≡ None → with_front front (entries_from number lines) ≡ all → all ≡ Err (number, Journal)
unfolding entries_from
entry_refused number front line lines rest all cut read same =
    sym same ∙ (ap (λ (ls : List (List ℕ)). with_front front (entries_from number ls)) cut
    ∙ ap (λ (r : Option Entry). with_front front (then_entries number r (entries_from (number + 1) rest))) read)

-- no line is left
pub entries_end : (number : ℕ) (front : List Entry) (bytes : List ℕ) (all : Result (List Entry) Refusal)
    → length bytes ≡ 0 → with_front front (entries_from number (text_lines bytes)) ≡ all → all ≡ Ok front
unfolding entries_from
entries_end number front bytes all none same =
    sym same ∙ (ap (λ (ls : List (List ℕ)). with_front front (entries_from number ls)) (no_lines_left bytes none) ∙ ap (λ (es : List Entry). Ok es) (append-nil front))

-- ---- all lines

line_texts : {line : List ℕ} {lines : List (List ℕ)} {entries : List Entry} (number : ℕ) (read : Option Entry) → line_entry line ≡ read → (later : Result (List Entry) Refusal) → entries_from (number + 1) lines ≡ later
    → then_entries number read later ≡ Ok entries → ((more : List Entry) → entries_from (number + 1) lines ≡ Ok more → (lines ≡ map text_of_entry more) × AllByRecursion IsEntry more)
    → (line ∷ lines ≡ map text_of_entry entries) × AllByRecursion IsEntry entries
line_texts number None is later rest e behind = absurd (cc)
line_texts number (Some entry) is (Err refusal) rest e behind = absurd (cc)
line_texts {line} {lines} {entries} number (Some entry) is (Ok more) rest e behind =
    let text = entry_text line entry is in
    let texts = behind more rest in
    let same : entry ∷ more ≡ entries = cc in
    subst (λ (es : List Entry). (line ∷ lines ≡ map text_of_entry es) × AllByRecursion IsEntry es) same (rw (text.0, texts.0) refl, (text.1, texts.1))

-- lines that are read are the texts of the entries
pub entries_texts : (number : ℕ) (lines : List (List ℕ)) (entries : List Entry) → entries_from number lines ≡ Ok entries → (lines ≡ map text_of_entry entries) × AllByRecursion IsEntry entries
unfolding entries_from
entries_texts number [] entries e = let none : [] ≡ entries = cc in subst (λ (es : List Entry). ([] ≡ map text_of_entry es) × AllByRecursion IsEntry es) none (refl, tt)
entries_texts number (line ∷ lines) entries e = line_texts number (line_entry line) refl (entries_from (number + 1) lines) refl e (λ more is. entries_texts (number + 1) lines more is)

-- the texts of entries are read as them
pub entries_again : (number : ℕ) (entries : List Entry) → AllByRecursion IsEntry entries → entries_from number (map text_of_entry entries) ≡ Ok entries
unfolding entries_from
entries_again number [] all = refl
entries_again number (entry ∷ entries) all = rw (entry_again entry all.0, entries_again (number + 1) entries all.1) refl
