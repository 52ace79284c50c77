-- Words that spell an entry are the words of that entry.
use Rattle.std.proofs.Common.{◌≡◌, ℕ, ◌^◌, Bool, true, false, cond, ltb, List, [], ◌∷◌, codes, decimal, Option, Some, None, option_and_then, eqb, refl, ap, ap₂, subst}
use denote.Ref.{Bor}
use Rattle.std.specs.List.{slice_split, onto_first}
use Rattle.std.specs.Option.{is_some, option_copied}
use Rattle.std.specs.Str.{bytes_eq}
use Rattle.std.proofs.lemmas.Slice.Eq.{bytes_eq-Decides}
use Rattle.tk_types.specs.declared.line.Entry.{Entry}
use Rattle.tk_types.specs.declared.line.How.{How}
use Rattle.tk_types.specs.declared.line.How.TheVariants as hows
use Rattle.tk_model.specs.Decimals.{natural_at}
use Rattle.tk_model.specs.Words.{parts_of}
use Rattle.tk_text.specs.Tokens.{parts_left}
use Rattle.tk_text.proofs.Decimals.{natural_at_some}
use Rattle.tk_text.proofs.Options.{value_chosen}
use Rattle.tk_model.specs.Journal.{how_words, words_of_entry}
use Rattle.tk_trace.specs.Reading.{◌>>=◌, below, u8_at, u32_at}
use Rattle.tk_trace.specs.Entries.{how_at, entry_at}

-- the two steps of a reading that gave a value
and_then_some : {A B : Type 0} (next : A → Option B) (first : Option A) (value : B) → option_and_then next first ≡ Some value → (x : A) × ((first ≡ Some x) × (next x ≡ Some value))
and_then_some next None value e = absurd (cc)
and_then_some next (Some x) value e = (x, (refl, e))

below_some : (limit n : ℕ) (read : Option ℕ) → below limit read ≡ Some n → read ≡ Some n
below_some limit n None e = absurd (cc)
below_some limit n (Some m) e = ap Some (value_chosen (ltb m limit) m n e).1

u8_takes : (word : List ℕ) (n : ℕ) → u8_at word ≡ Some n → word ≡ decimal n
unfolding u8_at
u8_takes word n e = (natural_at_some word n (below_some (2 ^ 8) n (natural_at word) e)).0

u32_takes : (word : List ℕ) (n : ℕ) → u32_at word ≡ Some n → word ≡ decimal n
unfolding u32_at
u32_takes word n e = (natural_at_some word n (below_some (2 ^ 32) n (natural_at word) e)).0

-- a word that was compared
word_is : {A : Type 0} (word tag : List ℕ) (value : A) (rest : Option A) → cond (bytes_eq word tag) rest None ≡ Some value → (word ≡ tag) × (rest ≡ Some value)
word_is {A} word tag value rest e = from (bytes_eq word tag) refl e
  where
    from : (b : Bool) → bytes_eq word tag ≡ b → cond b rest None ≡ Some value → (word ≡ tag) × (rest ≡ Some value)
    from true is e = ((bytes_eq-Decides word tag).0 is, e)
    from false is e = absurd (cc)

how_takes : (words : List (List ℕ)) (how : How) → how_at words ≡ Some how → words ≡ how_words how
unfolding how_at
how_takes [] how e = absurd (cc)
how_takes (word ∷ []) how e =
    let is = word_is word (codes "done") how (Some hows.Done) e in
    let same : hows.Done ≡ how = cc (is.1) in
    subst (λ (other : How). word ∷ [] ≡ how_words other) same (ap (λ (w : List ℕ). w ∷ []) is.0)
how_takes (word ∷ size ∷ []) how e =
    let is = word_is word (codes "cut") how (u32_at size >>= λ n. Some (hows.Cut n)) e in
    let (n, (read, made)) = and_then_some (λ (n : ℕ). Some (hows.Cut n)) (u32_at size) how is.1 in
    let same : hows.Cut n ≡ how = cc in
    subst (λ (other : How). word ∷ size ∷ [] ≡ how_words other) same (ap₂ (λ (w v : List ℕ). w ∷ v ∷ []) is.0 (u32_takes size n read))
how_takes (word ∷ size ∷ more ∷ words) how e = absurd (cc)

abbrev entry_with : ℕ → ℕ → ℕ → How → Entry
entry_with place device request how = record { place = place; device = device; request = request; how = how }

words_are : (place device request p d r : List ℕ) (words ws : List (List ℕ)) → place ≡ p → device ≡ d → request ≡ r → words ≡ ws → place ∷ device ∷ request ∷ words ≡ p ∷ d ∷ r ∷ ws
words_are place device request p d r words ws e f g h = rw (e, f, g, h) refl

pub entry_takes : (words : List (List ℕ)) (entry : Entry) → entry_at words ≡ Some entry → words ≡ words_of_entry entry
unfolding entry_at words_of_entry
entry_takes [] entry e = absurd (cc)
entry_takes (place ∷ []) entry e = absurd (cc)
entry_takes (place ∷ device ∷ []) entry e = absurd (cc)
entry_takes (place ∷ device ∷ request ∷ words) entry e =
    let with_how = λ (p d r : ℕ) (how : How). Some (entry_with p d r how) in
    let with_request = λ (p d r : ℕ). option_and_then (with_how p d r) (how_at words) in
    let with_device = λ (p d : ℕ). option_and_then (with_request p d) (u8_at request) in
    let with_place = λ (p : ℕ). option_and_then (with_device p) (u8_at device) in
    let (p, (read_place, one)) = and_then_some with_place (u32_at place) entry e in
    let (d, (read_device, two)) = and_then_some (with_device p) (u8_at device) entry one in
    let (r, (read_request, three)) = and_then_some (with_request p d) (u8_at request) entry two in
    let (how, (read_how, four)) = and_then_some (with_how p d r) (how_at words) entry three in
    let same : entry_with p d r how ≡ entry = cc in
    subst (λ (other : Entry). place ∷ device ∷ request ∷ words ≡ words_of_entry other) {x = entry_with p d r how} same
    (words_are place device request (decimal p) (decimal d) (decimal r) words (how_words how) (u32_takes place p read_place) (u8_takes device d read_device) (u8_takes request r read_request) (how_takes words how read_how))

-- a text has a first word
first_word : (p : ℕ → Bool) (text : List ℕ) → (first : List ℕ) × ((others : List (List ℕ)) × (slice_split p text ≡ first ∷ others))
first_word p [] = ([], ([], refl))
first_word p (byte ∷ text) = first_of (p byte) byte (slice_split p text) (first_word p text)
  where
    first_of : (b : Bool) (byte : ℕ) (parts : List (List ℕ)) → (first : List ℕ) × ((others : List (List ℕ)) × (parts ≡ first ∷ others)) → (first : List ℕ) × ((others : List (List ℕ)) × (cond b ([] ∷ parts) (onto_first byte parts) ≡ first ∷ others))
    first_of true byte parts more = ([], (parts, refl))
    first_of false byte parts (first, (others, e)) = (byte ∷ first, (others, rw e refl))

first_part : (text : List ℕ) → (first : List ℕ) × ((others : List (List ℕ)) × (parts_of 32 text ≡ first ∷ others))
unfolding parts_of
first_part text = first_word (λ byte. eqb byte 32) text

-- more than two words say nothing of how a request ended
pub too_many : (text word size : List ℕ) (rest : Bor (List ℕ)) (left behind : Option (Bor (List ℕ))) → parts_of 32 text ≡ word ∷ parts_left 32 (option_copied left) → left ≡ Some rest → parts_of 32 rest.now ≡ size ∷ parts_left 32 (option_copied behind) → is_some behind ≡ true → None ≡ how_at (parts_of 32 text)
unfolding how_at
too_many text word size rest left None first is second some = absurd (cc)
too_many text word size rest left (Some more) first is second some =
    let (third, (others, e)) = first_part more.now in
    rw (first, is, second, e) refl
