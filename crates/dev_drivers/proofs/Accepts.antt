-- Which endings the fleet lets through.
use Rattle.std.proofs.Common.{◌≡◌, ℕ, ◌+◌, ◌-◌, ◌<◌, ◌≤◌, zero, suc, Bool, true, false, List, [], ◌∷◌, ◌++◌, length, map, Option, None, Some, refl, ap, subst, sym, ◌∙◌, arith, get_or}
use Rattle.std.specs.Prelude.{if◌then◌else◌, nat_le}
use Rattle.std.specs.List.{slice_get}
use Rattle.std.proofs.lemmas.Bool.{leb-false, le-leb}
use Rattle.std.proofs.lemmas.List.{get_or-map, length-append}
use Rattle.device_model.specs.declared.messages.Ending.{Ending}
use Rattle.fleet_model.specs.Channels.{Channel, accepts}
use Rattle.fleet_model.specs.Fleets.{Fleet, channel_in, counted, may_accept, most_counted}
use Rattle.dev_drivers.specs.declared.driven.Driven.{Driven}
use Rattle.dev_drivers.specs.Lines.{channels_of}
use Rattle.dev_drivers.specs.Links.{channel_of}
use Rattle.dev_drivers.proofs.Lines.{many}

length_front : {A : Type 0} (a b : List A) → length (a ++ b) - length b ≡ length a
length_front a b = let all : length (a ++ b) ≡ length a + length b = length-append a b in omega (arith, all)

there_in : (channels : List Channel) (i : ℕ) (d : Channel) → i < length channels → slice_get channels i ≡ Some (get_or channels i d)
there_in [] i d few = absurd (omega (arith, few))
there_in (c ∷ channels) zero d few = refl
there_in (c ∷ channels) (suc i) d few = there_in channels i d (omega (arith, few))

absent_in : (channels : List Channel) (i : ℕ) → length channels ≤ i → slice_get channels i ≡ None
absent_in [] i few = refl
absent_in (c ∷ channels) zero few = absurd (omega (arith, few))
absent_in (c ∷ channels) (suc i) few = absent_in channels i (omega (arith, few))

let_through : Option Channel → Ending → Bool
let_through o e = elim o as (λ _. Bool) [ Some channel ↦ accepts channel e | None ↦ false ]

by_device : (fleet : Fleet) (e : Ending) → may_accept fleet e ≡ let_through (channel_in fleet.channels e.device) e
unfolding may_accept let_through
by_device fleet e = refl

pub accepts_there : {H : Type 0} (fleet : Fleet) (lines : List (Driven H)) (i : ℕ) (d : Driven H) (e : Ending) → fleet.channels ≡ channels_of lines → i < length lines → e.device ≡ suc i → d ≡ get_or lines i d →
    may_accept fleet e ≡ accepts (channel_of d.link) e
unfolding let_through channel_in
accepts_there {H} fleet lines i d e same few number is =
    by_device fleet e
    ∙ (ap (λ (l : List Channel). let_through (channel_in l e.device) e) same
    ∙ (ap (λ (n : ℕ). let_through (channel_in (channels_of lines) n) e) number
    ∙ (ap (λ (o : Option Channel). let_through o e) (there_in (channels_of lines) i (channel_of d.link) (subst (λ (n : ℕ). i < n) (sym (many lines)) few))
    ∙ ap (λ (c : Channel). accepts c e) (get_or-map (λ (o : Driven H). channel_of o.link) lines i d (channel_of d.link) few ∙ ap (λ (o : Driven H). channel_of o.link) (sym is)))))

pub accepts_none : {H : Type 0} (fleet : Fleet) (lines : List (Driven H)) (e : Ending) → fleet.channels ≡ channels_of lines → (1 ≤ e.device → length lines < e.device) → may_accept fleet e ≡ false
unfolding let_through channel_in
accepts_none {H} fleet lines e same few =
    by_device fleet e
    ∙ (ap (λ (l : List Channel). let_through (channel_in l e.device) e) same
    ∙ ap (λ (o : Option Channel). let_through o e) (nowhere e.device few))
  where
    nowhere : (k : ℕ) → (1 ≤ k → length lines < k) → channel_in (channels_of lines) k ≡ None
    nowhere zero few = refl
    nowhere (suc i) few = let past : length lines < suc i = few (omega arith) in absent_in (channels_of lines) i (let size = many lines in omega (arith, past, size))

as_counted : (t n : ℕ) → t ≤ most_counted → nat_le t (counted n) ≡ nat_le t n
as_counted t n few = by (nat_le n most_counted) refl
  where
    by : (b : Bool) → nat_le n most_counted ≡ b → nat_le t (if b then n else most_counted) ≡ nat_le t n
    by true is = refl
    by false is = let past : most_counted < n = leb-false n most_counted is in le-leb t most_counted few ∙ sym (le-leb t n (omega (arith, few, past)))

-- the count of the messages in the inbox tells it, for as many as a count can tell
pub within_gone : {A : Type 0} (t count : ℕ) (s w : List A) → t ≤ most_counted → count ≡ counted (length s) → nat_le t count ≡ nat_le t (length (s ++ w) - length w)
within_gone t count s w few is = ap (λ (n : ℕ). nat_le t n) is ∙ (as_counted t (length s) few ∙ ap (λ (n : ℕ). nat_le t n) (sym (length_front s w)))
