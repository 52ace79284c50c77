-- Each device with its messages, which stand in one list.
use Rattle.std.proofs.Common.{◌≡◌, ℕ, zero, suc, ◌+◌, ◌-◌, ◌≤◌, ◌<◌, Bool, true, false, cond, List, [], ◌∷◌, ◌++◌, Option, Some, None, refl, ap, sym, subst, ◌∙◌, arith, length}
use Rattle.std.specs.List.{list_any}
use Rattle.std.specs.Option.{is_some}
use Rattle.std.specs.Prelude.{filter, map, nat_lt, slice_set}
use Rattle.std.proofs.lemmas.Bool.Decides.{nat_tests}
use Rattle.kernel_model.specs.Words.Orders.{entry, taken_from}
use Rattle.device_model.specs.declared.messages.Message.{Message}
use Rattle.tk_types.specs.declared.script.Device.{Device}
use Rattle.device_model.specs.Devices.Tables.{Link, link_start}
use Rattle.device_model.specs.Devices.Handing.{has_given, link_emptied, out_of}
use Rattle.dev_layer.specs.Handing.{is_worn}
use Rattle.dev_layer.specs.Messages.{AreFrom, AreKnown, attached, is_for, put_out, receiver, with_out}

-- ---- reading

pub entry_attached : (slots : List (Option Link)) (d : ℕ) (out : List Message) (n : ℕ) → entry (attached slots d out) n ≡ with_out (filter (is_for (d + n)) out) (entry slots n)
entry_attached [] d out n = refl
entry_attached (slot ∷ slots) d out zero = let same : d ≡ d + 0 = omega arith in ap (λ k. with_out (filter (is_for k) out) slot) same
entry_attached (slot ∷ slots) d out (suc n) = let same : d + 1 + n ≡ d + suc n = omega arith in entry_attached slots (d + 1) out n ∙ ap (λ k. with_out (filter (is_for k) out) (entry slots n)) same

pub some_attached : (out : List Message) (slot : Option Link) → is_some (with_out out slot) ≡ is_some slot
some_attached out None = refl
some_attached out (Some link) = refl

given_attached : (out : List Message) (slot : Option Link) → has_given (with_out out slot) ≡ has_given slot
given_attached out None = refl
given_attached out (Some link) = refl

worn_out : (out : List Message) (slot : Option Link) → is_worn (with_out out slot) ≡ is_worn slot
worn_out out None = refl
worn_out out (Some link) = refl

pub worn_attached : (slots : List (Option Link)) (d : ℕ) (out : List Message) → list_any is_worn (attached slots d out) ≡ list_any is_worn slots
worn_attached [] d out = refl
worn_attached (slot ∷ slots) d out =
    let rest = worn_attached slots (d + 1) out in
    let first = worn_out (filter (is_for d) out) slot in
    simp (rest, first) refl

pub any_attached : (slots : List (Option Link)) (d : ℕ) (out : List Message) → list_any has_given (attached slots d out) ≡ list_any has_given slots
any_attached [] d out = refl
any_attached (slot ∷ slots) d out =
    let rest = any_attached slots (d + 1) out in
    let first = given_attached (filter (is_for d) out) slot in
    simp (rest, first) refl

ids_step : (id d : ℕ) (out mine : List Message) (slot : Option Link) (slots : List (Option Link)) → taken_from (id + 1) (attached slots (d + 1) out) ≡ taken_from (id + 1) slots → taken_from id (with_out mine slot ∷ attached slots (d + 1) out) ≡ taken_from id (slot ∷ slots)
ids_step id d out mine None slots rest = rest
ids_step id d out mine (Some link) slots rest = ap (λ ids. id ∷ ids) rest

pub ids_attached : (slots : List (Option Link)) (id d : ℕ) (out : List Message) → taken_from id (attached slots d out) ≡ taken_from id slots
ids_attached [] id d out = refl
ids_attached (slot ∷ slots) id d out = ids_step id d out (filter (is_for d) out) slot slots (ids_attached slots (id + 1) (d + 1) out)

pub length_attached : (slots : List (Option Link)) (d : ℕ) (out : List Message) → length (attached slots d out) ≡ length slots
length_attached [] d out = refl
length_attached (slot ∷ slots) d out = ap (λ n. suc n) (length_attached slots (d + 1) out)

-- ---- writing

-- a slot is written, and its messages stay
pub set_attached : (slots : List (Option Link)) (d : ℕ) (out : List Message) (n : ℕ) (slot : Option Link) → attached (slice_set slots n slot) d out ≡ slice_set (attached slots d out) n (with_out (filter (is_for (d + n)) out) slot)
set_attached [] d out n slot = refl
set_attached (first ∷ slots) d out zero slot = let same : d ≡ d + 0 = omega arith in ap (λ k. with_out (filter (is_for k) out) slot ∷ attached slots (d + 1) out) same
set_attached (first ∷ slots) d out (suc n) slot =
    let same : d + 1 + n ≡ d + suc n = omega arith in
    ap (λ rest. with_out (filter (is_for d) out) first ∷ rest) (set_attached slots (d + 1) out n slot ∙ ap (λ k. slice_set (attached slots (d + 1) out) n (with_out (filter (is_for k) out) slot)) same)

-- messages that are the same for all devices from one on
same_attached : (slots : List (Option Link)) (d : ℕ) (out others : List Message) → ((e : ℕ) → d ≤ e → filter (is_for e) others ≡ filter (is_for e) out) → attached slots d others ≡ attached slots d out
same_attached [] d out others same = refl
same_attached (slot ∷ slots) d out others same =
    ap (λ mine. with_out mine slot ∷ attached slots (d + 1) others) (same d (omega arith))
    ∙ ap (λ rest. with_out (filter (is_for d) out) slot ∷ rest) (same_attached slots (d + 1) out others (λ e above. same e (omega (arith, above))))

-- ---- one message more

kept_if : (e : ℕ) (m first : Message) (rest : List Message) (b : Bool) → is_for e m ≡ false → filter (is_for e) (put_out m rest) ≡ filter (is_for e) rest →
    filter (is_for e) (cond b (m ∷ first ∷ rest) (first ∷ put_out m rest)) ≡ filter (is_for e) (first ∷ rest)
kept_if e m first rest true other more = rw other refl
kept_if e m first rest false other more = rw more refl

put_other : (e : ℕ) (m : Message) (out : List Message) → is_for e m ≡ false → filter (is_for e) (put_out m out) ≡ filter (is_for e) out
put_other e m [] other = rw other refl
put_other e m (first ∷ rest) other = kept_if e m first rest (nat_lt (receiver m) (receiver first)) other (put_other e m rest other)

none_for : (d : ℕ) (out : List Message) (from : ℕ) → AreFrom from out → d < from → filter (is_for d) out ≡ []
none_for d [] from are less = refl
none_for d (m ∷ rest) from are less =
    let over : from ≤ receiver m = are.0 in
    let other : is_for d m ≡ false = grind (arith, nat_tests, over, less) in
    rw other (none_for d rest (receiver m) are.1 (omega (arith, over, less)))

mine_if : (m first : Message) (rest : List Message) (b : Bool) → nat_lt (receiver m) (receiver first) ≡ b → AreFrom (receiver first) rest → filter (is_for (receiver m)) (put_out m rest) ≡ filter (is_for (receiver m)) rest ++ m ∷ [] →
    filter (is_for (receiver m)) (cond b (m ∷ first ∷ rest) (first ∷ put_out m rest)) ≡ filter (is_for (receiver m)) (first ∷ rest) ++ m ∷ []
mine_if m first rest true is sorted more =
    let itself : is_for (receiver m) m ≡ true = grind (arith, nat_tests) in
    let less : receiver m < receiver first = grind (arith, nat_tests, is) in
    let other : is_for (receiver m) first ≡ false = grind (arith, nat_tests, less) in
    let none : filter (is_for (receiver m)) rest ≡ [] = none_for (receiver m) rest (receiver first) sorted less in
    rw (itself, other, none) refl
mine_if m first rest false is sorted more = first_kept m first rest (is_for (receiver m) first) refl more
  where
    first_kept : (m first : Message) (rest : List Message) (b : Bool) → is_for (receiver m) first ≡ b → filter (is_for (receiver m)) (put_out m rest) ≡ filter (is_for (receiver m)) rest ++ m ∷ [] →
        filter (is_for (receiver m)) (first ∷ put_out m rest) ≡ filter (is_for (receiver m)) (first ∷ rest) ++ m ∷ []
    first_kept m first rest true is more = rw (is, more) refl
    first_kept m first rest false is more = rw (is, more) refl

put_mine : (m : Message) (out : List Message) (from : ℕ) → AreFrom from out → filter (is_for (receiver m)) (put_out m out) ≡ filter (is_for (receiver m)) out ++ m ∷ []
put_mine m [] from sorted = let itself : is_for (receiver m) m ≡ true = grind (arith, nat_tests) in rw itself refl
put_mine m (first ∷ rest) from sorted = mine_if m first rest (nat_lt (receiver m) (receiver first)) refl sorted.1 (put_mine m rest (receiver first) sorted.1)

-- a device is written anew, with one message more
pub put_attached : (slots : List (Option Link)) (d : ℕ) (out : List Message) (n : ℕ) (link : Link) (m : Message) → AreFrom 0 out → receiver m ≡ d + n →
    attached (slice_set slots n (Some link)) d (put_out m out) ≡ slice_set (attached slots d out) n (Some (record link { out = filter (is_for (d + n)) out ++ m ∷ [] }))
put_attached [] d out n link m sorted is = refl
put_attached (slot ∷ slots) d out zero link m sorted is =
    let here : d + 0 ≡ receiver m = sym is in
    let there : receiver m ≡ d = omega (arith, is) in
    ap (λ rest. with_out (filter (is_for d) (put_out m out)) (Some link) ∷ rest)
    (same_attached slots (d + 1) out (put_out m out) (λ e above. put_other e m out (grind (arith, nat_tests, above, there))))
    ∙ ap (λ k. with_out (filter (is_for k) (put_out m out)) (Some link) ∷ attached slots (d + 1) out) (sym there)
    ∙ ap (λ mine. Some (record link { out = mine }) ∷ attached slots (d + 1) out) (put_mine m out 0 sorted)
    ∙ ap (λ k. Some (record link { out = filter (is_for k) out ++ m ∷ [] }) ∷ attached slots (d + 1) out) is
put_attached (slot ∷ slots) d out (suc n) link m sorted is =
    let same : d + 1 + n ≡ d + suc n = omega arith in
    let over : is_for d m ≡ false = grind (arith, nat_tests, is) in
    ap (λ mine. with_out mine slot ∷ attached (slice_set slots n (Some link)) (d + 1) (put_out m out)) (put_other d m out over)
    ∙ ap (λ rest. with_out (filter (is_for d) out) slot ∷ rest)
    (put_attached slots (d + 1) out n link m sorted (is ∙ sym same) ∙ ap (λ k. slice_set (attached slots (d + 1) out) n (Some (record link { out = filter (is_for k) out ++ m ∷ [] }))) same)

sorted_if : (m first : Message) (rest : List Message) (from : ℕ) (b : Bool) → nat_lt (receiver m) (receiver first) ≡ b → from ≤ receiver m → from ≤ receiver first → AreFrom (receiver first) rest →
    ((receiver first ≤ receiver m) → AreFrom (receiver first) (put_out m rest)) → AreFrom from (cond b (m ∷ first ∷ rest) (first ∷ put_out m rest))
sorted_if m first rest from true is low before sorted more = let less : receiver m < receiver first = grind (arith, nat_tests, is) in (low, (omega (arith, less), sorted))
sorted_if m first rest from false is low before sorted more = (before, more (grind (arith, nat_tests, is)))

pub put_sorted : (m : Message) (out : List Message) (from : ℕ) → from ≤ receiver m → AreFrom from out → AreFrom from (put_out m out)
put_sorted m [] from low sorted = (low, tt)
put_sorted m (first ∷ rest) from low sorted = sorted_if m first rest from (nat_lt (receiver m) (receiver first)) refl low sorted.0 sorted.1 (λ over. put_sorted m rest (receiver first) over sorted.1)

known_if : (slots : List (Option Link)) (m first : Message) (rest : List Message) (b : Bool) → is_some (entry slots (receiver m)) ≡ true → AreKnown slots (first ∷ rest) → AreKnown slots (put_out m rest) → AreKnown slots (cond b (m ∷ first ∷ rest) (first ∷ put_out m rest))
known_if slots m first rest true there known more = (there, known)
known_if slots m first rest false there known more = (known.0, more)

pub put_known : (slots : List (Option Link)) (m : Message) (out : List Message) → is_some (entry slots (receiver m)) ≡ true → AreKnown slots out → AreKnown slots (put_out m out)
put_known slots m [] there known = (there, tt)
put_known slots m (first ∷ rest) there known = known_if slots m first rest (nat_lt (receiver m) (receiver first)) there known (put_known slots m rest there known.1)

set_there : (slots : List (Option Link)) (n : ℕ) (link : Link) (k : ℕ) → is_some (entry slots k) ≡ true → is_some (entry (slice_set slots n (Some link)) k) ≡ true
set_there [] n link k there = absurd (cc there)
set_there (slot ∷ slots) zero link zero there = refl
set_there (slot ∷ slots) zero link (suc k) there = there
set_there (slot ∷ slots) (suc n) link zero there = there
set_there (slot ∷ slots) (suc n) link (suc k) there = set_there slots n link k there

pub set_known : (slots : List (Option Link)) (n : ℕ) (link : Link) (out : List Message) → AreKnown slots out → AreKnown (slice_set slots n (Some link)) out
set_known slots n link [] known = tt
set_known slots n link (m ∷ rest) known = (set_there slots n link (receiver m) known.0, set_known slots n link rest known.1)

-- ---- taking the messages

emptied_one : (out : List Message) (slot : Option Link) → link_emptied (with_out out slot) ≡ with_out [] slot
emptied_one out None = refl
emptied_one out (Some link) = refl

pub emptied_attached : (slots : List (Option Link)) (d : ℕ) (out : List Message) → map link_emptied (attached slots d out) ≡ attached slots d []
emptied_attached [] d out = refl
emptied_attached (slot ∷ slots) d out =
    ap (λ one. one ∷ map link_emptied (attached slots (d + 1) out)) (emptied_one (filter (is_for d) out) slot)
    ∙ ap (λ rest. with_out [] slot ∷ rest) (emptied_attached slots (d + 1) out)

skip_one : (d e : ℕ) (m : Message) (rest : List Message) → receiver m ≡ d → d + 1 ≤ e → filter (is_for e) (m ∷ rest) ≡ filter (is_for e) rest
skip_one d e m rest is above = let other : is_for e m ≡ false = grind (arith, nat_tests, is, above) in rw other refl

-- whether each message is for a device of these slots, which begin with this one
abbrev AreWithin : List (Option Link) → ℕ → List Message → Type 0
AreWithin slots d [] = Unit {0}
AreWithin slots d (m ∷ rest) = (is_some (entry slots (receiver m - d)) ≡ true) × AreWithin slots d rest

less_from : (high low : ℕ) (out : List Message) → low ≤ high → AreFrom high out → AreFrom low out
less_from high low [] less from = tt
less_from high low (m ∷ rest) less from = let over = from.0 in (omega (arith, less, over), from.1)

within_rest : (slot : Option Link) (slots : List (Option Link)) (d : ℕ) (out : List Message) → AreFrom (d + 1) out → AreWithin (slot ∷ slots) d out → AreWithin slots (d + 1) out
within_rest slot slots d [] from within = tt
within_rest slot slots d (m ∷ rest) from within =
    let over : d + 1 ≤ receiver m = from.0 in
    let next : receiver m - d ≡ suc (receiver m - (d + 1)) = omega (arith, over) in
    (subst (λ (k : ℕ). is_some (entry (slot ∷ slots) k) ≡ true) next within.0, within_rest slot slots d rest (less_from (receiver m) (d + 1) rest over from.1) within.1)

head_some : (slot : Option Link) (slots : List (Option Link)) (d : ℕ) (m : Message) → receiver m ≡ d → is_some (entry (slot ∷ slots) (receiver m - d)) ≡ true → is_some slot ≡ true
head_some slot slots d m is there = let zero_there : receiver m - d ≡ 0 = omega (arith, is) in subst (λ (k : ℕ). is_some (entry (slot ∷ slots) k) ≡ true) zero_there there

out_head : (slot : Option Link) (mine : List Message) (m : Message) (links : List (Option Link)) → is_some slot ≡ true → out_of (with_out (m ∷ mine) slot ∷ links) ≡ m ∷ out_of (with_out mine slot ∷ links)
out_head None mine m links there = absurd (cc there)
out_head (Some link) mine m links there = refl

out_none : (slot : Option Link) (links : List (Option Link)) → out_of (with_out [] slot ∷ links) ≡ out_of links
out_none None links = refl
out_none (Some link) links = refl

out_if : (slot : Option Link) (slots : List (Option Link)) (d : ℕ) (m : Message) (rest : List Message) (b : Bool) → is_for d m ≡ b →
    (AreFrom d rest → AreWithin (slot ∷ slots) d rest → out_of (with_out (filter (is_for d) rest) slot ∷ attached slots (d + 1) rest) ≡ rest) →
    (AreFrom (d + 1) (m ∷ rest) → AreWithin slots (d + 1) (m ∷ rest) → out_of (attached slots (d + 1) (m ∷ rest)) ≡ m ∷ rest) →
    AreFrom d (m ∷ rest) → AreWithin (slot ∷ slots) d (m ∷ rest) → out_of (with_out (filter (is_for d) (m ∷ rest)) slot ∷ attached slots (d + 1) (m ∷ rest)) ≡ m ∷ rest
out_if slot slots d m rest true is more later from within =
    let here : receiver m ≡ d = grind (arith, nat_tests, is) in
    let mine : filter (is_for d) (m ∷ rest) ≡ m ∷ filter (is_for d) rest = rw is refl in
    ap (λ one. out_of (with_out one slot ∷ attached slots (d + 1) (m ∷ rest))) mine
    ∙ out_head slot (filter (is_for d) rest) m (attached slots (d + 1) (m ∷ rest)) (head_some slot slots d m here within.0)
    ∙ ap (λ links. m ∷ out_of (with_out (filter (is_for d) rest) slot ∷ links)) (same_attached slots (d + 1) rest (m ∷ rest) (λ e above. skip_one d e m rest here above))
    ∙ ap (λ out. m ∷ out) (more (less_from (receiver m) d rest from.0 from.1) within.1)
out_if slot slots d m rest false is more later from within =
    let low : d ≤ receiver m = from.0 in
    let over : d + 1 ≤ receiver m = grind (arith, nat_tests, is, low) in
    let all : AreFrom (d + 1) (m ∷ rest) = (over, from.1) in
    let none : filter (is_for d) (m ∷ rest) ≡ [] = none_for d (m ∷ rest) (d + 1) all (omega arith) in
    ap (λ one. out_of (with_out one slot ∷ attached slots (d + 1) (m ∷ rest))) none
    ∙ out_none slot (attached slots (d + 1) (m ∷ rest))
    ∙ later all (within_rest slot slots d (m ∷ rest) all within)

-- one slot's messages, and then those of the others
out_slot : (slot : Option Link) (slots : List (Option Link)) (d : ℕ) → ((out : List Message) → AreFrom (d + 1) out → AreWithin slots (d + 1) out → out_of (attached slots (d + 1) out) ≡ out) →
    (out : List Message) → AreFrom d out → AreWithin (slot ∷ slots) d out → out_of (with_out (filter (is_for d) out) slot ∷ attached slots (d + 1) out) ≡ out
out_slot slot slots d later [] from within = out_none slot (attached slots (d + 1) []) ∙ later [] tt tt
out_slot slot slots d later (m ∷ rest) from within = out_if slot slots d m rest (is_for d m) refl (out_slot slot slots d later rest) (later (m ∷ rest)) from within

out_from : (slots : List (Option Link)) (d : ℕ) (out : List Message) → AreFrom d out → AreWithin slots d out → out_of (attached slots d out) ≡ out
out_from [] d [] from within = refl
out_from [] d (m ∷ rest) from within = absurd (cc within.0)
out_from (slot ∷ slots) d out from within = out_slot slot slots d (out_from slots (d + 1)) out from within

known_within : (slots : List (Option Link)) (out : List Message) → AreKnown slots out → AreWithin slots 0 out
known_within slots [] known = tt
known_within slots (m ∷ rest) known =
    let same : receiver m ≡ receiver m - 0 = omega arith in
    (subst (λ (k : ℕ). is_some (entry slots k) ≡ true) same known.0, known_within slots rest known.1)

-- the messages of all devices, one device after another, are those of the list
pub out_is : (slots : List (Option Link)) (out : List Message) → AreFrom 0 out → AreKnown slots out → out_of (attached slots 0 out) ≡ out
out_is slots out sorted known = out_from slots 0 out sorted (known_within slots out known)

start_one : (device : Device) → with_out [] (link_start device) ≡ link_start device
start_one device = refl

-- at the start there is no message
pub start_attached : (devices : List Device) (d : ℕ) → attached (map link_start devices) d [] ≡ map link_start devices
start_attached [] d = refl
start_attached (device ∷ devices) d = ap (λ rest. link_start device ∷ rest) (start_attached devices (d + 1))
