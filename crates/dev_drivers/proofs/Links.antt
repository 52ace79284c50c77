-- What the moves of a link come to.
use Rattle.std.proofs.Common.{◌≡◌, ℕ, ◌+◌, zero, suc, Bool, true, false, List, [], ◌∷◌, ◌++◌, length, map, Option, None, Some, refl, ap, sym, ◌∙◌, arith, rules, drop, append_assoc}
use Rattle.std.specs.Prelude.{◌&&◌, ◌<◌}
use Rattle.std.specs.List.{slice_index_or}
use Rattle.rtrb.specs.Ring.{sent}
use Rattle.tk_types.specs.declared.script.Kind.{Kind}
use Rattle.device_model.specs.declared.messages.Ending.{Ending}
use Rattle.device_model.specs.declared.messages.Message.{Message}
use Rattle.fleet_model.specs.Channels.{Channel, flushed, with_message}
use Rattle.dev_drivers.specs.declared.link.Link.{Link}
use Rattle.dev_drivers.specs.Links.{Flushed, HandedTo, SameLink, channel_of}
use Rattle.dev_drivers.specs.Wholes.{HasWhole, all_whole, is_whole}
use Rattle.dev_drivers.proofs.Wholes.{test_by_whole}

drop_same : {A : Type 0} (k n : ℕ) (xs : List A) → k ≡ n → drop k xs ≡ drop n xs
drop_same {A} k n xs e = ap (λ (o : ℕ). drop {A = A} o xs) e

drop_nil : {A : Type 0} (n : ℕ) → drop {A = A} n [] ≡ []
drop_nil zero = refl
drop_nil (suc n) = refl

pub drop_on : {A : Type 0} (m n : ℕ) (xs : List A) → drop n (drop m xs) ≡ drop (m + n) xs
drop_on zero n xs = drop_same n (zero + n) xs (omega arith)
drop_on (suc m) n [] = drop_nil n ∙ sym (drop_nil (suc m + n))
drop_on (suc m) n (x ∷ xs) = drop_on m n xs ∙ drop_same (suc (m + n)) (suc m + n) (x ∷ xs) (omega arith)

pub flushed_on_channel : (m n : ℕ) (c : Channel) → flushed n (flushed m c) ≡ flushed (m + n) c
flushed_on_channel m n c = ap (λ (l : List Message). let r : Channel = record c { waiting = l } in r) (drop_on m n c.waiting)

pub same_none : (a : Link) → SameLink a a
same_none a = record { to = search rules; from = search rules; device = refl }

pub same_on : (a b c : Link) → SameLink a b → SameLink b c → SameLink a c
same_on a b c one two = record { to = search rules; from = search rules; device = two.device ∙ one.device }

pub flushed_none : (a : Link) → Flushed a a
flushed_none a = record { same = same_none a; count = 0; channel = refl }

pub flushed_on : (a b c : Link) → Flushed a b → Flushed b c → Flushed a c
flushed_on a b c one two = record {
  same = same_on a b c one.same two.same;
  count = one.count + two.count;
  channel = two.channel ∙ (ap (λ (o : Channel). flushed two.count o) one.channel ∙ flushed_on_channel one.count two.count (channel_of a));
}

pub whole_snoc : (messages : List Message) (m : Message) → all_whole messages ≡ true → HasWhole m → all_whole (messages ++ m ∷ []) ≡ true
whole_snoc messages m all is = by_test messages all
  where
    one : (is_whole m && true) ≡ true
    one = ap (λ (b : Bool). b && true) (test_by_whole m is)

    more : (b : Bool) (l : List Message) → (b && all_whole l) ≡ true → (all_whole l ≡ true → all_whole (l ++ m ∷ []) ≡ true) → (b && all_whole (l ++ m ∷ [])) ≡ true
    more true l is next = next is
    more false l is next = is

    by_test : (l : List Message) → all_whole l ≡ true → all_whole (l ++ m ∷ []) ≡ true
    by_test [] is = one
    by_test (o ∷ l) is = more (is_whole o) l is (by_test l)

-- ---- one message goes into the inbox

front_is : (waiting : List Message) (m : Message) → 0 < length waiting → m ≡ slice_index_or waiting 0 m → waiting ≡ m ∷ drop 1 waiting
front_is [] m some is = absurd (omega (arith, some))
front_is (o ∷ waiting) m some is = ap (λ (p : Message). p ∷ waiting) (sym is)

pub went : (kind : Kind) (received : List Ending) (dropped : Bool) (before looked now waiting rest : List Message) (m : Message) →
    0 < length waiting → m ≡ slice_index_or waiting 0 m → rest ≡ drop 1 waiting → looked ≡ before → now ≡ looked ++ m ∷ [] →
    (let c : Channel = record { kind = kind; handed = now ++ rest; waiting = rest; received = received; dropped = dropped } in c)
    ≡ flushed 1 (record { kind = kind; handed = before ++ waiting; waiting = waiting; received = received; dropped = dropped })
went kind received dropped before looked now waiting rest m some is left same put =
    let all : now ++ rest ≡ before ++ waiting =
    ap (λ (l : List Message). l ++ rest) (put ∙ ap (λ (l : List Message). l ++ m ∷ []) same)
    ∙ (append_assoc before (m ∷ []) rest ∙ ap (λ (l : List Message). before ++ l) (ap (λ (l : List Message). m ∷ l) left ∙ sym (front_is waiting m some is))) in
    ap (λ (l : List Message). let c : Channel = record { kind = kind; handed = l; waiting = rest; received = received; dropped = dropped } in c) all
    ∙ ap (λ (l : List Message). let c : Channel = record { kind = kind; handed = before ++ waiting; waiting = l; received = received; dropped = dropped } in c) left

-- a message is put behind those that wait
pub put_behind : (kind : Kind) (received : List Ending) (dropped : Bool) (before waiting now : List Message) (m : Message) → now ≡ waiting ++ m ∷ [] →
    (let c : Channel = record { kind = kind; handed = before ++ now; waiting = now; received = received; dropped = dropped } in c)
    ≡ with_message m (record { kind = kind; handed = before ++ waiting; waiting = waiting; received = received; dropped = dropped })
put_behind kind received dropped before waiting now m is =
    ap (λ (l : List Message). let c : Channel = record { kind = kind; handed = before ++ l; waiting = l; received = received; dropped = dropped } in c) is
    ∙ ap (λ (l : List Message). let c : Channel = record { kind = kind; handed = l; waiting = waiting ++ m ∷ []; received = received; dropped = dropped } in c) (sym (append_assoc before waiting (m ∷ [])))
