-- The messages that wait to be taken, of all devices and of each.
use Rattle.std.proofs.Common.{◌≡◌, ℕ, zero, suc, ◌+◌, ◌<◌, Bool, true, false, List, [], ◌∷◌, ◌++◌, Option, Some, None, refl, ap, sym, subst, ◌∙◌, arith}
use Rattle.std.specs.Prelude.{if◌then◌else◌}
use Rattle.std.specs.Bool.{◌==◌}
use Rattle.std.proofs.lemmas.Bool.Decides.{nat_tests}
use Rattle.std.proofs.lemmas.List.{append-nil}
use Rattle.kernel_model.specs.Words.Orders.{entry}
use Rattle.device_model.specs.declared.messages.Message.{Message}
use Rattle.device_model.specs.Devices.Handing.{messages, out_of}
use Rattle.device_model.specs.Devices.Tables.{Devices, Link, link_at}
use Rattle.fleet_model.specs.Fleets.{device_of}
use Rattle.run_model.specs.SoFar.{messages_for}
use Rattle.world_laws.specs.Sound.{Each}

-- those of one device
abbrev pub out_in : Option Link → List Message
out_in None = []
out_in (Some link) = link.out

-- ---- the word holds of each message

pub each_both : {A : Type 0} → (P : A → Type 0) (xs ys : List A) → Each P xs → Each P ys → Each P (xs ++ ys)
each_both P [] ys first second = second
each_both P (x ∷ xs) ys first second = (first.0, each_both P xs ys first.1 second)

pub each_more : {A : Type 0} → (P R : A → Type 0) → ((x : A) → P x → R x) → (xs : List A) → Each P xs → Each R xs
each_more P R more [] each = tt
each_more P R more (x ∷ xs) each = (more x each.0, each_more P R more xs each.1)

outs_each : (P : Message → Type 0) (links : List (Option Link)) → ((d : ℕ) → Each P (out_in (entry links d))) → Each P (out_of links)
outs_each P [] each = tt
outs_each P (None ∷ links) each = outs_each P links (λ d. each (suc d))
outs_each P (Some link ∷ links) each = each_both P link.out (out_of links) (each 0) (outs_each P links (λ d. each (suc d)))

-- what holds of those of each device holds of all
pub all_messages : (P : Message → Type 0) (dv : Devices) → ((d : ℕ) → Each P (out_in (link_at dv d))) → Each P (messages dv)
unfolding messages
all_messages P dv each = outs_each P dv.links each

-- ---- those of a device

-- the messages are all for this device
abbrev pub AreFor : ℕ → List Message → Type 0
AreFor d ms = Each (λ m. device_of m ≡ d) ms

two_joined : (m : Message) (test : Bool) (all xs ys : List Message) → all ≡ xs ++ ys → (if test then m ∷ all else all) ≡ (if test then m ∷ xs else xs) ++ ys
two_joined m true all xs ys is = ap (λ (ms : List Message). m ∷ ms) is
two_joined m false all xs ys is = is

for_both : (d : ℕ) (xs ys : List Message) → messages_for d (xs ++ ys) ≡ messages_for d xs ++ messages_for d ys
unfolding messages_for
for_both d [] ys = refl
for_both d (m ∷ xs) ys = two_joined m (device_of m == d) (messages_for d (xs ++ ys)) (messages_for d xs) (messages_for d ys) (for_both d xs ys)

-- a message for a device is one of its messages
pub for_same : (d : ℕ) (m : Message) (ms : List Message) → device_of m ≡ d → messages_for d (m ∷ ms) ≡ m ∷ messages_for d ms
unfolding messages_for
for_same d m ms same =
    let test : (device_of m == d) ≡ true = grind (arith, nat_tests, same) in
    ap (λ (it : Bool). if it then m ∷ messages_for d ms else messages_for d ms) test

-- and no other is
pub for_other : (d : ℕ) (m : Message) (ms : List Message) → (device_of m ≡ d → ⊥) → messages_for d (m ∷ ms) ≡ messages_for d ms
unfolding messages_for
for_other d m ms apart = by_test (device_of m == d) refl
  where
    by_test : (test : Bool) → (device_of m == d) ≡ test → (if test then m ∷ messages_for d ms else messages_for d ms) ≡ messages_for d ms
    by_test true is = absurd (apart (grind (arith, nat_tests, is)))
    by_test false is = refl

pub for_none : (d : ℕ) → messages_for d [] ≡ []
unfolding messages_for
for_none d = refl

all_for : (d : ℕ) (ms : List Message) → AreFor d ms → messages_for d ms ≡ ms
all_for d [] each = for_none d
all_for d (m ∷ ms) each = for_same d m ms each.0 ∙ ap (λ (rest : List Message). m ∷ rest) (all_for d ms each.1)

none_for : (d e : ℕ) (ms : List Message) → AreFor e ms → (e ≡ d → ⊥) → messages_for d ms ≡ []
none_for d e [] each apart = for_none d
none_for d e (m ∷ ms) each apart = for_other d m ms (λ is. apart (sym each.0 ∙ is)) ∙ none_for d e ms each.1 apart

-- none of the devices behind is an earlier one
later_none : (d from : ℕ) (links : List (Option Link)) → d < from → ((i : ℕ) → AreFor (from + i) (out_in (entry links i))) → messages_for d (out_of links) ≡ []
later_none d from [] less each = for_none d
later_none d from (None ∷ links) less each = later_none d (suc from) links (omega (arith, less)) (λ i. subst (λ (n : ℕ). AreFor n (out_in (entry links i))) (omega arith) (each (suc i)))
later_none d from (Some link ∷ links) less each =
    for_both d link.out (out_of links)
    ∙ (ap (λ (ms : List Message). ms ++ messages_for d (out_of links)) (none_for d (from + 0) link.out (each 0) (λ same. omega (arith, less, same)))
    ∙ later_none d (suc from) links (omega (arith, less)) (λ i. subst (λ (n : ℕ). AreFor n (out_in (entry links i))) (omega arith) (each (suc i))))

links_for : (from d : ℕ) (links : List (Option Link)) → ((i : ℕ) → AreFor (from + i) (out_in (entry links i))) → messages_for (from + d) (out_of links) ≡ out_in (entry links d)
links_for from d [] each = for_none (from + d)
links_for from zero (None ∷ links) each = later_none (from + 0) (suc from) links (omega arith) (λ i. subst (λ (n : ℕ). AreFor n (out_in (entry links i))) (omega arith) (each (suc i)))
links_for from (suc d) (None ∷ links) each =
    ap (λ (n : ℕ). messages_for n (out_of links)) (omega arith)
    ∙ links_for (suc from) d links (λ i. subst (λ (n : ℕ). AreFor n (out_in (entry links i))) (omega arith) (each (suc i)))
links_for from zero (Some link ∷ links) each =
    for_both (from + 0) link.out (out_of links)
    ∙ (ap (λ (ms : List Message). ms ++ messages_for (from + 0) (out_of links)) (all_for (from + 0) link.out (each 0))
    ∙ (ap (λ (ms : List Message). link.out ++ ms) (later_none (from + 0) (suc from) links (omega arith) (λ i. subst (λ (n : ℕ). AreFor n (out_in (entry links i))) (omega arith) (each (suc i))))
    ∙ append-nil link.out))
links_for from (suc d) (Some link ∷ links) each =
    for_both (from + suc d) link.out (out_of links)
    ∙ (ap (λ (ms : List Message). ms ++ messages_for (from + suc d) (out_of links)) (none_for (from + suc d) (from + 0) link.out (each 0) (λ same. omega (arith, same)))
    ∙ (ap (λ (n : ℕ). messages_for n (out_of links)) (omega arith)
    ∙ links_for (suc from) d links (λ i. subst (λ (n : ℕ). AreFor n (out_in (entry links i))) (omega arith) (each (suc i)))))

-- where each message is for the device that it stands with, those for a device are those that stand with it
pub messages_of : (dv : Devices) (d : ℕ) → ((j : ℕ) → AreFor j (out_in (link_at dv j))) → messages_for d (messages dv) ≡ out_in (link_at dv d)
unfolding messages
messages_of dv d each =
    ap (λ (n : ℕ). messages_for n (out_of dv.links)) (omega arith)
    ∙ links_for 0 d dv.links (λ i. subst (λ (n : ℕ). AreFor n (out_in (entry dv.links i))) (omega arith) (each i))
