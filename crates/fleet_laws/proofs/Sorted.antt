-- Of what passes, what is a device's; and the messages of a state, by device.
use Rattle.std.proofs.Common.{◌≡◌, ℕ, zero, suc, ◌+◌, ◌<◌, Bool, true, false, List, [], ◌∷◌, ◌++◌, length, map, Option, Some, None, refl, ap, sym, subst, ◌∙◌, arith}
use Rattle.std.specs.Prelude.{◌==◌, if◌then◌else◌}
use Rattle.std.proofs.lemmas.Bool.Decides.{nat_tests}
use Rattle.std.proofs.lemmas.List.{append-nil}
use Rattle.kernel_model.specs.Words.Orders.{entry}
use Rattle.kernel_lemmas.proofs.Tables.{itself}
use Rattle.device_model.specs.declared.messages.Message.{Message}
use Rattle.device_model.specs.Devices.Handing.{out_of}
use Rattle.device_model.specs.Devices.Tables.{Link}
use Rattle.fleet_model.specs.Fleets.{device_of}
use Rattle.run_model.specs.Passings.{Gives, Passing, endings_of, given_from, messages_to}
use Rattle.world_laws.specs.Sound.{Each}

-- ---- tests

pub test_same : (one other : ℕ) → one ≡ other → (one == other) ≡ true
test_same one other is = ap (λ (n : ℕ). one == n) (sym is) ∙ itself one

pub test_apart : (one other : ℕ) → (one ≡ other → ⊥) → (one == other) ≡ false
test_apart one other apart = by_test (one == other) refl
  where
    by_test : (test : Bool) → (one == other) ≡ test → test ≡ false
    by_test false is = refl
    by_test true is = let same : one ≡ other = grind (arith, nat_tests, is) in absurd (apart same)

-- ---- messages that are given

more_before : (m : Message) (test : Bool) (whole front later : List Message) → whole ≡ front ++ later → (if test then m ∷ whole else whole) ≡ (if test then m ∷ front else front) ++ later
more_before m true whole front later is = ap (λ (xs : List Message). m ∷ xs) is
more_before m false whole front later is = is

-- they are those of the device, before those that are given later
pub messages_behind : (d : ℕ) (ms : List Message) (later : List Passing) → messages_to d (map Gives ms ++ later) ≡ messages_to d (map Gives ms) ++ messages_to d later
unfolding messages_to
messages_behind d [] later = refl
messages_behind d (m ∷ ms) later = more_before m (device_of m == d) (messages_to d (map Gives ms ++ later)) (messages_to d (map Gives ms)) (messages_to d later) (messages_behind d ms later)

-- no ending is among them
pub endings_behind : (d : ℕ) (ms : List Message) (later : List Passing) → endings_of d (map Gives ms ++ later) ≡ endings_of d later
unfolding endings_of
endings_behind d [] later = refl
endings_behind d (m ∷ ms) later = endings_behind d ms later

more_given : (n d : ℕ) (m : Message) (test : Bool) (front : List Message) (all later : List Passing) → ((k : ℕ) → given_from k d all ≡ given_from (k + length front) d later) →
    given_from (if test then n + 1 else n) d all ≡ given_from (n + length (if test then m ∷ front else front)) d later
more_given n d m true front all later is = is (n + 1) ∙ ap (λ (k : ℕ). given_from k d later) (omega arith)
more_given n d m false front all later is = is n

-- and at the endings that come later the device was given these, too
pub given_behind : (d : ℕ) (ms : List Message) (later : List Passing) (n : ℕ) → given_from n d (map Gives ms ++ later) ≡ given_from (n + length (messages_to d (map Gives ms))) d later
unfolding given_from messages_to
given_behind d [] later n = ap (λ (k : ℕ). given_from k d later) (omega arith)
given_behind d (m ∷ ms) later n = more_given n d m (device_of m == d) (messages_to d (map Gives ms)) (map Gives ms ++ later) later (given_behind d ms later)

-- ---- the messages of a state

-- these messages are all of a device
abbrev pub OfDevice : ℕ → List Message → Type 0
OfDevice d ms = Each (λ (m : Message). device_of m ≡ d) ms

all_its : (d : ℕ) (ms : List Message) → OfDevice d ms → messages_to d (map Gives ms) ≡ ms
unfolding messages_to
all_its d [] are = refl
all_its d (m ∷ ms) are =
    ap (λ (test : Bool). if test then m ∷ messages_to d (map Gives ms) else messages_to d (map Gives ms)) (test_same (device_of m) d are.0)
    ∙ ap (λ (xs : List Message). m ∷ xs) (all_its d ms are.1)

none_its : (d e : ℕ) (ms : List Message) → (e ≡ d → ⊥) → OfDevice e ms → messages_to d (map Gives ms) ≡ []
unfolding messages_to
none_its d e [] apart are = refl
none_its d e (m ∷ ms) apart are =
    ap (λ (test : Bool). if test then m ∷ messages_to d (map Gives ms) else messages_to d (map Gives ms)) (test_apart (device_of m) d (λ same. apart (sym are.0 ∙ same)))
    ∙ none_its d e ms apart are.1

both_its : (d : ℕ) (first later : List Message) → messages_to d (map Gives (first ++ later)) ≡ messages_to d (map Gives first) ++ messages_to d (map Gives later)
unfolding messages_to
both_its d [] later = refl
both_its d (m ∷ first) later = more_before m (device_of m == d) (messages_to d (map Gives (first ++ later))) (messages_to d (map Gives first)) (messages_to d (map Gives later)) (both_its d first later)

abbrev pub out_or : Option Link → List Message
out_or None = []
out_or (Some link) = link.out

-- the messages of each link are of its device, the first of which has a number
abbrev AreRight : ℕ → List (Option Link) → Type 0
AreRight from links = (i : ℕ) → OfDevice (from + i) (out_or (entry links i))

later_right : (from : ℕ) (link : Option Link) (links : List (Option Link)) → AreRight from (link ∷ links) → AreRight (suc from) links
later_right from link links right i = subst (λ (n : ℕ). OfDevice n (out_or (entry links i))) (omega arith) (right (suc i))

out_split : (link : Option Link) (links : List (Option Link)) → out_of (link ∷ links) ≡ out_or link ++ out_of links
out_split None links = refl
out_split (Some link) links = refl

first_right : (from : ℕ) (link : Option Link) (links : List (Option Link)) → AreRight from (link ∷ links) → OfDevice from (out_or link)
first_right from link links right = subst (λ (n : ℕ). OfDevice n (out_or link)) (omega arith) (right zero)

split_its : (d : ℕ) (link : Option Link) (links : List (Option Link)) → messages_to d (map Gives (out_of (link ∷ links))) ≡ messages_to d (map Gives (out_or link)) ++ messages_to d (map Gives (out_of links))
split_its d link links = ap (λ (ms : List Message). messages_to d (map Gives ms)) (out_split link links) ∙ both_its d (out_or link) (out_of links)

none_before : (links : List (Option Link)) (from d : ℕ) → d < from → AreRight from links → messages_to d (map Gives (out_of links)) ≡ []
unfolding messages_to
none_before [] from d below right = refl
none_before (link ∷ links) from d below right =
    split_its d link links
    ∙ ap (λ (xs : List Message). xs ++ messages_to d (map Gives (out_of links))) (none_its d from (out_or link) (λ same. absurd (omega (arith, same, below))) (first_right from link links right))
    ∙ none_before links (suc from) d (omega (arith, below)) (later_right from link links right)

links_its : (links : List (Option Link)) (from i : ℕ) → AreRight from links → messages_to (from + i) (map Gives (out_of links)) ≡ out_or (entry links i)
unfolding messages_to
links_its [] from i right = refl
links_its (link ∷ links) from zero right =
    split_its (from + zero) link links
    ∙ ap (λ (xs : List Message). xs ++ messages_to (from + zero) (map Gives (out_of links))) (all_its (from + zero) (out_or link) (right zero))
    ∙ ap (λ (xs : List Message). out_or link ++ xs) (none_before links (suc from) (from + zero) (omega arith) (later_right from link links right))
    ∙ append-nil (out_or link)
links_its (link ∷ links) from (suc i) right =
    split_its (from + suc i) link links
    ∙ ap (λ (xs : List Message). xs ++ messages_to (from + suc i) (map Gives (out_of links))) (none_its (from + suc i) from (out_or link) (λ same. absurd (omega (arith, same))) (first_right from link links right))
    ∙ ap (λ (n : ℕ). messages_to n (map Gives (out_of links))) (omega arith)
    ∙ links_its links (suc from) i (later_right from link links right)

-- of the messages of a state those to a device are the messages of its link
pub its_messages : (links : List (Option Link)) (d : ℕ) → ((i : ℕ) → OfDevice i (out_or (entry links i))) → messages_to d (map Gives (out_of links)) ≡ out_or (entry links d)
its_messages links d right =
    ap (λ (n : ℕ). messages_to n (map Gives (out_of links))) (omega arith)
    ∙ links_its links 0 d (λ i. subst (λ (n : ℕ). OfDevice n (out_or (entry links i))) (omega arith) (right i))
