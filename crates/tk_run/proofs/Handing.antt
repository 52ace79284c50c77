-- Messages that are handed one after another.
use Rattle.std.proofs.Common.{◌≡◌, ◌⊎◌, inl, inr, ℕ, ◌≤◌, List, [], ◌∷◌, length, refl, subst, sym, ap, ◌∙◌, arith}
use Rattle.device_model.specs.declared.messages.Message.{Message}
use Rattle.device_model.specs.declared.messages.Message.TheVariants as message
use Rattle.dev_drivers.specs.Wholes.{HasWhole}
use Rattle.fleet_model.specs.Fleets.{Fleet, Handed, HasChannel, HasPlace, device_of}
use Rattle.way_lemmas.specs.Ways.{IsGoodMessage}
use Rattle.way_lemmas.proofs.Fleets.{handed_many}
use Rattle.turn_lemmas.specs.Going.{Hands, MayHand}
use Rattle.turn_lemmas.proofs.Moves.{first_placed, hands_none, hands_one, later_placed}

-- of these messages those in front were handed; the device of the last request among them has a channel
pub record IsHanding (first : Fleet) (ms : List Message) (now : Fleet) (left : List Message) (served : ℕ) : Type 0 where
  pub hands : Hands first ms now left
  pub may : MayHand now left
  pub served_is : HasChannel now served

pub handing_starts : (fleet : Fleet) (ms left : List Message) (told : ℕ) → MayHand fleet ms → HasChannel fleet told → left ≡ ms → IsHanding fleet ms fleet left told
handing_starts fleet ms left told may has same = subst (λ (l : List Message). IsHanding fleet ms fleet l told) (sym same) (record { hands = hands_none fleet ms; may = may; served_is = has })

next_may : (fleet : Fleet) (all : List Message) (m : Message) (left : List Message) → all ≡ m ∷ left → MayHand fleet all → MayHand fleet (m ∷ left)
next_may fleet all m left is may = subst (MayHand fleet) is may

pub handing_place : (first now : Fleet) (ms all : List Message) (m : Message) (left : List Message) (served : ℕ) → IsHanding first ms now all served → all ≡ m ∷ left → HasPlace now (device_of m)
handing_place first now ms all m left served h is = first_placed now m left (next_may now all m left is h.may)

good_whole : (n : ℕ) (m : Message) → IsGoodMessage n m → HasWhole m
good_whole n (message.Serve d request) good = good.rest
good_whole n (message.Abort d number) good = tt
good_whole n (message.Stop d) good = tt

pub handing_whole : (first now : Fleet) (ms all : List Message) (m : Message) (left : List Message) (served : ℕ) → IsHanding first ms now all served → all ≡ m ∷ left → HasWhole m
handing_whole first now ms all m left served h is = let may = next_may now all m left is h.may in good_whole (length now.channels) m may.good.0

still_there : (old new : Fleet) (m : Message) (d : ℕ) → Handed old new m → HasChannel old d → HasChannel new d
still_there old new m d handed has = (has.0, omega (arith, has.1, handed_many old new m handed))

served_next : (old new : Fleet) (m : Message) (served next : ℕ) → Handed old new m → IsGoodMessage (length old.channels) m → HasChannel old served → (next ≡ device_of m) ⊎ (next ≡ served) → HasChannel new next
served_next old new m served next handed good has (inl is) = subst (HasChannel new) (sym is) (still_there old new m (device_of m) handed (good.first, good.last))
served_next old new m served next handed good has (inr is) = subst (HasChannel new) (sym is) (still_there old new m served handed has)

pub handing_goes : (first now new : Fleet) (ms all : List Message) (m : Message) (left : List Message) (served next : ℕ) → IsHanding first ms now all served → all ≡ m ∷ left → Handed now new m → (next ≡ device_of m) ⊎ (next ≡ served) →
    IsHanding first ms new left next
handing_goes first now new ms all m left served next h is handed which =
    let may = next_may now all m left is h.may in
    record {
      hands = hands_one first now new ms m left (first_placed now m left may) (subst (λ (l : List Message). Hands first ms now l) is h.hands) handed;
      may = later_placed now new m left may handed;
      served_is = served_next now new m served next handed may.good.0 h.served_is which;
    }

none_left : (ms : List Message) → length ms ≡ 0 → ms ≡ []
none_left [] is = refl
none_left (m ∷ ms) is = absurd (omega (arith, is))

pub handing_ends : (first now : Fleet) (ms left : List Message) (served : ℕ) → IsHanding first ms now left served → length left ≡ 0 → Hands first ms now []
handing_ends first now ms left served h is = subst (λ (l : List Message). Hands first ms now l) (none_left left is) h.hands
