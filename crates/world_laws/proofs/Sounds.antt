-- A road that is in order, in the words of the law.
use Rattle.std.proofs.Common.{◌≡◌, ℕ, ◌+◌, ◌≤◌, ◌<◌, inl, inr, Bool, true, false, List, [], ◌∷◌, ◌++◌, length, Option, Some, None, refl, ap, sym, subst, ◌∙◌, arith}
use Rattle.std.proofs.lemmas.List.{append-nil}
use Rattle.device_model.specs.declared.messages.Ending.{Ending}
use Rattle.device_model.specs.declared.messages.Message.{Message}
use Rattle.device_model.specs.declared.messages.Message.TheVariants as message
use Rattle.device_model.specs.declared.messages.Request.{Request}
use Rattle.device_model.specs.Units.Function.{IsWhole}
use Rattle.device_model.specs.Units.Blocks.{Partial, blocks}
use Rattle.device_model.specs.Devices.Tables.{Given, Link}
use Rattle.driver_model.specs.Cores.{Core}
use Rattle.world_model.specs.Roads.{Road}
use Rattle.world_laws.specs.Sound.{AbortsFit, Each, HasEnded, IsGiven, IsMade, IsOwn, IsRight, aborts_in, one_if, serves_in, stops_in, untaken}
use Rattle.world_laws.proofs.Places.{AtReady, InHand, IsBefore, IsSent, Nowhere, OnWay, Place, Stands, at_ready, in_hand, nowhere, old_aborts, on_way, own_aborts, sent, stops}
use Rattle.world_laws.proofs.Roads.{side_of, way_of}
use Rattle.world_laws.proofs.Meets.{Meets}
use Rattle.world_laws.proofs.Arrivals.{made_fit}

-- ---- all that the law says of a road

-- a device, by whether the run is over, its number, what the kernel keeps of it, its driver, the endings in the outbox, and the
-- messages that its driver hasn't taken
pub record IsSound (over : Bool) (d : ℕ) (link : Link) (core : Core) (out : List Ending) (way : List Message) : Type 0 where
  -- the driver is that of this device
  pub device : core.device ≡ d
  pub of_kind : core.kind ≡ link.kind
  -- the request that is with the driver stands in exactly one place, and where there is none all are empty
  pub one_place : serves_in way + (one_if core.given + (one_if core.ready + length out)) ≡ one_if link.given
  -- each message is of this device, the request of a Serve is that one, and whole, and a Stop comes only once the run is over
  pub right : Each (IsRight over d link) way
  -- each Abort was asked of that request, or names one that has ended and stands before the Serve
  pub aborts : AbortsFit link false way
  -- what the driver works on, and each ending that it has made, is of that request, and the endings are fit
  pub works_on : (request : Request) → core.given ≡ Some request → IsGiven link request
  pub ready : (ending : Ending) → core.ready ≡ Some ending → IsMade link core ending
  pub sent : Each (IsMade link core) out
  -- without a request, and while that is on the way, the driver's store is the kernel's
  pub same_store : core.given ≡ None → core.ready ≡ None → out ≡ [] → core.store ≡ link.store
  -- and while the driver works on it, that with the blocks that were done
  pub store_so_far : (request : Request) → core.given ≡ Some request → core.store ≡ (blocks link.kind link.store request core.blocks).store
  -- it was stopped only once the run is over
  pub stopped : core.stopped ≡ true → over ≡ true
  -- at most two Aborts, of which one is old, one Serve and one Stop are on the way
  pub few_aborts : aborts_in way ≤ one_if link.given + 1
  pub few_serves : serves_in way ≤ 1
  pub few_stops : stops_in way ≤ 1
  -- so they are four at most, and fewer until the run is over
  pub few : length way ≤ 4
  pub fewer : over ≡ false → length way < 4

-- link and road of a device: both are there, or none
abbrev pub AreSound : Bool → ℕ → Option Link → Option Road → Type 0
AreSound over d None None = Unit {0}
AreSound over d (Some link) None = ⊥
AreSound over d None (Some road) = ⊥
AreSound over d (Some link) (Some road) = IsSound over d link road.core road.outbox (untaken road)

-- ---- what is on the way, piece by piece

record Fits (over : Bool) (d : ℕ) (link : Link) (served : Bool) (way : List Message) : Type 0 where
  right : Each (IsRight over d link) way
  aborts : AbortsFit link served way

stop_fits : (over : Bool) (d : ℕ) (link : Link) (served stop : Bool) → (stop ≡ true → over ≡ true) → Fits over d link served (stops d stop)
stop_fits over d link served false only = record { right = tt; aborts = tt }
stop_fits over d link served true only = record { right = ((refl, only refl), tt); aborts = tt }

own_fits : (over : Bool) (d : ℕ) (link : Link) (served : Bool) (number : ℕ) (own : Bool) (rest : List Message) → (own ≡ true → IsOwn link number) → Fits over d link served rest →
    Fits over d link served (own_aborts d number own ++ rest)
own_fits over d link served number false rest is fits = fits
own_fits over d link served number true rest is fits = record { right = (refl, fits.right); aborts = (inl (is refl), fits.aborts) }

serve_fits : (over : Bool) (d : ℕ) (link : Link) (served : Bool) (request : Request) (rest : List Message) → IsGiven link request → IsWhole request → Fits over d link true rest →
    Fits over d link served (message.Serve d request ∷ rest)
serve_fits over d link served request rest is whole fits = record { right = ((refl, is, whole), fits.right); aborts = fits.aborts }

old_fits : (over : Bool) (d : ℕ) (link : Link) (bound : ℕ) (old : Option ℕ) (rest : List Message) → IsBefore bound old → ((number : ℕ) → 0 < number → number < bound → HasEnded link number) → Fits over d link false rest →
    Fits over d link false (old_aborts d old ++ rest)
old_fits over d link bound None rest before ended fits = fits
old_fits over d link bound (Some number) rest before ended fits = record { right = (refl, fits.right); aborts = (inr (ended number before.0 before.1, refl), fits.aborts) }

-- ---- how many they are

record Counts (over : Bool) (exactly most : ℕ) (way : List Message) : Type 0 where
  serves : serves_in way ≡ exactly
  aborts : aborts_in way ≤ most
  stops : stops_in way ≤ 1
  few : length way ≤ 4
  fewer : over ≡ false → length way < 4

goes_on : (P : Type 0) (over : Bool) → over ≡ true → over ≡ false → P
goes_on P over is no_more = absurd (cc (is, no_more))

nowhere_counts : (over : Bool) (d : ℕ) (old : Option ℕ) (stop : Bool) → (stop ≡ true → over ≡ true) → Counts over 0 1 (old_aborts d old ++ stops d stop)
nowhere_counts over d None false only = record { serves = refl; aborts = omega arith; stops = omega arith; few = omega arith; fewer = λ more. omega arith }
nowhere_counts over d None true only = record { serves = refl; aborts = omega arith; stops = omega arith; few = omega arith; fewer = λ more. omega arith }
nowhere_counts over d (Some number) false only = record { serves = refl; aborts = omega arith; stops = omega arith; few = omega arith; fewer = λ more. omega arith }
nowhere_counts over d (Some number) true only = record { serves = refl; aborts = omega arith; stops = omega arith; few = omega arith; fewer = λ more. omega arith }

on_way_counts : (over : Bool) (d : ℕ) (request : Request) (old : Option ℕ) (own stop : Bool) → (stop ≡ true → over ≡ true) →
    Counts over 1 2 (old_aborts d old ++ (message.Serve d request ∷ (own_aborts d request.number own ++ stops d stop)))
on_way_counts over d request None false false only = record { serves = refl; aborts = omega arith; stops = omega arith; few = omega arith; fewer = λ more. omega arith }
on_way_counts over d request None false true only = record { serves = refl; aborts = omega arith; stops = omega arith; few = omega arith; fewer = λ more. omega arith }
on_way_counts over d request None true false only = record { serves = refl; aborts = omega arith; stops = omega arith; few = omega arith; fewer = λ more. omega arith }
on_way_counts over d request None true true only = record { serves = refl; aborts = omega arith; stops = omega arith; few = omega arith; fewer = λ more. omega arith }
on_way_counts over d request (Some number) false false only = record { serves = refl; aborts = omega arith; stops = omega arith; few = omega arith; fewer = λ more. omega arith }
on_way_counts over d request (Some number) false true only = record { serves = refl; aborts = omega arith; stops = omega arith; few = omega arith; fewer = λ more. omega arith }
on_way_counts over d request (Some number) true false only = record { serves = refl; aborts = omega arith; stops = omega arith; few = omega arith; fewer = λ more. omega arith }
on_way_counts over d request (Some number) true true only = record { serves = refl; aborts = omega arith; stops = omega arith; few = omega arith; fewer = goes_on _ over (only refl) }

own_counts : (over : Bool) (d number : ℕ) (own stop : Bool) → Counts over 0 2 (own_aborts d number own ++ stops d stop)
own_counts over d number false false = record { serves = refl; aborts = omega arith; stops = omega arith; few = omega arith; fewer = λ more. omega arith }
own_counts over d number false true = record { serves = refl; aborts = omega arith; stops = omega arith; few = omega arith; fewer = λ more. omega arith }
own_counts over d number true false = record { serves = refl; aborts = omega arith; stops = omega arith; few = omega arith; fewer = λ more. omega arith }
own_counts over d number true true = record { serves = refl; aborts = omega arith; stops = omega arith; few = omega arith; fewer = λ more. omega arith }

-- ---- the sum

four : (a b c e n : ℕ) → a + (b + (c + e)) ≡ n → (w x y z m : ℕ) → w ≡ a → x ≡ b → y ≡ c → z ≡ e → m ≡ n → w + (x + (y + z)) ≡ m
four a b c e n sum w x y z m aw bx cy ez mn = omega (arith, sum, aw, bx, cy, ez, mn)

-- ---- in the words of the law

some_fits : {A : Type 0} (P : A → Type 0) (slot : Option A) (x y : A) → slot ≡ Some x → slot ≡ Some y → P x → P y
some_fits P slot x y is also has = let same : x ≡ y = cc (is, also) in subst P same has

none_fits : {A : Type 0} (P : Type 0) (slot : Option A) (x : A) → slot ≡ None → slot ≡ Some x → P
none_fits P slot x none some = absurd (cc (none, some))

from_nowhere : (over : Bool) (d : ℕ) (link : Link) (c : Core) (out : List Ending) (path : List Message) → Stands (side_of over d link) c out path → Nowhere (side_of over d link) c out path → IsSound over d link c out path
from_nowhere over d link c out path stands p =
    let counts : Counts over 0 1 path = subst (λ (w : List Message). Counts over 0 1 w) (sym p.way) (nowhere_counts over d p.old p.stop p.only) in
    let fits : Fits over d link false path = subst (λ (w : List Message). Fits over d link false w) (sym p.way)
    (old_fits over d link (link.number + 1) p.old (stops d p.stop) p.before
    (λ number some before. record { some = some; last = omega (arith, before); before = λ given has. none_fits (number < given.request.number) link.given given p.none has })
    (stop_fits over d link false p.stop p.only)) in
    let asked : one_if link.given ≡ 0 = ap (λ (o : Option Given). one_if o) p.none in
    let aborts : aborts_in path ≤ 1 = counts.aborts in
    record {
      device = stands.device;
      of_kind = stands.of_kind;
      one_place = four 0 0 0 0 0 refl (serves_in path) (one_if c.given) (one_if c.ready) (length out) (one_if link.given) counts.serves
          (ap (λ (o : Option Request). one_if o) p.idle) (ap (λ (o : Option Ending). one_if o) p.unready) (ap (λ (es : List Ending). length es) p.empty) asked;
      right = fits.right;
      aborts = fits.aborts;
      works_on = λ request has. none_fits (IsGiven link request) c.given request p.idle has;
      ready = λ e has. none_fits (IsMade link c e) c.ready e p.unready has;
      sent = subst (λ (es : List Ending). Each (IsMade link c) es) (sym p.empty) tt;
      same_store = λ idle unready empty. p.store;
      store_so_far = λ request has. none_fits _ c.given request p.idle has;
      stopped = stands.stopped;
      few_aborts = omega (arith, aborts, asked);
      few_serves = let serves = counts.serves in omega (arith, serves);
      few_stops = counts.stops;
      few = counts.few;
      fewer = counts.fewer;
    }

from_on_way : (over : Bool) (d : ℕ) (link : Link) (c : Core) (out : List Ending) (path : List Message) → Stands (side_of over d link) c out path → OnWay (side_of over d link) c out path → IsSound over d link c out path
from_on_way over d link c out path stands p =
    let counts : Counts over 1 2 path = subst (λ (w : List Message). Counts over 1 2 w) (sym p.way) (on_way_counts over d p.it.request p.old p.own p.stop p.only) in
    let fits : Fits over d link false path = subst (λ (w : List Message). Fits over d link false w) (sym p.way)
    (old_fits over d link p.it.request.number p.old _ p.before
    (λ number some before. record {
      some = some;
      last = let same = p.number in omega (arith, before, same);
      before = λ given has. some_fits (λ (g : Given). number < g.request.number) link.given p.it given p.is has before;
    })
    (serve_fits over d link false p.it.request _ (record { given = p.it; is = p.is; same = refl }) p.whole
    (own_fits over d link true p.it.request.number p.own (stops d p.stop) (λ own. record { given = p.it; is = p.is; names = refl; asked = p.asked ∙ own })
    (stop_fits over d link true p.stop p.only)))) in
    let given : one_if link.given ≡ 1 = ap (λ (o : Option Given). one_if o) p.is in
    let aborts : aborts_in path ≤ 2 = counts.aborts in
    record {
      device = stands.device;
      of_kind = stands.of_kind;
      one_place = four 1 0 0 0 1 refl (serves_in path) (one_if c.given) (one_if c.ready) (length out) (one_if link.given) counts.serves
          (ap (λ (o : Option Request). one_if o) p.idle) (ap (λ (o : Option Ending). one_if o) p.unready) (ap (λ (es : List Ending). length es) p.empty) given;
      right = fits.right;
      aborts = fits.aborts;
      works_on = λ request has. none_fits (IsGiven link request) c.given request p.idle has;
      ready = λ e has. none_fits (IsMade link c e) c.ready e p.unready has;
      sent = subst (λ (es : List Ending). Each (IsMade link c) es) (sym p.empty) tt;
      same_store = λ idle unready empty. p.store;
      store_so_far = λ request has. none_fits _ c.given request p.idle has;
      stopped = stands.stopped;
      few_aborts = omega (arith, aborts, given);
      few_serves = let serves = counts.serves in omega (arith, serves);
      few_stops = counts.stops;
      few = counts.few;
      fewer = counts.fewer;
    }

-- what is on the way behind the Serve
behind_fits : (over : Bool) (d : ℕ) (link : Link) (it : Given) (own stop : Bool) → link.given ≡ Some it → (own ≡ true → it.asked ≡ true) → (stop ≡ true → over ≡ true) →
    Fits over d link false (own_aborts d it.request.number own ++ stops d stop)
behind_fits over d link it own stop is asked only =
    own_fits over d link false it.request.number own (stops d stop) (λ so. record { given = it; is = is; names = refl; asked = asked so }) (stop_fits over d link false stop only)

from_hand : (over : Bool) (d : ℕ) (link : Link) (c : Core) (out : List Ending) (path : List Message) → Stands (side_of over d link) c out path → InHand (side_of over d link) c out path → IsSound over d link c out path
from_hand over d link c out path stands p =
    let counts : Counts over 0 2 path = subst (λ (w : List Message). Counts over 0 2 w) (sym p.way) (own_counts over d p.it.request.number p.own p.stop) in
    let fits : Fits over d link false path = subst (λ (w : List Message). Fits over d link false w) (sym p.way) (behind_fits over d link p.it p.own p.stop p.is (λ own. p.asked ∙ own) p.only) in
    let given : one_if link.given ≡ 1 = ap (λ (o : Option Given). one_if o) p.is in
    let aborts : aborts_in path ≤ 2 = counts.aborts in
    record {
      device = stands.device;
      of_kind = stands.of_kind;
      one_place = four 0 1 0 0 1 refl (serves_in path) (one_if c.given) (one_if c.ready) (length out) (one_if link.given) counts.serves
          (ap (λ (o : Option Request). one_if o) p.works) (ap (λ (o : Option Ending). one_if o) p.unready) (ap (λ (es : List Ending). length es) p.empty) given;
      right = fits.right;
      aborts = fits.aborts;
      works_on = λ request has. some_fits (IsGiven link) c.given p.it.request request p.works has (record { given = p.it; is = p.is; same = refl });
      ready = λ e has. none_fits (IsMade link c e) c.ready e p.unready has;
      sent = subst (λ (es : List Ending). Each (IsMade link c) es) (sym p.empty) tt;
      same_store = λ idle unready empty. none_fits _ c.given p.it.request idle p.works;
      store_so_far = λ request has. some_fits (λ (r : Request). c.store ≡ (blocks link.kind link.store r c.blocks).store) c.given p.it.request request p.works has (ap (λ (q : Partial). q.store) p.partial);
      stopped = stands.stopped;
      few_aborts = omega (arith, aborts, given);
      few_serves = let serves = counts.serves in omega (arith, serves);
      few_stops = counts.stops;
      few = counts.few;
      fewer = counts.fewer;
    }

from_ready : (over : Bool) (d : ℕ) (link : Link) (c : Core) (out : List Ending) (path : List Message) → Stands (side_of over d link) c out path → AtReady (side_of over d link) c out path → IsSound over d link c out path
from_ready over d link c out path stands p =
    let counts : Counts over 0 2 path = subst (λ (w : List Message). Counts over 0 2 w) (sym p.way) (own_counts over d p.it.request.number p.own p.stop) in
    let fits : Fits over d link false path = subst (λ (w : List Message). Fits over d link false w) (sym p.way) (behind_fits over d link p.it p.own p.stop p.is p.asked p.only) in
    let given : one_if link.given ≡ 1 = ap (λ (o : Option Given). one_if o) p.is in
    let aborts : aborts_in path ≤ 2 = counts.aborts in
    record {
      device = stands.device;
      of_kind = stands.of_kind;
      one_place = four 0 0 1 0 1 refl (serves_in path) (one_if c.given) (one_if c.ready) (length out) (one_if link.given) counts.serves
          (ap (λ (o : Option Request). one_if o) p.idle) (ap (λ (o : Option Ending). one_if o) p.ready) (ap (λ (es : List Ending). length es) p.empty) given;
      right = fits.right;
      aborts = fits.aborts;
      works_on = λ request has. none_fits (IsGiven link request) c.given request p.idle has;
      ready = λ e has. some_fits (IsMade link c) c.ready _ e p.ready has
          (record { given = p.it; is = p.is; fit = made_fit d link p.it p.how 0 p.allowed; store = p.store });
      sent = subst (λ (es : List Ending). Each (IsMade link c) es) (sym p.empty) tt;
      same_store = λ idle unready empty. none_fits _ c.ready _ unready p.ready;
      store_so_far = λ request has. none_fits _ c.given request p.idle has;
      stopped = stands.stopped;
      few_aborts = omega (arith, aborts, given);
      few_serves = let serves = counts.serves in omega (arith, serves);
      few_stops = counts.stops;
      few = counts.few;
      fewer = counts.fewer;
    }

from_sent : (over : Bool) (d : ℕ) (link : Link) (c : Core) (out : List Ending) (path : List Message) → Stands (side_of over d link) c out path → IsSent (side_of over d link) c out path → IsSound over d link c out path
from_sent over d link c out path stands p =
    let counts : Counts over 0 2 path = subst (λ (w : List Message). Counts over 0 2 w) (sym p.way) (own_counts over d p.it.request.number p.own p.stop) in
    let fits : Fits over d link false path = subst (λ (w : List Message). Fits over d link false w) (sym p.way) (behind_fits over d link p.it p.own p.stop p.is p.asked p.only) in
    let given : one_if link.given ≡ 1 = ap (λ (o : Option Given). one_if o) p.is in
    let aborts : aborts_in path ≤ 2 = counts.aborts in
    record {
      device = stands.device;
      of_kind = stands.of_kind;
      one_place = four 0 0 0 1 1 refl (serves_in path) (one_if c.given) (one_if c.ready) (length out) (one_if link.given) counts.serves
          (ap (λ (o : Option Request). one_if o) p.idle) (ap (λ (o : Option Ending). one_if o) p.unready) (ap (λ (es : List Ending). length es) p.sent) given;
      right = fits.right;
      aborts = fits.aborts;
      works_on = λ request has. none_fits (IsGiven link request) c.given request p.idle has;
      ready = λ e has. none_fits (IsMade link c e) c.ready e p.unready has;
      sent = subst (λ (es : List Ending). Each (IsMade link c) es) (sym p.sent)
          (record { given = p.it; is = p.is; fit = made_fit d link p.it p.how p.count p.allowed; store = p.store }, tt);
      same_store = λ idle unready empty. absurd (cc (empty, p.sent));
      store_so_far = λ request has. none_fits _ c.given request p.idle has;
      stopped = stands.stopped;
      few_aborts = omega (arith, aborts, given);
      few_serves = let serves = counts.serves in omega (arith, serves);
      few_stops = counts.stops;
      few = counts.few;
      fewer = counts.fewer;
    }

from_place : (over : Bool) (d : ℕ) (link : Link) (c : Core) (out : List Ending) (path : List Message) → Stands (side_of over d link) c out path → Place (side_of over d link) c out path → IsSound over d link c out path
from_place over d link c out path stands (nowhere p) = from_nowhere over d link c out path stands p
from_place over d link c out path stands (on_way p) = from_on_way over d link c out path stands p
from_place over d link c out path stands (in_hand p) = from_hand over d link c out path stands p
from_place over d link c out path stands (at_ready p) = from_ready over d link c out path stands p
from_place over d link c out path stands (sent p) = from_sent over d link c out path stands p

all_untaken : (link : Link) (road : Road) → link.out ≡ [] → way_of link road ≡ untaken road
all_untaken link road none = ap (λ (out : List Message). road.inbox ++ (road.waiting ++ out)) none ∙ ap (λ (w : List Message). road.inbox ++ w) (append-nil road.waiting)

-- a device whose road is in order, and whose messages were taken, is sound
pub sound : (over : Bool) (d : ℕ) (link : Option Link) (road : Option Road) → ((it : Link) → link ≡ Some it → it.out ≡ []) → Meets over d link road → AreSound over d link road
sound over d None None empty meets = tt
sound over d (Some link) None empty meets = meets
sound over d None (Some road) empty meets = meets
sound over d (Some link) (Some road) empty meets =
    subst (λ (w : List Message). IsSound over d link road.core road.outbox w) (all_untaken link road (empty link refl))
    (from_place over d link road.core road.outbox (way_of link road) meets meets.place)
