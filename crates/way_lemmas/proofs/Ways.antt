-- The way to the driver of a device stays a rear of an old Abort, a Serve and its Abort.
use Rattle.std.proofs.Common.{◌≡◌, ℕ, ◌≤◌, length, Bool, true, false, List, [], ◌∷◌, ◌++◌, Option, Some, None, refl, ap, sym, subst, ◌∙◌, arith}
use Rattle.std.specs.List.{list_any}
use Rattle.std.specs.Prelude.{if◌then◌else◌}
use Rattle.std.proofs.lemmas.List.{append_assoc}
use Rattle.device_model.specs.declared.messages.Message.{Message}
use Rattle.device_model.specs.declared.messages.Message.TheVariants as message
use Rattle.device_model.specs.declared.messages.Request.{Request}
use Rattle.device_model.specs.Devices.Tables.{Devices, Given, given_in, link_at}
use Rattle.fleet_model.specs.Channels.{is_serve}
use Rattle.way_lemmas.specs.Ways.{IsWay, Way, told_of}

-- ---- rears

-- what still waits once some of it has gone
pub rear : (d : ℕ) (given : Option Given) (front way : List Message) → IsWay d given (front ++ way) → IsWay d given way
rear d given front way is = record { old = is.old; gone = is.gone ++ front; is = is.is ∙ sym (append_assoc is.gone front way) }

pub way_rear : (dv : Devices) (d : ℕ) (front way : List Message) → Way dv d (front ++ way) → Way dv d way
way_rear dv d front way is = rear d (given_in (link_at dv d)) front way is

told_few : (d : ℕ) (given : Option Given) → length (told_of d given) ≤ 2
told_few d None = omega arith
told_few d (Some given) = by_asked given.request given.asked
  where
    by_asked : (request : Request) (asked : Bool) → length (told_of d (Some (record { request = request; asked = asked }))) ≤ 2
    by_asked request true = omega arith
    by_asked request false = omega arith

rear_length : (front way : List Message) → length way ≤ length (front ++ way)
rear_length [] way = omega arith
rear_length (m ∷ front) way = let less = rear_length front way in omega (arith, less)

pub few : (d : ℕ) (given : Option Given) (way : List Message) → IsWay d given way → length way ≤ 3
few d given way is =
    let told = told_few d given in
    let rest = rear_length is.gone way in
    let same : length (message.Abort d is.old ∷ told_of d given) ≡ length (is.gone ++ way) = ap (λ (ms : List Message). length ms) is.is in
    omega (arith, told, rest, same)

pub way_few : (dv : Devices) (d : ℕ) (way : List Message) → Way dv d way → length way ≤ 3
way_few dv d way is = few d (given_in (link_at dv d)) way is

-- nothing waits
pub none_waits : (d : ℕ) → IsWay d None []
none_waits d = record { old = 0; gone = message.Abort d 0 ∷ []; is = refl }

-- ---- what is told next is the last on the way

last_told : (gone way out : List Message) (m : Message) → (gone ++ (way ++ out)) ++ m ∷ [] ≡ gone ++ (way ++ (out ++ m ∷ []))
last_told gone way out m = append_assoc gone (way ++ out) (m ∷ []) ∙ ap (λ (ms : List Message). gone ++ ms) (append_assoc way out (m ∷ []))

-- a request goes to the driver
pub serve_told : (d : ℕ) (given : Option Given) (request : Request) (way out : List Message) → given ≡ None → IsWay d given (way ++ out) →
    IsWay d (Some (record { request = request; asked = false })) (way ++ (out ++ message.Serve d request ∷ []))
serve_told d given request way out none is = record {
  old = is.old;
  gone = is.gone;
  is = ap (λ (it : Option Given). message.Abort d is.old ∷ (told_of d it ++ message.Serve d request ∷ [])) (sym none)
      ∙ (ap (λ (ms : List Message). ms ++ message.Serve d request ∷ []) is.is ∙ last_told is.gone way out (message.Serve d request));
}

told_more : (d : ℕ) (request : Request) (asked : Bool) → asked ≡ false →
    told_of d (Some (record { request = request; asked = true })) ≡ told_of d (Some (record { request = request; asked = asked })) ++ message.Abort d request.number ∷ []
told_more d request true not = absurd (cc not)
told_more d request false not = refl

-- its abort is asked
pub abort_told : (d : ℕ) (slot : Option Given) (given : Given) (way out : List Message) → slot ≡ Some given → given.asked ≡ false → IsWay d slot (way ++ out) →
    IsWay d (Some (record given { asked = true })) (way ++ (out ++ message.Abort d given.request.number ∷ []))
abort_told d slot given way out has not is = record {
  old = is.old;
  gone = is.gone;
  is = ap (λ (ms : List Message). message.Abort d is.old ∷ ms) (told_more d given.request given.asked not)
      ∙ (ap (λ (it : Option Given). message.Abort d is.old ∷ (told_of d it ++ message.Abort d given.request.number ∷ [])) (sym has)
      ∙ (ap (λ (ms : List Message). ms ++ message.Abort d given.request.number ∷ []) is.is ∙ last_told is.gone way out (message.Abort d given.request.number)));
}

-- ---- its ending is taken in

serve_waits : (d old : ℕ) (request : Request) (rest way : List Message) → message.Abort d old ∷ message.Serve d request ∷ rest ≡ way → list_any is_serve way ≡ true
serve_waits d old request rest way is = ap (λ (ms : List Message). list_any is_serve ms) (sym is)

serve_next : (d : ℕ) (request : Request) (rest way : List Message) → message.Serve d request ∷ rest ≡ way → list_any is_serve way ≡ true
serve_next d request rest way is = ap (λ (ms : List Message). list_any is_serve ms) (sym is)

tail_of : (x y : Message) (xs ys : List Message) → x ∷ xs ≡ y ∷ ys → xs ≡ ys
tail_of x y xs ys is = cc is

none_of_two : (front way : List Message) → [] ≡ front ++ way → way ≡ []
none_of_two [] way is = sym is
none_of_two (m ∷ front) way is = absurd (cc is)

-- behind the Serve there is the Abort of the request alone
old_by : (d : ℕ) (request : Request) (asked : Bool) (front way : List Message) → (if asked then message.Abort d request.number ∷ [] else []) ≡ front ++ way → IsWay d None way
old_by d request true front way is = record { old = request.number; gone = front; is = is }
old_by d request false front way is = subst (λ (ms : List Message). IsWay d None ms) (sym (none_of_two front way is)) (none_waits d)

old_left : (d old : ℕ) (request : Request) (asked : Bool) (gone way : List Message) → message.Abort d old ∷ told_of d (Some (record { request = request; asked = asked })) ≡ gone ++ way →
    list_any is_serve way ≡ false → IsWay d None way
old_left d old request asked [] way is none = let waits = serve_waits d old request _ way is in absurd (cc (waits, none))
old_left d old request asked (m ∷ []) way is none = let waits = serve_next d request _ way (tail_of _ _ _ _ is) in absurd (cc (waits, none))
old_left d old request asked (m ∷ other ∷ front) way is none = old_by d request asked front way (tail_of _ _ _ _ (tail_of _ _ _ _ is))

-- where no Serve waits, what waits is an Abort of the request that has ended, or nothing
pub ending_taken : (d : ℕ) (slot : Option Given) (given : Given) (way : List Message) → slot ≡ Some given → list_any is_serve way ≡ false → IsWay d slot way → IsWay d None way
ending_taken d slot given way has none is =
    old_left d is.old given.request given.asked is.gone way (ap (λ (it : Option Given). message.Abort d is.old ∷ told_of d it) (sym has) ∙ is.is) none
