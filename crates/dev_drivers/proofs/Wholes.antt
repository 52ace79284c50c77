-- The test of a whole request says what it should.
use Rattle.std.proofs.Common.{◌≡◌, ℕ, ◌≤◌, Bool, true, false, List, [], ◌∷◌, length, Option, Some, None, refl, arith}
use Rattle.std.specs.Prelude.{◌==◌, ◌&&◌, not, nat_le, if◌then◌else◌}
use Rattle.std.specs.Option.{is_some}
use Rattle.std.proofs.lemmas.Bool.Decides.{nat_tests}
use Rattle.device_model.specs.RoomyBytes.{RoomyBytes}
use Rattle.device_model.specs.declared.messages.Ending.{Ending}
use Rattle.device_model.specs.declared.messages.Message.{Message}
use Rattle.device_model.specs.declared.messages.Message.TheVariants as message
use Rattle.device_model.specs.declared.messages.Request.{Request}
use Rattle.device_model.specs.Units.Function.{IsWhole}
use Rattle.driver_model.specs.Cores.{Core, can_take}
use Rattle.dev_units.specs.Cores.{MayTake}
use Rattle.dev_drivers.specs.Wholes.{HasWhole, has_all, is_whole}

no_items : (items : List ℕ) → length items ≡ 0 → items ≡ []
no_items [] is = refl
no_items (x ∷ items) is = absurd (omega (arith, is))

test_by : (write : Bool) (id number start size : ℕ) (bytes : RoomyBytes) →
    let request : Request = record { id = id; number = number; write = write; start = start; size = size; bytes = bytes } in has_all request ≡ true → IsWhole request
test_by true id number start size bytes is = record { size = λ _. grind (arith, nat_tests, is); none = λ e. absurd (cc e); room = λ e. absurd (cc e) }
test_by false id number start size bytes is =
    let none : length bytes.items ≡ 0 = grind (arith, nat_tests, is) in
    record { size = λ e. absurd (cc e); none = λ _. no_items bytes.items none; room = λ _. grind (arith, nat_tests, is) }

pub whole_by_test : (request : Request) → has_all request ≡ true → IsWhole request
whole_by_test request is = test_by request.write request.id request.number request.start request.size request.bytes is

by_whole : (write : Bool) (id number start size : ℕ) (bytes : RoomyBytes) →
    let request : Request = record { id = id; number = number; write = write; start = start; size = size; bytes = bytes } in IsWhole request → has_all request ≡ true
by_whole true id number start size bytes is = let all : length bytes.items ≡ size = is.size refl in grind (arith, nat_tests, all)
by_whole false id number start size bytes is =
    let none : bytes.items ≡ [] = is.none refl in
    let few : length bytes.items ≡ 0 = rw none refl in
    let room : size ≤ bytes.room = is.room refl in
    grind (arith, nat_tests, few, room)

pub test_by_whole : (m : Message) → HasWhole m → is_whole m ≡ true
test_by_whole (message.Serve device request) is = by_whole request.write request.id request.number request.start request.size request.bytes is
test_by_whole (message.Abort device number) is = refl
test_by_whole (message.Stop device) is = refl

idle_parts : (stopped : Bool) (given : Option Request) (ready : Option Ending) → (not stopped && (not (is_some given) && not (is_some ready))) ≡ true → (given ≡ None) × (ready ≡ None)
idle_parts true given ready is = absurd (cc is)
idle_parts false (Some request) ready is = absurd (cc is)
idle_parts false None (Some ending) is = absurd (cc is)
idle_parts false None None is = (refl, refl)

-- what a driver takes, and is whole, it may be given
pub may_take : (core : Core) (m : Message) → can_take core m ≡ true → is_whole m ≡ true → MayTake core m
unfolding can_take
may_take core (message.Serve device request) may whole =
    let idle = idle_parts core.stopped core.given core.ready may in (whole_by_test request whole, idle.0, idle.1)
may_take core (message.Abort device number) may whole = tt
may_take core (message.Stop device) may whole = tt
