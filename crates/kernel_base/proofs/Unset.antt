-- A handler that is no longer set stands nowhere among the events.
use Rattle.std.proofs.Common.{◌≡◌, ℕ, ◌<◌, Bool, true, false, not, cond, List, [], ◌∷◌, refl, arith, sym, subst}
use Rattle.std.specs.Bool.{◌==◌}
use Rattle.std.specs.Prelude.{Option, ◌&&◌, ◌||◌, nat_le}
use Rattle.std.specs.List.{All}
use Rattle.std.proofs.lemmas.Bool.Decides.{nat_tests}
use Rattle.std.proofs.lemmas.List.Elements.{All-head, All-tail}
use Rattle.tk_types.specs.declared.task.Task.{Task}
use Rattle.tk_types.specs.declared.task.Event.{Event}
use Rattle.tk_types.specs.declared.task.Event.TheVariants.{Wait, Cyclic, Alarm}
use Rattle.tk_types.specs.declared.task.DueEvent.{DueEvent}
use Rattle.context_model.specs.Clocks.Tables.{is_event, starts, without_event}
use Rattle.time_queue.specs.Handlers.{id_of}
use Rattle.time_queue.specs.Queue.{Queue}
use Rattle.kernel_base.specs.Handlers.{has_event, is_handler}
use Rattle.kernel_base.specs.Room.{HasRoom, number_of}
use Rattle.kernel_base.proofs.Rooms.{events_filter}

small : (id : ℕ) (low high : Bool) → nat_le id 64 ≡ high → (low && high) ≡ true → id < 256
small id true true is both = grind (arith, nat_tests, is)
small id true false is both = absurd (cc both)
small id false high is both = absurd (cc both)

-- events of two handlers have two numbers
number_apart : (what other : Event) → is_handler what ≡ true → id_of other < 256 → is_event what other ≡ false → (number_of other == number_of what) ≡ false
number_apart (Wait task) other handler byte differs = absurd (cc handler)
number_apart (Cyclic id) (Wait task) handler byte differs = grind (arith, nat_tests, byte)
number_apart (Cyclic id) (Cyclic other) handler byte differs = grind (arith, nat_tests, differs)
number_apart (Cyclic id) (Alarm other) handler byte differs =
    let low : id < 256 = small id (nat_le 1 id) (nat_le id 64) refl handler in grind (arith, nat_tests, low)
number_apart (Alarm id) (Wait task) handler byte differs = grind (arith, nat_tests, byte)
number_apart (Alarm id) (Cyclic other) handler byte differs = grind (arith, nat_tests, byte)
number_apart (Alarm id) (Alarm other) handler byte differs = grind (arith, nat_tests, differs)

abbrev HasByte : DueEvent → Type 0
HasByte event = id_of event.what < 256

none_if : (what : Event) (event : DueEvent) (hit : Bool) (rest : List DueEvent) → is_handler what ≡ true → starts what event ≡ hit →
    (All HasByte rest → has_event what rest ≡ false) → All HasByte (cond (not hit) (event ∷ rest) rest) → has_event what (cond (not hit) (event ∷ rest) rest) ≡ false
none_if what event true rest handler is none bytes = none bytes
none_if what event false rest handler is none bytes =
    rw (number_apart what event.what handler (All-head HasByte event rest bytes) is) (none (All-tail HasByte event rest bytes))

none_left : (what : Event) (events : List DueEvent) → is_handler what ≡ true → All HasByte (without_event what events) → has_event what (without_event what events) ≡ false
none_left what [] handler bytes = refl
none_left what (event ∷ rest) handler bytes = none_if what event (starts what event) (without_event what rest) handler refl (none_left what rest handler) bytes

pub unset_after : (what : Event) (events left : List DueEvent) → is_handler what ≡ true → left ≡ without_event what events → All (λ event. id_of event.what < 256) left → has_event what left ≡ false
unset_after what events left handler at bytes =
    subst (λ (kept : List DueEvent). has_event what kept ≡ false) (sym at) (none_left what events handler (subst (All HasByte) at bytes))

pub event_dropped : (what : Event) (tasks : List (Option Task)) (old now : Queue) → HasRoom tasks old.events old.most → now ≡ record old { events = without_event what old.events } → HasRoom tasks now.events now.most
event_dropped what tasks old now is at =
    let kept = events_filter (λ event. not (starts what event)) old.events (is.once, is.below) in
    subst (λ (q : Queue). HasRoom tasks q.events q.most) (sym at) (record { slots = is.slots; once = kept.0; below = kept.1; room = is.room })
