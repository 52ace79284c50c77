-- The order of all queues and what waiters have asked for, in the form in which every event keeps them.
use Rattle.std.proofs.Common.{◌≡◌, ℕ, List, length, arith}
use Rattle.kernel_model.specs.Bodies.Statements.{memory_size}
use Rattle.kernel_model.specs.Tasks.Waits.{HavePlaces}
use Rattle.machine_model.specs.States.Objects.{Parts}
use Rattle.machine_model.specs.States.Waits.{IsOrderly}
use Rattle.order_lemmas.proofs.ReachedOrders.{HasOrders}
use Rattle.machine_model.specs.States.State.{State, parts_of}
use Rattle.ask_lemmas.proofs.LongMemory.{IsLong}
use Rattle.ask_lemmas.proofs.ReachedAsked.{HasAsked, has_asked}
use Rattle.step_lemmas.specs.Known.{HasDevices}
use Rattle.step_lemmas.specs.Sound.{IsSound, IsWhole}

-- ---- in the form in which it is carried through every event

orders_of : (st : State) → HavePlaces st.base → HasDevices st → IsOrderly st.base st.objects → HasOrders (parts_of st)
orders_of st places devices all = record {
  places = record { base = places; few = devices.few };
  none = devices.unnamed;
  known = devices.known;
  orders = all.each;
}

whole_long : (memory : List ℕ) → length memory ≡ memory_size → IsLong memory
whole_long memory is = omega (arith, is)

pub asked_of : (st : State) → HavePlaces st.base → IsWhole st → HasDevices st → IsSound st.base st.objects → HasAsked (parts_of st)
asked_of st places whole devices sound =
    has_asked (parts_of st) (orders_of st places devices sound.orderly) whole.tasks whole.sending whole.into whole.sizes (whole_long st.memory whole.memory) sound.asked

pub sound_of : (p : Parts) → HasAsked p → IsSound p.base p.objects
sound_of p has = record { orderly = record { each = has.orders.orders }; asked = has.asked }
