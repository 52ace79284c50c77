-- In every state that a machine comes to each task that waits stands in the queue of an object that there is, in its order.
use Rattle.std.proofs.Common.{◌≡◌, ℕ, suc, zero, false, List, Option, Some, None, refl, ap, sym, subst}
use Rattle.std.specs.Prelude.{replicate}
use Rattle.std.specs.List.{slice_index_or}
use Rattle.tk_types.specs.declared.run.Mode.{Mode}
use Rattle.tk_types.specs.declared.run.Mode.TheVariants as modes
use Rattle.tk_types.specs.declared.script.Script.{Script}
use Rattle.tk_types.specs.declared.task.Order.TheVariants.{Fifo}
use Rattle.tk_types.specs.declared.task.Phase.TheVariants.{Ready}
use Rattle.tk_types.specs.declared.task.Task.{Task}
use Rattle.kernel_model.specs.Words.Orders.{entry}
use Rattle.kernel_model.specs.Tasks.Base.{Base, base_start, waiting_in, waits_for}
use Rattle.kernel_model.specs.Tasks.Waits.{FitsRow, HavePlaces}
use Rattle.kernel_model.specs.Bodies.Statements.{IsRunnable}
use Rattle.context_model.specs.Clocks.Calls.{time_call}
use Rattle.context_model.specs.Contexts.Calls.{context_call}
use Rattle.device_model.specs.declared.messages.Ending.{Ending}
use Rattle.device_model.specs.declared.rows.Opened.{Opened}
use Rattle.device_model.specs.declared.rows.Wish.{Wish}
use Rattle.device_model.specs.declared.rows.Wish.TheVariants as wish
use Rattle.device_model.specs.Devices.Calls.{device_call}
use Rattle.device_model.specs.Devices.Endings.{DevParts, arrive}
use Rattle.device_model.specs.Devices.Tables.{Devices, Link, devices_start}
use Rattle.object_model.specs.Mails.Tables.{Mails}
use Rattle.object_model.specs.Mails.Orders.{mail_order}
use Rattle.machine_model.specs.States.Objects.{Objects, Parts, dev_parts, serve_object, with_devices}
use Rattle.machine_model.specs.States.State.{parts_of, state_start}
use Rattle.machine_model.specs.States.Waits.{IsOrderly, order_for}
use Rattle.machine_model.specs.Events.Settle.{handed}
use Rattle.machine_model.specs.Runs.Reached.{Move, state_after}
use Rattle.kernel_lemmas.proofs.Tables.{entry_each, entry_same, none_there}
use Rattle.device_lemmas.proofs.Walk as devices
use Rattle.device_lemmas.proofs.Walk.{Kept}
use Rattle.call_walk.proofs.DeviceCalls.{arrive_base}
use Rattle.call_walk.proofs.Places.{places_kept}
use Rattle.machine_lemmas.proofs.BaseKept.{BaseHas, base_kept, start_slots}
use Rattle.machine_lemmas.proofs.KnownDevices.{AreKnown, IsWished, OpenFits, WishFits, wished_few}
use Rattle.machine_lemmas.proofs.Reached.{reached_has}
use Rattle.machine_lemmas.proofs.Servings.{FewDevices, serving}
use Rattle.machine_lemmas.proofs.Walk.{IsKept}
use Rattle.order_lemmas.proofs.DeviceOrders.{DevRight, device_calls_fit, mails_same, right_survives}
use Rattle.order_lemmas.proofs.MailOrders.{mail_calls_fit}
use Rattle.order_lemmas.proofs.Moves.{HasNoZero, arrive_mails, arrived_known, emptied_known, emptied_zero, first_known, over_known, zero_arrivals, zero_moves}
use Rattle.order_lemmas.proofs.MutexOrders.{free_last_fits, mutex_calls_fit}
use Rattle.order_lemmas.proofs.PoolOrders.{pool_calls_fit}
use Rattle.order_lemmas.proofs.Rights.{AreRight, delete_fits, release_fits, right_same, set_current_fits}
use Rattle.order_lemmas.proofs.SemFlagOrders.{sem_flag_calls_fit}
use Rattle.order_lemmas.proofs.TaskOrders.{task_calls_fit, task_orders}
use Rattle.order_lemmas.proofs.TimeContexts.{again_fits, context_calls_fit, time_calls_fit}

-- the order of all queues, and what it rests on: the places of the tasks that wait, and what is known of the devices
pub record HasOrders (p : Parts) : Type 0 where
  pub places : BaseHas HavePlaces p
  pub none : HasNoZero p.objects.devices
  pub known : AreKnown p.objects.devices
  pub orders : AreRight (order_for p.objects) p.base

-- what changes the base alone
of_base : (p : Parts) (b : Base) → BaseHas HavePlaces (record p { base = b }) → AreRight (order_for p.objects) b → HasOrders p → HasOrders (record p { base = b })
of_base p b places orders has = record { places = places; none = has.none; known = has.known; orders = orders }

placed : IsKept (BaseHas HavePlaces)
placed = base_kept HavePlaces places_kept

there : (P : Devices → Type 0) (q : DevParts) (found : Option DevParts) → found ≡ Some q → Kept P found → P q.table
there P q None is kept = absurd (cc is)
there P q (Some r) is kept = let same : r ≡ q = cc is in subst (λ (it : DevParts). P it.table) same kept

handed_orders : (mode : Mode) (p : Parts) → HasOrders p → HasOrders (handed mode p)
handed_orders modes.Sync p has = has
handed_orders modes.Free p has = record {
  places = placed.handed modes.Free p has.places;
  none = devices.hand_over_keeps HasNoZero zero_moves p.base p.objects.devices has.none;
  known = over_known p.base p.objects.devices has.known;
  orders = right_same (order_for p.objects) (order_for (handed modes.Free p).objects) p.base (λ object. refl) has.orders;
}

served_orders : (p q : Parts) → FewDevices p → serve_object p ≡ Some q → HasOrders p → HasOrders q
served_orders p q few is has =
    let it = serving p q few is in
    record {
      places = placed.served p q few is has.places;
      none = subst (λ (links : List (Option Link)). entry links 0 ≡ None) (sym it.links) has.none;
      known = it.known has.known;
      orders = right_same (order_for p.objects) (order_for q.objects) q.base it.orders
          (it.ends.keeps (AreRight (order_for p.objects)) (right_survives p.objects (IsWished p.objects.devices)
          (λ dd wished. wished_few p.objects.devices dd has.known wished)) has.orders);
    }

dev_right : (p : Parts) → HasOrders p → DevRight p.objects (dev_parts p)
dev_right p has = record { orders = has.orders; known = has.known }

arrived_orders : (p : Parts) (e : Ending) (q : DevParts) → arrive (dev_parts p) e ≡ Some q → HasOrders p → HasOrders (with_devices p q)
arrived_orders p e q is has = record {
  places = placed.arrived p e q is has.places;
  none = there HasNoZero q (arrive (dev_parts p) e) is (devices.arrival_keeps HasNoZero zero_moves zero_arrivals (dev_parts p) e has.none);
  known = there AreKnown q (arrive (dev_parts p) e) is (arrived_known (dev_parts p) e has.known);
  orders = right_same (order_for p.objects) (order_for (with_devices p q).objects) q.base
      (λ object. mails_same p.objects p.objects.mails q.mails object (ap (λ (m : Mails). mail_order m object) (arrive_mails (dev_parts p) q e is)))
      (subst (AreRight (order_for p.objects)) (sym (arrive_base (dev_parts p) q e is)) has.orders);
}

-- every event keeps the order of all queues
pub orders_are_kept : IsKept HasOrders
orders_are_kept = record {
  few = λ p has. has.places.few;
  task_calls = λ p who c has. of_base p _ (placed.task_calls p who c has.places) (task_calls_fit (order_for p.objects)
      (task_orders p.objects) p.base p.objects.mutexes who c has.orders) has;
  sem_flag_calls = λ p who c has. record
      { places = placed.sem_flag_calls p who c has.places; none = has.none; known = has.known; orders = sem_flag_calls_fit p.objects p.base who c has.places.base has.orders };
  mutex_calls = λ p who c has. record
      { places = placed.mutex_calls p who c has.places; none = has.none; known = has.known; orders = mutex_calls_fit p.objects p.base who c has.places.base has.orders };
  mail_calls = λ p who c has. record
      { places = placed.mail_calls p who c has.places; none = has.none; known = has.known; orders = mail_calls_fit p.objects p.base p.memory who c has.places.base has.orders };
  pool_calls = λ p who c has. record
      { places = placed.pool_calls p who c has.places; none = has.none; known = has.known; orders = pool_calls_fit p.objects p.base who c has.places.base has.orders };
  time_calls = λ p c has. record {
    places = placed.time_calls p c has.places;
    none = has.none;
    known = has.known;
    orders = right_same (order_for p.objects) (order_for (record p.objects { clocks = (time_call p.base p.objects.clocks c).table })) (time_call p.base p.objects.clocks c).base
        (λ object. refl)
        (time_calls_fit (order_for p.objects) p.base p.objects.clocks c has.orders);
  };
  context_calls = λ p who c has. record {
    places = placed.context_calls p who c has.places;
    none = has.none;
    known = has.known;
    orders = right_same (order_for p.objects) (order_for (record p.objects { contexts = (context_call p.base p.objects.contexts who c).table }))
        (context_call p.base p.objects.contexts who c).base (λ object. refl)
        (context_calls_fit (order_for p.objects) p.base p.objects.contexts who c has.orders);
  };
  device_calls = λ p who c has.
      let right = device_calls_fit p.objects (dev_parts p) who c has.none has.places.few (dev_right p has) in
      record {
        places = placed.device_calls p who c has.places;
        none = devices.calls_keep HasNoZero zero_moves (dev_parts p) who c has.none;
        known = right.known;
        orders = right_same (order_for (record p.objects { mails = (device_call (dev_parts p) who c).parts.mails }))
            (order_for (with_devices p (device_call (dev_parts p) who c).parts).objects) (device_call (dev_parts p) who c).parts.base (λ object. refl) right.orders;
      };
  left = λ p t all has. record {
    places = placed.left p t all has.places;
    none = has.none;
    known = has.known;
    orders = right_same (order_for p.objects) _ p.base
        (λ object. refl) has.orders;
  };
  freed = λ p t m is has. record { places = placed.freed p t m is has.places; none = has.none; known = has.known; orders = free_last_fits p.objects p.base t m is has.orders };
  deleted = λ p t has. of_base p _ (placed.deleted p t has.places) (delete_fits (order_for p.objects) p.base t has.orders) has;
  refreshed = λ p t priority has. of_base p _ (placed.refreshed p t priority has.places) (set_current_fits (order_for p.objects) p.base t priority has.orders) has;
  served = served_orders;
  handed = handed_orders;
  handed_first = λ p has. record {
    places = placed.handed_first p has.places;
    none = devices.hand_first_keeps HasNoZero zero_moves p.objects.devices has.none;
    known = first_known p.objects.devices has.known;
    orders = right_same (order_for p.objects) _ p.base (λ object. refl) has.orders;
  };
  messages = λ p has. record {
    places = placed.messages p has.places;
    none = emptied_zero p.objects.devices has.none;
    known = emptied_known p.objects.devices has.known;
    orders = right_same (order_for p.objects) _ p.base (λ object. refl) has.orders;
  };
  arrived = arrived_orders;
  released = λ p t answer has. of_base p _ (placed.released p t answer has.places) (release_fits (order_for p.objects) p.base t answer has.orders) has;
  again = λ p what has. of_base p _ (placed.again p what has.places) (again_fits (order_for p.objects) p.base p.objects.clocks what has.orders) has;
  taken = λ p has. of_base p _ (placed.taken p has.places) has.orders has;
  advanced = λ p has. of_base p _ (placed.advanced p has.places) has.orders has;
  flagged = λ p flags has. of_base p _ (placed.flagged p flags has.places) has.orders has;
  turned = λ p cur has. of_base p _ (placed.turned p cur has.places) has.orders has;
  emptied = λ p has. of_base p _ (placed.emptied p has.places) has.orders has;
  written = λ p memory has. record { places = placed.written p memory has.places; none = has.none; known = has.known; orders = has.orders };
}

-- ---- the start

alone : (P : Option Task → Type 0) (priority t : ℕ) →
    P (Some (record { phase = Ready; queue = Fifo; base = priority; initial = priority; current = priority; wakeups = 0; suspensions = 0; stack = 1024 })) → P None →
    P (entry (base_start priority).tasks t)
alone P priority t one nothing =
    let slot : Option Task = Some (record { phase = Ready; queue = Fifo; base = priority; initial = priority; current = priority; wakeups = 0; suspensions = 0; stack = 1024 }) in
    entry_each (λ u now. P now) (replicate 256 None) 1 slot (entry_same P (replicate 256 None) 1 slot one nothing) (λ u apart. subst P (sym (none_there 256 u)) nothing) t

start_right : (o : Objects) (priority : ℕ) → AreRight (order_for o) (base_start priority)
start_right o priority = λ t. alone (FitsRow (order_for o)) priority t tt tt

start_idle : (priority t object : ℕ) → waits_for (base_start priority) object t ≡ false
start_idle priority t object = alone (λ slot. waiting_in object slot ≡ false) priority t refl refl

start_places : (priority : ℕ) → HavePlaces (base_start priority)
start_places priority = record {
  ranks = λ t object waits. let idle = start_idle priority t object in absurd (cc (waits, idle));
  stands = λ t object waits. let idle = start_idle priority t object in absurd (cc (waits, idle));
}

nothing_opened : (n dd : ℕ) → OpenFits (entry (replicate {A = Option Opened} n None) dd)
nothing_opened zero dd = tt
nothing_opened (suc n) zero = tt
nothing_opened (suc n) (suc dd) = nothing_opened n dd

nothing_wished : (n t : ℕ) → WishFits (slice_index_or (replicate {A = Wish} n wish.Nothing) t wish.Nothing)
nothing_wished zero t = tt
nothing_wished (suc n) zero = tt
nothing_wished (suc n) (suc t) = nothing_wished n t

start_known : (script : Script) → AreKnown (devices_start script)
unfolding devices_start
start_known script = record { opened = nothing_opened 33; wished = nothing_wished 256 }

start_none : (script : Script) → HasNoZero (devices_start script)
unfolding devices_start
start_none script = refl

start_orders : (script : Script) → IsRunnable script → HasOrders (parts_of (state_start script))
unfolding state_start
start_orders script runnable = record {
  places = record { base = start_places script.boot.priority; few = (start_slots script runnable).few };
  none = start_none script;
  known = start_known script;
  orders = start_right (parts_of (state_start script)).objects script.boot.priority;
}

-- in every state that a machine comes to all queues are in order, and what that rests on holds
pub reached_orders : (script : Script) (mode : Mode) (budget : ℕ) (moves : List Move) → IsRunnable script → HasOrders (parts_of (state_after script mode budget moves))
reached_orders script mode budget moves runnable = reached_has HasOrders orders_are_kept script mode budget moves (start_orders script runnable)

-- so each task that waits stands in the queue of an object that there is, in its order
pub reached_orderly : (script : Script) (mode : Mode) (budget : ℕ) (moves : List Move) → IsRunnable script →
    IsOrderly (state_after script mode budget moves).base (state_after script mode budget moves).objects
reached_orderly script mode budget moves runnable = record { each = (reached_orders script mode budget moves runnable).orders }
