-- In every state that a machine comes to, whoever waits has asked for something that fits.
use Rattle.std.proofs.Common.{◌≡◌, ◌≤◌, ℕ, length, Bool, true, false, List, [], Option, Some, None, refl, ◌∙◌, ap, sym, subst, arith}
use Rattle.std.specs.Prelude.{if◌then◌else◌}
use Rattle.tk_types.specs.declared.run.Mode.{Mode}
use Rattle.tk_types.specs.declared.run.Mode.TheVariants as modes
use Rattle.tk_types.specs.declared.script.Script.{Script}
use Rattle.kernel_model.specs.Tasks.Base.{Base}
use Rattle.kernel_model.specs.Bodies.Statements.{IsRunnable, memory_size}
use Rattle.object_model.specs.Mails.Tables.{Mails}
use Rattle.device_model.specs.declared.messages.Ending.{Ending}
use Rattle.device_model.specs.Devices.Endings as endings
use Rattle.device_model.specs.Devices.Endings.{DevParts, arrive}
use Rattle.device_model.specs.Devices.Tables.{Given, Link, Row, is_at_driver, link_at, row_at}
use Rattle.device_model.specs.Units.Function.{Served}
use Rattle.machine_model.specs.States.Objects.{Parts, dev_parts, mail_parts, serve_object, with_devices}
use Rattle.machine_model.specs.States.State.{parts_of, state_start}
use Rattle.machine_model.specs.Events.Settle.{handed}
use Rattle.machine_model.specs.Runs.Reached.{Move, state_after}
use Rattle.machine_model.specs.Runs.Trace.{start}
use Rattle.call_walk.proofs.DeviceCalls.{arrive_base}
use Rattle.machine_lemmas.proofs.BaseKept.{HasSlots, slots_are_kept, start_slots}
use Rattle.machine_lemmas.proofs.KnownDevices.{IsWished}
use Rattle.machine_lemmas.proofs.Reached.{start_has}
use Rattle.machine_lemmas.proofs.Servings.{FewDevices, serving}
use Rattle.order_lemmas.proofs.Moves.{arrive_mails}
use Rattle.order_lemmas.proofs.ReachedOrders.{HasOrders, orders_are_kept, reached_orders}
use Rattle.ask_lemmas.specs.Asked.{HaveAsked}
use Rattle.ask_lemmas.proofs.Asked.{Asked, all_ask, alike_asked, asked_quietly, have_asked}
use Rattle.ask_lemmas.proofs.Asks.{AllAsk, asks_then, delete_asks, release_asks, set_current_asks, start_asks}
use Rattle.ask_lemmas.proofs.DeviceAsks.{asks_survive, device_calls_hold}
use Rattle.ask_lemmas.proofs.LongMemory.{IsLong, write_long}
use Rattle.ask_lemmas.proofs.MailAsks.{MailHolds, idle_buffers, mail_calls_hold}
use Rattle.ask_lemmas.proofs.MutexAsks.{mutex_calls_ask}
use Rattle.ask_lemmas.proofs.Passing.{IfServed, LeavesAsked, served_leaves}
use Rattle.ask_lemmas.proofs.PoolAsks.{pool_calls_hold}
use Rattle.ask_lemmas.proofs.SemFlagAsks.{sem_flag_calls_ask}
use Rattle.ask_lemmas.proofs.TaskAsks.{task_calls_ask}
use Rattle.ask_lemmas.proofs.TimeContexts.{again_asks, context_calls_ask, time_calls_ask}
use Rattle.ask_lemmas.proofs.WholeWalk.{IsKeptWhole, reached_whole}

-- whoever waits has asked for something that fits, and what that rests on: the order of all queues, the slots of tasks, a place for
-- what each task asks for, and all bytes of the script's memory
pub record HasAsked (p : Parts) : Type 0 where
  pub orders : HasOrders p
  pub slots : HasSlots p
  pub sending : length p.objects.mails.sending ≡ 256
  pub into : length p.objects.mails.into ≡ 256
  pub sizes : length p.objects.pools.sizes ≡ 256
  pub long : IsLong p.memory
  pub asked : HaveAsked p.base p.objects

-- it holds of parts of which each of these is known
pub has_asked : (p : Parts) → HasOrders p → length p.base.tasks ≡ 256 → length p.objects.mails.sending ≡ 256 → length p.objects.mails.into ≡ 256 →
    length p.objects.pools.sizes ≡ 256 → memory_size ≤ length p.memory → HaveAsked p.base p.objects → HasAsked p
has_asked p orders tasks sending into sizes long asked = record {
  orders = orders;
  slots = record { base = tasks; few = orders.places.few };
  sending = sending;
  into = into;
  sizes = sizes;
  long = long;
  asked = asked;
}

-- the same by the rows of tasks
rows : (p : Parts) → HasAsked p → AllAsk (Asked p.objects.mails p.objects.pools.sizes) p.base
rows p has = all_ask p.base p.objects has.asked

-- beside another base
holds : (p : Parts) (b : Base) → HasAsked p → AllAsk (Asked p.objects.mails p.objects.pools.sizes) b → MailHolds p.objects.pools.sizes p.objects.mails b p.memory
holds p b has asks = record { asks = asks; sending = has.sending; into = has.into; long = has.long }

made_of : (q : Parts) → HasOrders q → HasSlots q → length q.objects.pools.sizes ≡ 256 → MailHolds q.objects.pools.sizes q.objects.mails q.base q.memory → HasAsked q
made_of q orders slots sizes holds = record {
  orders = orders;
  slots = slots;
  sending = holds.sending;
  into = holds.into;
  sizes = sizes;
  long = holds.long;
  asked = have_asked q.base q.objects holds.asks;
}

-- what changes the base alone
of_base : (p : Parts) (b : Base) → HasOrders (record p { base = b }) → HasSlots (record p { base = b }) → AllAsk (Asked p.objects.mails p.objects.pools.sizes) b → HasAsked p →
    HasAsked (record p { base = b })
of_base p b orders slots asks has = made_of (record p { base = b }) orders slots has.sizes (holds p b has asks)

-- ---- servings, requests that go to drivers, and endings

there : (p q : Parts) (found : Option Parts) → found ≡ Some q → IfServed (LeavesAsked p) found → LeavesAsked p q
there p q None is kept = absurd (cc is)
there p q (Some r) is kept = let same : r ≡ q = cc is in subst (LeavesAsked p) same kept

served_asked : (p q : Parts) → FewDevices p → serve_object p ≡ Some q → HasAsked p → HasAsked q
served_asked p q few is has =
    let sizes : List ℕ = p.objects.pools.sizes in
    let asks = Asked p.objects.mails sizes in
    let leaves = there p q (serve_object p) is (served_leaves p) in
    let alike = leaves.mails.alike in
    let before : AllAsk asks q.base = (serving p q few is).ends.keeps (AllAsk asks)
    (asks_survive asks (asked_quietly p.objects.mails sizes) (IsWished p.objects.devices)) (rows p has) in
    let after : AllAsk (Asked q.objects.mails sizes) q.base =
    asks_then asks (Asked q.objects.mails sizes) q.base (λ t object waits. alike_asked p.objects.mails q.objects.mails sizes t object alike) before in
    made_of q (orders_are_kept.served p q few is has.orders) (slots_are_kept.served p q few is has.slots)
    (ap (λ (it : List ℕ). length it) leaves.sizes ∙ has.sizes) (record {
      asks = subst (λ (now : List ℕ). AllAsk (Asked q.objects.mails now) q.base) (sym leaves.sizes) after;
      sending = ap (λ (it : List (List ℕ)). length it) alike.sending ∙ has.sending;
      into = ap (λ (it : List ℕ). length it) alike.into ∙ has.into;
      long = leaves.mails.long has.long;
    })

handed_asked : (mode : Mode) (p : Parts) → HasAsked p → HasAsked (handed mode p)
handed_asked modes.Sync p has = has
handed_asked modes.Free p has =
    made_of (handed modes.Free p) (orders_are_kept.handed modes.Free p has.orders) (slots_are_kept.handed modes.Free p has.slots) has.sizes (holds p p.base has (rows p has))

-- an ending that arrives leaves all bytes of the memory
abbrev LeavesLong : Option DevParts → Type 0
LeavesLong None = Unit {0}
LeavesLong (Some q) = IsLong q.memory

row_long : (p : DevParts) (d : ℕ) (link : Link) (id : ℕ) (served : Served) (slot : Option Row) → IsLong p.memory → LeavesLong (endings.arrive_row p d link id served slot)
row_long p d link id served None long = tt
row_long p d link id served (Some row) long = by_life (is_at_driver row.life)
  where
    by_life : (away : Bool) → LeavesLong (if away then Some (endings.landed p d link id row served) else None)
    by_life true = write_long served.content row.address p.memory long
    by_life false = tt

fit_long : (fit : Bool) (p : DevParts) (ending : Ending) (link : Link) (given : Given) → IsLong p.memory → LeavesLong (endings.arrive_fit fit p ending link given)
fit_long false p ending link given long = tt
fit_long true p ending link given long = row_long p ending.device link given.request.id (endings.served_of link.kind link.store given.request ending.how)
    (row_at p.table given.request.id) long

given_long : (p : DevParts) (ending : Ending) (link : Link) (given : Option Given) → IsLong p.memory → LeavesLong (endings.arrive_given p ending link given)
given_long p ending link None long = tt
given_long p ending link (Some given) long = fit_long (endings.is_fit ending link given) p ending link given long

link_long : (p : DevParts) (ending : Ending) (link : Option Link) → IsLong p.memory → LeavesLong (endings.arrive_link p ending link)
link_long p ending None long = tt
link_long p ending (Some link) long = given_long p ending link link.given long

arrive_long : (p : DevParts) (ending : Ending) → IsLong p.memory → LeavesLong (arrive p ending)
unfolding arrive
arrive_long p ending long = link_long p ending (link_at p.table ending.device) long

long_there : (q : DevParts) (found : Option DevParts) → found ≡ Some q → LeavesLong found → IsLong q.memory
long_there q None is long = absurd (cc is)
long_there q (Some r) is long = let same : r ≡ q = cc is in subst (λ (it : DevParts). IsLong it.memory) same long

arrived_asked : (p : Parts) (e : Ending) (q : DevParts) → arrive (dev_parts p) e ≡ Some q → HasAsked p → HasAsked (with_devices p q)
arrived_asked p e q is has =
    let long : IsLong q.memory = long_there q (arrive (dev_parts p) e) is (arrive_long (dev_parts p) e has.long) in
    made_of (with_devices p q) (orders_are_kept.arrived p e q is has.orders) (slots_are_kept.arrived p e q is has.slots) has.sizes
    (subst (λ (m : Mails). MailHolds p.objects.pools.sizes m q.base q.memory) (sym (arrive_mails (dev_parts p) q e is))
    (subst (λ (b : Base). MailHolds p.objects.pools.sizes p.objects.mails b q.memory) (sym (arrive_base (dev_parts p) q e is))
    (record { asks = rows p has; sending = has.sending; into = has.into; long = long })))

-- ---- every event

-- every event leaves whoever waits with what it asked for
pub asks_are_kept : IsKeptWhole HasAsked
asks_are_kept = record {
  long = λ p has. has.long;
  few = λ p has. has.slots.few;
  task_calls = λ p who c has. of_base p _ (orders_are_kept.task_calls p who c has.orders) (slots_are_kept.task_calls p who c has.slots)
      (task_calls_ask (Asked p.objects.mails p.objects.pools.sizes) (asked_quietly p.objects.mails p.objects.pools.sizes) p.base p.objects.mutexes who c (rows p has)) has;
  sem_flag_calls = λ p who c has. made_of _ (orders_are_kept.sem_flag_calls p who c has.orders) (slots_are_kept.sem_flag_calls p who c has.slots) has.sizes (holds p _ has
      (sem_flag_calls_ask (Asked p.objects.mails p.objects.pools.sizes) (asked_quietly p.objects.mails p.objects.pools.sizes) p.base p.objects.sem_flags who c (rows p has)));
  mutex_calls = λ p who c has. made_of _ (orders_are_kept.mutex_calls p who c has.orders) (slots_are_kept.mutex_calls p who c has.slots) has.sizes (holds p _ has
      (mutex_calls_ask (Asked p.objects.mails p.objects.pools.sizes) (asked_quietly p.objects.mails p.objects.pools.sizes) p.base p.objects.mutexes who c (rows p has)));
  mail_calls = λ p who c has. made_of _ (orders_are_kept.mail_calls p who c has.orders) (slots_are_kept.mail_calls p who c has.slots) has.sizes
      (mail_calls_hold p.objects.pools.sizes (mail_parts p) who c (idle_buffers p.objects p.base has.orders.orders) has.slots.base (holds p p.base has (rows p has)));
  pool_calls = λ p who c has.
      let after = pool_calls_hold p.objects.mails p.base p.objects.pools who c has.slots.base (record { asks = rows p has; many = has.sizes }) in
      made_of _ (orders_are_kept.pool_calls p who c has.orders) (slots_are_kept.pool_calls p who c has.slots) after.many
      (record { asks = after.asks; sending = has.sending; into = has.into; long = has.long });
  time_calls = λ p c has. made_of _ (orders_are_kept.time_calls p c has.orders) (slots_are_kept.time_calls p c has.slots) has.sizes
      (holds p _ has (time_calls_ask (Asked p.objects.mails p.objects.pools.sizes) p.base p.objects.clocks c (rows p has)));
  context_calls = λ p who c has. made_of _ (orders_are_kept.context_calls p who c has.orders) (slots_are_kept.context_calls p who c has.slots) has.sizes
      (holds p _ has (context_calls_ask (Asked p.objects.mails p.objects.pools.sizes) p.base p.objects.contexts who c (rows p has)));
  device_calls = λ p who c has. made_of _ (orders_are_kept.device_calls p who c has.orders) (slots_are_kept.device_calls p who c has.slots) has.sizes
      (device_calls_hold p.objects.pools.sizes (dev_parts p) who c has.orders.known (holds p p.base has (rows p has)));
  left = λ p t all has. made_of _ (orders_are_kept.left p t all has.orders) (slots_are_kept.left p t all has.slots) has.sizes (holds p p.base has (rows p has));
  freed = λ p t m is has. made_of _ (orders_are_kept.freed p t m is has.orders) (slots_are_kept.freed p t m is has.slots) has.sizes (holds p p.base has (rows p has));
  deleted = λ p t has. of_base p _ (orders_are_kept.deleted p t has.orders) (slots_are_kept.deleted p t has.slots)
      (delete_asks (Asked p.objects.mails p.objects.pools.sizes) p.base t (rows p has)) has;
  refreshed = λ p t priority has. of_base p _ (orders_are_kept.refreshed p t priority has.orders) (slots_are_kept.refreshed p t priority has.slots)
      (set_current_asks (Asked p.objects.mails p.objects.pools.sizes) p.base t priority (rows p has)) has;
  served = served_asked;
  handed = handed_asked;
  handed_first = λ p has. made_of _ (orders_are_kept.handed_first p has.orders) (slots_are_kept.handed_first p has.slots) has.sizes (holds p p.base has (rows p has));
  messages = λ p has. made_of _ (orders_are_kept.messages p has.orders) (slots_are_kept.messages p has.slots) has.sizes (holds p p.base has (rows p has));
  arrived = arrived_asked;
  released = λ p t answer has. of_base p _ (orders_are_kept.released p t answer has.orders) (slots_are_kept.released p t answer has.slots)
      (release_asks (Asked p.objects.mails p.objects.pools.sizes) p.base t answer (rows p has)) has;
  again = λ p what has. of_base p _ (orders_are_kept.again p what has.orders) (slots_are_kept.again p what has.slots)
      (again_asks (Asked p.objects.mails p.objects.pools.sizes) p.base p.objects.clocks what (rows p has)) has;
  taken = λ p has. of_base p _ (orders_are_kept.taken p has.orders) (slots_are_kept.taken p has.slots) (rows p has) has;
  advanced = λ p has. of_base p _ (orders_are_kept.advanced p has.orders) (slots_are_kept.advanced p has.slots) (rows p has) has;
  flagged = λ p flags has. of_base p _ (orders_are_kept.flagged p flags has.orders) (slots_are_kept.flagged p flags has.slots) (rows p has) has;
  turned = λ p cur has. of_base p _ (orders_are_kept.turned p cur has.orders) (slots_are_kept.turned p cur has.slots) (rows p has) has;
  emptied = λ p has. of_base p _ (orders_are_kept.emptied p has.orders) (slots_are_kept.emptied p has.slots) (rows p has) has;
  written = λ p memory long has. made_of (record p { memory = memory }) (orders_are_kept.written p memory has.orders) (slots_are_kept.written p memory has.slots) has.sizes
      (record { asks = rows p has; sending = has.sending; into = has.into; long = long });
}

-- ---- the start

-- what holds at the start beside the order of the queues
record StartsAsked (p : Parts) : Type 0 where
  pub slots : HasSlots p
  pub sizes : length p.objects.pools.sizes ≡ 256
  pub holds : MailHolds p.objects.pools.sizes p.objects.mails p.base p.memory

first_asked : (script : Script) → IsRunnable script → StartsAsked (parts_of (state_start script))
unfolding state_start
first_asked script runnable =
    let p : Parts = parts_of (state_start script) in
    record {
      slots = start_slots script runnable;
      sizes = refl;
      holds = record { asks = start_asks (Asked p.objects.mails p.objects.pools.sizes) script.boot.priority; sending = refl; into = refl; long = omega arith };
    }

turned_asked : (p : Parts) (cur : Option ℕ) → StartsAsked p → StartsAsked (record p { base = record p.base { cur = cur } })
turned_asked p cur has = record {
  slots = slots_are_kept.turned p cur has.slots;
  sizes = has.sizes;
  holds = record { asks = has.holds.asks; sending = has.holds.sending; into = has.holds.into; long = has.holds.long };
}

start_order : (script : Script) (mode : Mode) (budget : ℕ) → IsRunnable script → HasOrders (parts_of (start script).state)
unfolding state_after
start_order script mode budget runnable = reached_orders script mode budget [] runnable

-- whoever waits has asked for something that fits once the first task is dispatched
pub start_asked : (script : Script) → IsRunnable script → HasAsked (parts_of (start script).state)
start_asked script runnable =
    let rest = start_has StartsAsked turned_asked script (first_asked script runnable) in
    made_of (parts_of (start script).state) (start_order script modes.Sync 0 runnable) rest.slots rest.sizes rest.holds

-- in every state that a machine comes to whoever waits has asked for something that fits, and what that rests on holds
pub reached_asks : (script : Script) (mode : Mode) (budget : ℕ) (moves : List Move) → IsRunnable script → HasAsked (parts_of (state_after script mode budget moves))
reached_asks script mode budget moves runnable = reached_whole HasAsked asks_are_kept script mode budget moves (start_asked script runnable)

-- so whoever waits has asked for something that fits
pub reached_asked : (script : Script) (mode : Mode) (budget : ℕ) (moves : List Move) → IsRunnable script →
    HaveAsked (state_after script mode budget moves).base (state_after script mode budget moves).objects
reached_asked script mode budget moves runnable = (reached_asks script mode budget moves runnable).asked
