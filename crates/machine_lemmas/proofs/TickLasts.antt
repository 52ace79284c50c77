-- A wait with a limit of n milliseconds lasts n ticks, and is over with the next one.
use Rattle.std.proofs.Common.{◌≡◌, ℕ, suc, zero, ◌+◌, ◌<◌, ◌≤◌, true, false, Option, Some, None, refl, ◌∙◌, ap, sym, subst, pos, ◌⊎◌, inl, inr, arith}
use Rattle.std.proofs.lemmas.Bool.Decides.{nat_tests}
use Rattle.tk_types.specs.declared.run.Mode.{Mode}
use Rattle.tk_types.specs.declared.task.Order.{Order}
use Rattle.tk_types.specs.declared.task.Phase.{Phase}
use Rattle.tk_types.specs.declared.task.Phase.TheVariants.{Dormant, Ready, Waiting}
use Rattle.tk_types.specs.declared.task.Task.{Task}
use Rattle.kernel_model.specs.LawWords.TimeOrder.{AreInTimeOrder, ComesAfter}
use Rattle.kernel_model.specs.Words.Events.{limit_of}
use Rattle.kernel_model.specs.Tasks.Base.{Base, is_waiting, make_wait, task_at, waiting_in, waits_for, waits_in, waits_somewhere}
use Rattle.kernel_lemmas.proofs.Tables.{entry_at, entry_cases, entry_split, entry_there, itself}
use Rattle.call_lemmas.proofs.Serving.{waits_for_waits}
use Rattle.call_lemmas.proofs.TimeOuts.{limit_set}
use Rattle.call_walk.proofs.DueEvents.{time_order_kept}
use Rattle.context_model.specs.Clocks.Tables.{Clocks}
use Rattle.device_model.specs.Devices.Requests.{acceptance_object}
use Rattle.machine_model.specs.States.State.{State, parts_of}
use Rattle.machine_model.specs.Events.Ticks.{tick_state}
use Rattle.machine_lemmas.specs.TickTimes.{HasMoved, after_ticks}
use Rattle.machine_lemmas.proofs.Servings.{FewDevices}
use Rattle.machine_lemmas.proofs.TickEnds.{AnyStage, tick_any_stage, tick_leaves_set, tick_leaves_waiting, tick_time}
use Rattle.machine_lemmas.proofs.TickAhead.{not_moved, tick_over}
use Rattle.machine_lemmas.proofs.TickTakes.{tick_keeps_order}
use Rattle.machine_lemmas.proofs.TickWalk.{IsSettleProof, Step, TickHas, fallen_keeps, tick_keeps}

-- ---- what ticks leave

abbrev AnyBase : Base → Type 0
AnyBase b = Unit {0}

any_settles : IsSettleProof AnyBase
any_settles = record {
  survives = record { released = λ b t object answer above waits has. tt; moved = λ b t d dd least most moves waits has. tt; given = λ b n has. tt };
  refreshed = λ b t priority has. tt;
}

clocks_step : (mode : Mode) (Q : Clocks → Type 0) → Step AnyBase Q mode
clocks_step mode Q st what is has = fallen_keeps AnyBase Q any_settles mode st what has.few has.clocks (λ u named. tt) (λ none. tt)

-- a tick leaves the rows of handlers, and devices few
tick_leaves : (mode : Mode) (Q : Clocks → Type 0) (st : State) → FewDevices (parts_of st) → Q st.objects.clocks → TickHas AnyBase Q (parts_of (tick_state mode st))
tick_leaves mode Q st few clocks = tick_keeps AnyBase Q mode (clocks_step mode Q) st few clocks tt

few_after : (mode : Mode) (st : State) (passed : ℕ) → FewDevices (parts_of st) → FewDevices (parts_of (after_ticks mode passed st))
few_after mode st zero few = few
few_after mode st (suc passed) few = (tick_leaves mode (λ c. Unit {0}) (after_ticks mode passed st) (few_after mode st passed few) tt).few

order_after : (mode : Mode) (st : State) (passed : ℕ) → FewDevices (parts_of st) → AreInTimeOrder st.base.events → AreInTimeOrder (after_ticks mode passed st).base.events
order_after mode st zero few order = order
order_after mode st (suc passed) few order = tick_keeps_order mode (after_ticks mode passed st) (few_after mode st passed few) (order_after mode st passed few order)

time_after : (mode : Mode) (st : State) (passed : ℕ) → FewDevices (parts_of st) → (after_ticks mode passed st).base.time ≡ st.base.time + passed
time_after mode st zero few = omega arith
time_after mode st (suc passed) few =
    let before = time_after mode st passed few in
    let one = tick_time mode (after_ticks mode passed st) (few_after mode st passed few) in
    omega (arith, before, one)

-- ---- a wait that lasts

-- its time is this one, the limit of its wait is that one, and the task waits
record WaitsOn (now t object due : ℕ) (b : Base) : Type 0 where
  at : b.time ≡ now
  limit : limit_of t b.events ≡ Some due
  waits : waits_for b object t ≡ true

wait_begun : (b : Base) (t object : ℕ) (order : Order) (n : ℕ) (k : Task) → task_at b t ≡ Some k → WaitsOn b.time t object (b.time + n + 1) (make_wait b t object order (pos n))
wait_begun b t object order n k at = record {
  at = entry_at (λ c. c.time ≡ b.time) (task_at b t) k b _ at refl;
  limit = limit_set b t object order n k at;
  waits = entry_at (λ c. waits_for c object t ≡ true) (task_at b t) k b _ at
      (ap (waiting_in object) (entry_there b.tasks t k (Some (record k { phase = Waiting object; queue = order })) at) ∙ itself object);
}

waits_after : (mode : Mode) (st : State) (t object now due passed : ℕ) → FewDevices (parts_of st) → object < 64 → now + passed < due → WaitsOn now t object due st.base →
    WaitsOn (now + passed) t object due (after_ticks mode passed st).base
waits_after mode st t object now due zero few below early is = record { at = is.at ∙ omega arith; limit = is.limit; waits = is.waits }
waits_after mode st t object now due (suc passed) few below early is =
    let before : WaitsOn (now + passed) t object due (after_ticks mode passed st).base = waits_after mode st t object now due passed few below (omega (arith, early)) is in
    let time : (after_ticks mode passed st).base.time ≡ now + passed = before.at in
    let less = few_after mode st passed few in
    let comes : ComesAfter ((after_ticks mode passed st).base.time + 1) (limit_of t (after_ticks mode passed st).base.events) =
    subst (λ (limit : Option ℕ). ComesAfter ((after_ticks mode passed st).base.time + 1) limit) (sym before.limit) (omega (arith, time, early)) in
    record {
      at = let one = tick_time mode (after_ticks mode passed st) less in omega (arith, time, one);
      limit = tick_leaves_set mode (after_ticks mode passed st) t object less before.waits below comes ∙ before.limit;
      waits = tick_leaves_waiting mode (after_ticks mode passed st) t object less before.waits below comes;
    }

-- through the ticks of its limit a task waits on that nothing serves
pub wait_lasts : (mode : Mode) (st : State) (t object : ℕ) (order : Order) (n passed : ℕ) (k : Task) → FewDevices (parts_of st) → task_at st.base t ≡ Some k → object < 64 →
    passed ≤ n →
    is_waiting (after_ticks mode passed (record st { base = make_wait st.base t object order (pos n) })).base t ≡ true
wait_lasts mode st t object order n passed k few at below within =
    let first : State = record st { base = make_wait st.base t object order (pos n) } in
    waits_for_waits (after_ticks mode passed first).base t object
    (waits_after mode first t object st.base.time (st.base.time + n + 1) passed few below (omega (arith, within)) (wait_begun st.base t object order n k at)).waits

-- ---- a wait that is over

-- through any ticks a wait's end stays set, or the wait is over, or has moved
stage_after : (mode : Mode) (st : State) (t due : ℕ) (b : Base) (passed : ℕ) → FewDevices (parts_of st) → AnyStage t due b st.base →
    AnyStage t due b (after_ticks mode passed st).base
stage_after mode st t due b zero few has = has
stage_after mode st t due b (suc passed) few has = tick_any_stage mode (after_ticks mode passed st) t due b (few_after mode st passed few) (stage_after mode st t due b passed few has)

wait_time : (b : Base) (t object : ℕ) (order : Order) (n : ℕ) → (make_wait b t object order (pos n)).time ≡ b.time
wait_time b t object order n = entry_cases (λ c. c.time ≡ b.time) (task_at b t) b _ refl (λ k at. refl)

begun_cases : (b : Base) (t object : ℕ) (order : Order) (n : ℕ) (o : Option Task) → task_at b t ≡ o →
    AnyStage t (b.time + n + 1) (make_wait b t object order (pos n)) (make_wait b t object order (pos n))
begun_cases b t object order n None at =
    entry_split (λ c. AnyStage t (b.time + n + 1) c c) (task_at b t) b _ (λ none. inr (inl (tt, ap waits_somewhere none))) (λ k there. absurd (cc (at, there)))
begun_cases b t object order n (Some k) at = inl ((wait_begun b t object order n k at).limit, refl)

-- a wait that begins has its end set, and where there is no task none begins
begun_stage : (b : Base) (t object : ℕ) (order : Order) (n : ℕ) → AnyStage t (b.time + n + 1) (make_wait b t object order (pos n)) (make_wait b t object order (pos n))
begun_stage b t object order n = begun_cases b t object order n (task_at b t) refl

-- with one more its wait is over, or has moved from an acceptance to an ending
pub wait_over_or_moved : (mode : Mode) (st : State) (t object : ℕ) (order : Order) (n : ℕ) → FewDevices (parts_of st) → AreInTimeOrder st.base.events →
    (is_waiting (after_ticks mode (suc n) (record st { base = make_wait st.base t object order (pos n) })).base t ≡ false)
    ⊎ HasMoved (make_wait st.base t object order (pos n)) (after_ticks mode (suc n) (record st { base = make_wait st.base t object order (pos n) })).base t
wait_over_or_moved mode st t object order n few set =
    let first : State = record st { base = make_wait st.base t object order (pos n) } in
    let begins : first.base.time ≡ st.base.time = wait_time st.base t object order n in
    let time : (after_ticks mode n first).base.time ≡ first.base.time + n = time_after mode first n few in
    tick_over mode (after_ticks mode n first) t (st.base.time + n + 1) first.base (few_after mode first n few)
    (order_after mode first n few (time_order_kept.waits st.base t object order (pos n) set))
    (stage_after mode first t (st.base.time + n + 1) first.base n few (begun_stage st.base t object order n)) (omega (arith, begins, time))

phase_apart : (object other : ℕ) (phase : Phase) → waits_in object phase ≡ true → (object ≡ other → ⊥) → waits_in other phase ≡ false
phase_apart object other Ready its apart = refl
phase_apart object other Dormant its apart = refl
phase_apart object other (Waiting here) its apart = grind (arith, nat_tests, its, apart)

row_apart : (object other : ℕ) (o : Option Task) → waiting_in object o ≡ true → (object ≡ other → ⊥) → waiting_in other o ≡ false
row_apart object other None its apart = refl
row_apart object other (Some k) its apart = phase_apart object other k.phase its apart

-- a wait that begins is for its object alone
begun_apart : (b : Base) (t object other : ℕ) (order : Order) (n : ℕ) (o : Option Task) → task_at b t ≡ o → (object ≡ other → ⊥) →
    waits_for (make_wait b t object order (pos n)) other t ≡ false
begun_apart b t object other order n None at apart =
    entry_split (λ c. waits_for c other t ≡ false) (task_at b t) b _ (λ none. ap (waiting_in other) none) (λ k there. absurd (cc (at, there)))
begun_apart b t object other order n (Some k) at apart =
    row_apart object other (task_at (make_wait b t object order (pos n)) t) (wait_begun b t object order n k at).waits apart

-- and one for anything but the acceptance of a request is over
pub wait_over : (mode : Mode) (st : State) (t object : ℕ) (order : Order) (n : ℕ) → FewDevices (parts_of st) → AreInTimeOrder st.base.events →
    ((d : ℕ) → 1 ≤ d → d ≤ 8 → object ≡ acceptance_object d → ⊥) → is_waiting (after_ticks mode (suc n) (record st { base = make_wait st.base t object order (pos n) })).base t ≡ false
wait_over mode st t object order n few set other =
    not_moved t (make_wait st.base t object order (pos n)) (after_ticks mode (suc n) (record st { base = make_wait st.base t object order (pos n) })).base
    (λ d least most. begun_apart st.base t object (acceptance_object d) order n (task_at st.base t) refl (other d least most))
    (wait_over_or_moved mode st t object order n few set)
