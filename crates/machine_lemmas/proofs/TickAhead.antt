-- A wait whose time has come has its turn in the tick, whatever is set meanwhile: that takes its place behind the end of the wait.
use Rattle.std.proofs.Common.{◌≡◌, ℕ, suc, zero, ◌+◌, ◌≤◌, Bool, true, false, not, List, [], ◌∷◌, Option, Some, None, length, refl, cond, ◌∙◌, ap, sym, subst, ◌⊎◌, inl, inr, arith}
use Rattle.std.specs.Bool.{◌==◌}
use Rattle.std.specs.List.{All, find}
use Rattle.std.specs.Option.{option_map}
use Rattle.std.specs.Prelude.{filter, nat_le, nat_lt}
use Rattle.std.proofs.lemmas.Bool.Decides.{nat_tests}
use Rattle.std.proofs.lemmas.List.Elements.{All-head, All-tail}
use Rattle.tk_types.specs.declared.answer.Answer.{Answer}
use Rattle.tk_types.specs.declared.run.Mode.{Mode}
use Rattle.tk_types.specs.declared.task.DueEvent.{DueEvent}
use Rattle.tk_types.specs.declared.task.Event.{Event as DueKind}
use Rattle.tk_types.specs.declared.task.Event.TheVariants.{Wait, Cyclic, Alarm}
use Rattle.tk_types.specs.declared.task.Order.{Order}
use Rattle.kernel_model.specs.LawWords.TimeOrder.{AreInTimeOrder, AreLater}
use Rattle.kernel_model.specs.Words.Events.{due_event, ends_wait_of, insert_event, is_due, is_wait_of, left_after, limit_of, without_wait}
use Rattle.kernel_model.specs.Tasks.Base.{Base, advance, give_bytes, is_waiting, is_waiting_phase, move_wait, release, set_current, take_due, task_at, waits_for}
use Rattle.kernel_lemmas.proofs.Releases.{release_over}
use Rattle.kernel_lemmas.proofs.Tables.{entry_cases}
use Rattle.call_walk.proofs.DueEvents.{time_order_kept}
use Rattle.context_model.specs.declared.cyclic_row.CyclicRow.{CyclicRow}
use Rattle.context_model.specs.Clocks.Tables.{Clocks, again, again_in, cyclic_at, starts, without_event}
use Rattle.device_model.specs.Devices.Requests.{acceptance_object, ending_object}
use Rattle.machine_model.specs.States.State.{State, parts_of}
use Rattle.machine_model.specs.Events.Ticks.{due_done, fallen, limit_answer, tick_state}
use Rattle.machine_lemmas.proofs.Servings.{FewDevices}
use Rattle.machine_lemmas.specs.TickTimes.{HasMoved}
use Rattle.machine_lemmas.proofs.TickEnds.{AnyStage, has_moved, tick_any_stage, waiting_left}
use Rattle.machine_lemmas.proofs.TickLimits.{IsLeft, again_leaves, limit_later, limit_rest, limit_without_cyclic, move_leaves, moved_unlimited, not_cyclic, not_its, other_wait, release_leaves, set_leaves, taken_limit}
use Rattle.machine_lemmas.proofs.TickTakes.{all_later, idle_if, pairs_head, pairs_tail}
use Rattle.machine_lemmas.proofs.TickWalk.{HasAt, IsSettleProof, TickHas, again_time, fallen_keeps, next, release_at, settling_at}
use Rattle.call_walk.proofs.TimeCalls.{again_keeps}

-- ---- what stands before the end of a wait

abbrev past : Bool → ℕ → ℕ
past here n = cond here 0 (suc n)

-- how many events stand before the end of a task's wait
abbrev ahead : ℕ → List DueEvent → ℕ
ahead t [] = 0
ahead t (first ∷ rest) = past (ends_wait_of t first) (ahead t rest)

past_less : (here : Bool) (n m : ℕ) → n ≤ m → past here n ≤ past here m
past_less true n m less = omega arith
past_less false n m less = omega (arith, less)

out_if : (t : ℕ) (first : DueEvent) (kept rest : List DueEvent) (out : Bool) → (out ≡ true → ends_wait_of t first ≡ false) → ahead t kept ≤ ahead t rest →
    ahead t (cond (not out) (first ∷ kept) kept) ≤ ahead t (first ∷ rest)
out_if t first kept rest true other fewer = let more : ahead t (first ∷ rest) ≡ suc (ahead t rest) = ap (λ here. past here (ahead t rest)) (other refl) in omega (arith, more, fewer)
out_if t first kept rest false other fewer = past_less (ends_wait_of t first) (ahead t kept) (ahead t rest) fewer

-- without other events no more do
ahead_out : (t : ℕ) (out : DueEvent → Bool) → ((event : DueEvent) → out event ≡ true → ends_wait_of t event ≡ false) → (events : List DueEvent) →
    ahead t (filter (λ event. not (out event)) events) ≤ ahead t events
ahead_out t out other [] = omega arith
ahead_out t out other (first ∷ rest) = out_if t first (filter (λ event. not (out event)) rest) rest (out first) (other first) (ahead_out t out other rest)

limit_from_if : (low t due : ℕ) (first : DueEvent) (rest : List DueEvent) (here : Bool) → low ≤ first.time →
    option_map (λ (event : DueEvent). event.time) (cond here (Some first) (find (ends_wait_of t) rest)) ≡ Some due →
    (limit_of t rest ≡ Some due → low ≤ due) → low ≤ due
limit_from_if low t due first rest true from limit more = let same : first.time ≡ due = cc limit in omega (arith, same, from)
limit_from_if low t due first rest false from limit more = more limit

limit_from : (low t due : ℕ) (events : List DueEvent) → All (λ event. low ≤ event.time) events → limit_of t events ≡ Some due → low ≤ due
limit_from low t due [] from limit = absurd (cc limit)
limit_from low t due (first ∷ rest) from limit =
    limit_from_if low t due first rest (ends_wait_of t first) (All-head (λ (event : DueEvent). low ≤ event.time) first rest from) limit (limit_from low t due rest (All-tail (λ (event : DueEvent). low ≤ event.time) first rest from))

-- the first falls due no later than the wait ends
first_from : (t due : ℕ) (first : DueEvent) (rest : List DueEvent) → AreInTimeOrder (first ∷ rest) → limit_of t (first ∷ rest) ≡ Some due → first.time ≤ due
first_from t due first rest order limit =
    limit_from_if first.time t due first rest (ends_wait_of t first) (omega arith) limit (limit_from first.time t due rest (pairs_head first rest order))

put_behind : (t due : ℕ) (event first : DueEvent) (rest inserted : List DueEvent) (before here : Bool) → nat_lt event.time first.time ≡ before → ends_wait_of t first ≡ here →
    due ≤ event.time → first.time ≤ due →
    limit_of t (first ∷ rest) ≡ Some due → (limit_of t rest ≡ Some due → ahead t inserted ≤ ahead t rest) → ahead t (cond before (event ∷ first ∷ rest) (first ∷ inserted)) ≤ ahead t (first ∷ rest)
put_behind t due event first rest inserted true here is end late early limit more = absurd (grind (arith, nat_tests, is, late, early))
put_behind t due event first rest inserted false true is end late early limit more =
    let none : ahead t (first ∷ inserted) ≡ 0 = ap (λ it. past it (ahead t inserted)) end in omega (arith, none)
put_behind t due event first rest inserted false false is end late early limit more =
    past_less (ends_wait_of t first) (ahead t inserted) (ahead t rest) (more (sym (limit_rest t first rest end) ∙ limit))

-- what is set for no earlier time takes its place behind
ahead_put : (t due : ℕ) (event : DueEvent) (events : List DueEvent) → due ≤ event.time → AreInTimeOrder events → limit_of t events ≡ Some due →
    ahead t (insert_event event events) ≤ ahead t events
ahead_put t due event [] late order limit = absurd (cc limit)
ahead_put t due event (first ∷ rest) late order limit =
    put_behind t due event first rest (insert_event event rest) (nat_lt event.time first.time) (ends_wait_of t first) refl refl late (first_from t due first rest order limit) limit
    (ahead_put t due event rest late (pairs_tail first rest order))

-- ---- a wait that has its turn

-- the wait is over, or has no limit, or few events stand before its end
abbrev Turn : ℕ → ℕ → ℕ → Base → Type 0
Turn t due left b = (is_waiting b t ≡ false) ⊎ ((limit_of t b.events ≡ None) ⊎ ((limit_of t b.events ≡ Some due) × (ahead t b.events + 1 ≤ left)))

nearer : (t due left : ℕ) (b c : Base) → IsLeft t b c → (limit_of t b.events ≡ Some due → ahead t c.events ≤ ahead t b.events) → Turn t due left b → Turn t due left c
nearer t due left b c is fewer (inl over) = inl (waiting_left t b c is ∙ over)
nearer t due left b c is fewer (inr (inl none)) = inr (inl (is.limit ∙ none))
nearer t due left b c is fewer (inr (inr set)) = inr (inr (is.limit ∙ set.0, let less = fewer set.0 in let bound = set.1 in omega (arith, less, bound)))

ahead_if : (t n : ℕ) (b c : Base) (test : Bool) → ahead t b.events ≤ n → ahead t c.events ≤ n → ahead t (cond test c b).events ≤ n
ahead_if t n b c true one other = other
ahead_if t n b c false one other = one

ahead_dropped : (t u : ℕ) (b : Base) → (u ≡ t → ⊥) → ahead t (without_wait u b.events) ≤ ahead t b.events
ahead_dropped t u b apart = ahead_out t (ends_wait_of u) (λ event is. other_wait t u event.what apart is) b.events

ahead_release : (t u : ℕ) (b : Base) (answer : Answer) → (u ≡ t → ⊥) → ahead t (release b u answer).events ≤ ahead t b.events
ahead_release t u b answer apart = entry_cases (λ c. ahead t c.events ≤ ahead t b.events) (task_at b u) b _ (omega arith)
    (λ k at. ahead_if t (ahead t b.events) b _ (is_waiting_phase k.phase) (omega arith) (ahead_dropped t u b apart))

ahead_move : (t u object : ℕ) (order : Order) (b : Base) → (u ≡ t → ⊥) → ahead t (move_wait b u object order).events ≤ ahead t b.events
ahead_move t u object order b apart = entry_cases (λ c. ahead t c.events ≤ ahead t b.events) (task_at b u) b _ (omega arith)
    (λ k at. ahead_if t (ahead t b.events) b _ (is_waiting_phase k.phase) (omega arith) (ahead_dropped t u b apart))

ahead_set : (t u priority : ℕ) (b : Base) → ahead t (set_current b u priority).events ≤ ahead t b.events
ahead_set t u priority b = entry_cases (λ c. ahead t c.events ≤ ahead t b.events) (task_at b u) b _ (omega arith) (λ k at. omega arith)

turn_release_if : (t due left u : ℕ) (b : Base) (answer : Answer) (test : Bool) → (u == t) ≡ test → ((u ≡ t → ⊥) → Turn t due left b) → Turn t due left (release b u answer)
turn_release_if t due left u b answer true test has =
    let same : u ≡ t = grind (arith, nat_tests, test) in
    inl (subst (λ (v : ℕ). is_waiting (release b u answer) v ≡ false) same (release_over b u answer))
turn_release_if t due left u b answer false test has =
    let apart : u ≡ t → ⊥ = λ same. grind (arith, nat_tests, test, same) in
    nearer t due left b (release b u answer) (release_leaves t u b answer apart) (λ limit. ahead_release t u b answer apart) (has apart)

turn_move_if : (t due left u from object : ℕ) (order : Order) (b : Base) (test : Bool) → (u == t) ≡ test → waits_for b from u ≡ true → Turn t due left b →
    Turn t due left (move_wait b u object order)
turn_move_if t due left u from object order b true test waits has =
    let same : u ≡ t = grind (arith, nat_tests, test) in
    inr (inl (subst (λ (v : ℕ). limit_of v (move_wait b u object order).events ≡ None) same (moved_unlimited u from object order b waits)))
turn_move_if t due left u from object order b false test waits has =
    let apart : u ≡ t → ⊥ = λ same. grind (arith, nat_tests, test, same) in
    nearer t due left b (move_wait b u object order) (move_leaves t u object order b apart) (λ limit. ahead_move t u object order b apart) has

-- the time is this one, all is in order, and the wait has its turn
abbrev InTurn : ℕ → ℕ → ℕ → ℕ → Base → Type 0
InTurn now t due left b = (HasAt now (λ events. Unit {0}) b × AreInTimeOrder b.events) × Turn t due left b

turn_settles : (now t due left : ℕ) → IsSettleProof (InTurn now t due left)
turn_settles now t due left =
    let at = settling_at now (λ events. Unit {0}) (λ passes events any. tt) in
    record {
      survives = record {
        released = λ b u object answer above waits has. (
          (at.survives.released b u object answer above waits has.0.0, time_order_kept.released b u answer has.0.1),
          turn_release_if t due left u b answer (u == t) refl (λ apart. has.1),
        );
        moved = λ b u d dd least most moves waits has. (
          (at.survives.moved b u d dd least most moves waits has.0.0, time_order_kept.moved b u _ _ has.0.1),
          turn_move_if t due left u (acceptance_object d) (ending_object dd) _ b (u == t) refl waits has.1,
        );
        given = λ b n has. (has.0, nearer t due left b (give_bytes b n) (record { limit = refl; phase = refl }) (λ limit. omega arith) has.1);
      };
      refreshed = λ b u priority has. (
        (at.refreshed b u priority has.0.0, time_order_kept.refreshed b u priority has.0.1),
        nearer t due left b (set_current b u priority) (set_leaves t u priority b) (λ limit. ahead_set t u priority b) has.1,
      );
    }

-- ---- events that fall due

again_ahead_in : (t due id : ℕ) (b : Base) (slot : Option CyclicRow) → due ≤ b.time → AreInTimeOrder b.events → limit_of t b.events ≡ Some due →
    ahead t (again_in b (Cyclic id) slot).events ≤ ahead t b.events
again_ahead_in t due id b None come order limit = omega arith
again_ahead_in t due id b (Some k) come order limit =
    let put = ahead_put t due (record { time = b.time + k.period; key = b.made; what = Cyclic id }) (without_event (Cyclic id) b.events) (omega (arith, come))
    (time_order_kept.passed b (λ event. not (starts (Cyclic id) event)) order) (limit_without_cyclic t id b.events ∙ limit) in
    let out = ahead_out t (starts (Cyclic id)) (λ event is. not_cyclic t id event.what is) b.events in
    omega (arith, put, out)

again_ahead : (t due : ℕ) (b : Base) (c : Clocks) (what : DueKind) → due ≤ b.time → AreInTimeOrder b.events → limit_of t b.events ≡ Some due →
    ahead t (again b c what).events ≤ ahead t b.events
unfolding again
again_ahead t due b c (Wait u) come order limit = omega arith
again_ahead t due b c (Cyclic id) come order limit = again_ahead_in t due id b (cyclic_at c id) come order limit
again_ahead t due b c (Alarm id) come order limit = omega arith

again_turn : (now t due left : ℕ) (b : Base) (c : Clocks) (what : DueKind) → due ≤ now → InTurn now t due left b → InTurn now t due left (again b c what)
again_turn now t due left b c what come has = (
  ((again_time b c what ∙ has.0.0.0, tt), again_keeps (λ it. AreInTimeOrder it.events) time_order_kept b c what has.0.1),
  nearer t due left b (again b c what) (again_leaves t b c what) (λ limit. again_ahead t due b c what (let at = has.0.0.0 in omega (arith, at, come)) has.0.1 limit) has.1,
)

ahead_first_if : (t : ℕ) (what : DueKind) (first : DueEvent) (rest : List DueEvent) (due : Bool) → cond due (Some first.what) None ≡ Some what → is_wait_of t what ≡ false →
    ahead t (cond due rest (first ∷ rest)) + 1 ≤ ahead t (first ∷ rest)
ahead_first_if t what first rest true taken other =
    let same : first.what ≡ what = cc taken in
    let more : ahead t (first ∷ rest) ≡ suc (ahead t rest) = ap (λ here. past here (ahead t rest)) (ap (is_wait_of t) same ∙ other) in
    omega (arith, more)
ahead_first_if t what first rest false taken other = absurd (cc taken)

ahead_taken : (t now : ℕ) (events : List DueEvent) (what : DueKind) → due_event now events ≡ Some what → is_wait_of t what ≡ false →
    ahead t (left_after now events) + 1 ≤ ahead t events
ahead_taken t now [] what taken other = absurd (cc taken)
ahead_taken t now (first ∷ rest) what taken other = ahead_first_if t what first rest (nat_le first.time now) taken other

-- another event that is taken leaves one less before the end of the wait
turn_taken : (t due left : ℕ) (b : Base) (what : DueKind) → due_event b.time b.events ≡ Some what → is_wait_of t what ≡ false → Turn t due (suc left) b →
    Turn t due left (take_due b)
turn_taken t due left b what is other (inl over) = inl over
turn_taken t due left b what is other (inr (inl none)) = inr (inl (taken_limit t b.time b.events what is other ∙ none))
turn_taken t due left b what is other (inr (inr set)) =
    inr (inr (taken_limit t b.time b.events what is other ∙ set.0, let less = ahead_taken t b.time b.events what is other in let bound = set.1 in omega (arith, less, bound)))

abbrev AnyClocks : Clocks → Type 0
AnyClocks c = Unit {0}

wait_apart : (t u : ℕ) (what : DueKind) → what ≡ Wait u → (u ≡ t → ⊥) → is_wait_of t what ≡ false
wait_apart t u what named apart = let other : (u == t) ≡ false = grind (arith, nat_tests, apart) in ap (is_wait_of t) named ∙ other

fallen_turn : (mode : Mode) (now t due left : ℕ) (st : State) (what : DueKind) → due ≤ now → due_event st.base.time st.base.events ≡ Some what →
    TickHas (InTurn now t due (suc left)) AnyClocks (parts_of st) →
    TickHas (InTurn now t due left) AnyClocks (parts_of (fallen mode (record st { base = take_due st.base }) what))
fallen_turn mode now t due left st what come is has =
    let at : HasAt now (λ events. Unit {0}) (take_due st.base) = has.base.0.0 in
    let order : AreInTimeOrder (take_due st.base).events = time_order_kept.due st.base has.base.0.1 in
    fallen_keeps (InTurn now t due left) AnyClocks (turn_settles now t due left) mode st what has.few tt
    (λ u named. (
      (
        release_at now (λ events. Unit {0}) (λ passes events any. tt) (take_due st.base) u (limit_answer (take_due st.base) u) at,
        time_order_kept.released (take_due st.base) u (limit_answer (take_due st.base) u) order,
      ),
      turn_release_if t due left u (take_due st.base) (limit_answer (take_due st.base) u) (u == t) refl (λ apart. turn_taken t due left st.base what is (wait_apart t u what named apart) has.base.1),
    ))
    (λ none. again_turn now t due left (take_due st.base) st.objects.clocks what come ((at, order), turn_taken t due left st.base what is (not_its t what (none t)) has.base.1))

-- ---- a tick

-- the wait is over, or its end isn't set any more
abbrev Came : ℕ → ℕ → Base → Type 0
Came t due b = (is_waiting b t ≡ false) ⊎ (limit_of t b.events ≡ Some due → ⊥)

none_before : (t due : ℕ) (b : Base) → Turn t due 0 b → Came t due b
none_before t due b (inl over) = inl over
none_before t due b (inr (inl none)) = inr (λ set. absurd (cc (none, set)))
none_before t due b (inr (inr set)) = let bound = set.1 in absurd (omega (arith, bound))

next_came : (left now t due : ℕ) (mode : Mode) (st : State) (what : Option DueKind) → due ≤ now → due_event st.base.time st.base.events ≡ what →
    TickHas (InTurn now t due (suc left)) AnyClocks (parts_of st) →
    ((later : State) → TickHas (InTurn now t due left) AnyClocks (parts_of later) → Came t due (due_done left mode later).base) → Came t due (next left mode st what).base
next_came left now t due mode st None come is has rest =
    let idle : due_event now st.base.events ≡ None = ap (λ at. due_event at st.base.events) (sym has.base.0.0.0) ∙ is in
    let later : AreLater now st.base.events = all_later now st.base.events has.base.0.1 (idle_if (is_due now st.base.events) now st.base.events refl idle) in
    inr (λ set. let after = limit_later now t due st.base.events later set in absurd (omega (arith, after, come)))
next_came left now t due mode st (Some what) come is has rest = rest (fallen mode (record st { base = take_due st.base }) what) (fallen_turn mode now t due left st what come is has)

came_by : (left now t due : ℕ) (mode : Mode) (st : State) → due ≤ now → TickHas (InTurn now t due left) AnyClocks (parts_of st) → Came t due (due_done left mode st).base
unfolding due_done
came_by zero now t due mode st come has = none_before t due st.base has.base.1
came_by (suc left) now t due mode st come has = next_came left now t due mode st (due_event st.base.time st.base.events) come refl has (λ later now_has. came_by left now t due mode later come now_has)

inside_if : (t due : ℕ) (first : DueEvent) (rest : List DueEvent) (here : Bool) → ends_wait_of t first ≡ here → limit_of t (first ∷ rest) ≡ Some due →
    (limit_of t rest ≡ Some due → ahead t rest + 1 ≤ length rest) → past here (ahead t rest) + 1 ≤ suc (length rest)
inside_if t due first rest true is limit more = omega arith
inside_if t due first rest false is limit more = let fewer = more (sym (limit_rest t first rest is) ∙ limit) in omega (arith, fewer)

ahead_inside : (t due : ℕ) (events : List DueEvent) → limit_of t events ≡ Some due → ahead t events + 1 ≤ length events
ahead_inside t due [] limit = absurd (cc limit)
ahead_inside t due (first ∷ rest) limit = inside_if t due first rest (ends_wait_of t first) refl limit (ahead_inside t due rest)

begins_turn : (t due : ℕ) (b c : Base) → AnyStage t due b c → Turn t due (length c.events) c
begins_turn t due b c (inl set) = inr (inr (set.0, ahead_inside t due c.events set.0))
begins_turn t due b c (inr (inl over)) = inl over.1
begins_turn t due b c (inr (inr moved)) = inr (inl moved.unlimited)

over_if_set : (t due : ℕ) (c : Base) → Came t due c → limit_of t c.events ≡ Some due → is_waiting c t ≡ false
over_if_set t due c (inl over) set = over
over_if_set t due c (inr gone) set = absurd (gone set)

over_at_last : (t due : ℕ) (b c : Base) → Came t due c → AnyStage t due b c → (is_waiting c t ≡ false) ⊎ HasMoved b c t
over_at_last t due b c came (inl is) = inl (over_if_set t due c came is.0)
over_at_last t due b c came (inr (inl over)) = inl over.1
over_at_last t due b c came (inr (inr moved)) = inr (has_moved t b c moved)

-- after a tick at its time a wait is over, or has moved
pub tick_over : (mode : Mode) (st : State) (t due : ℕ) (b : Base) → FewDevices (parts_of st) → AreInTimeOrder st.base.events → AnyStage t due b st.base → due ≤ st.base.time + 1 →
    (is_waiting (tick_state mode st).base t ≡ false) ⊎ HasMoved b (tick_state mode st).base t
tick_over mode st t due b few order has come =
    over_at_last t due b (tick_state mode st).base
    (came_by (length st.base.events) (st.base.time + 1) t due mode (record st { base = advance st.base }) come (record {
      base = (((refl, tt), order), nearer t due (length st.base.events) st.base (advance st.base) (record { limit = refl; phase = refl }) (λ limit. omega arith) (begins_turn t due b st.base has));
      few = few;
      clocks = tt;
    }))
    (tick_any_stage mode st t due b few has)

-- a tick ends each wait whose time has come, unless it moves meanwhile
pub tick_ends_or_moves : (mode : Mode) (st : State) (t due : ℕ) → FewDevices (parts_of st) → AreInTimeOrder st.base.events → limit_of t st.base.events ≡ Some due →
    due ≤ st.base.time + 1 →
    (is_waiting (tick_state mode st).base t ≡ false) ⊎ HasMoved st.base (tick_state mode st).base t
tick_ends_or_moves mode st t due few order limit come = tick_over mode st t due st.base few order (inl (limit, refl)) come

-- what wasn't for the acceptance of a request hasn't moved
pub not_moved : (t : ℕ) (b c : Base) → ((d : ℕ) → 1 ≤ d → d ≤ 8 → waits_for b (acceptance_object d) t ≡ false) → (is_waiting c t ≡ false) ⊎ HasMoved b c t → is_waiting c t ≡ false
not_moved t b c none (inl over) = over
not_moved t b c none (inr moved) =
    let accepts = moved.accepting.1.1.1 in
    let doesnt = none moved.accepting.0 moved.accepting.1.0 moved.accepting.1.1.0 in
    absurd (cc (accepts, doesnt))

-- and a wait for anything else ends
pub tick_ends : (mode : Mode) (st : State) (t due : ℕ) → FewDevices (parts_of st) → AreInTimeOrder st.base.events → limit_of t st.base.events ≡ Some due → due ≤ st.base.time + 1 →
    ((d : ℕ) → 1 ≤ d → d ≤ 8 → waits_for st.base (acceptance_object d) t ≡ false) → is_waiting (tick_state mode st).base t ≡ false
tick_ends mode st t due few order limit come none = not_moved t st.base (tick_state mode st).base none (tick_ends_or_moves mode st t due few order limit come)
