-- A tick ends the waits whose time has come, and leaves the others as they are, unless they are served, or move from the acceptance
-- of a request to its ending.
use Rattle.std.proofs.Common.{◌≡◌, ℕ, ◌+◌, ◌<◌, ◌≤◌, Bool, true, false, Option, Some, None, refl, ◌∙◌, ap, sym, subst, ◌⊎◌, inl, inr, arith}
use Rattle.std.specs.Bool.{◌==◌}
use Rattle.std.proofs.lemmas.Bool.Decides.{nat_tests}
use Rattle.tk_types.specs.declared.answer.Answer.{Answer}
use Rattle.tk_types.specs.declared.run.Mode.{Mode}
use Rattle.tk_types.specs.declared.task.Event.{Event as DueKind}
use Rattle.tk_types.specs.declared.task.Event.TheVariants.{Wait}
use Rattle.tk_types.specs.declared.task.Order.{Order}
use Rattle.tk_types.specs.declared.task.Phase.{Phase}
use Rattle.tk_types.specs.declared.task.Phase.TheVariants.{Dormant, Ready, Waiting}
use Rattle.kernel_model.specs.LawWords.TimeOrder.{ComesAfter}
use Rattle.kernel_model.specs.Words.Events.{due_event, is_wait_of, limit_of}
use Rattle.kernel_model.specs.Tasks.Base.{Base, advance, give_bytes, is_waiting, move_wait, release, take_due, waits_for}
use Rattle.kernel_lemmas.proofs.Releases.{release_over}
use Rattle.call_lemmas.proofs.TimeOuts.{taken_in_time}
use Rattle.context_model.specs.Clocks.Tables.{Clocks, again}
use Rattle.device_model.specs.Devices.Requests.{acceptance_object, ending_object}
use Rattle.machine_model.specs.States.State.{State, parts_of}
use Rattle.machine_model.specs.Events.Ticks.{limit_answer, tick_state}
use Rattle.machine_lemmas.specs.TickTimes.{HasMoved}
use Rattle.machine_lemmas.proofs.Servings.{FewDevices}
use Rattle.machine_lemmas.proofs.TickLimits.{IsLeft, again_leaves, any_of_phase, move_leaves, moved_unlimited, moved_waits, not_its, object_of_phase, phase_at, phase_waits, release_leaves, set_leaves, taken_limit, waits_for_any, waits_for_one}
use Rattle.machine_lemmas.proofs.TickWalk.{HasAt, IsSettleProof, Step, again_time, fallen_keeps, release_at, settling_at, tick_keeps}

-- ---- what may become of a wait

-- a wait for an object that is served
abbrev pub IsServable : Option Phase → Type 0
IsServable (Some (Waiting object)) = 64 ≤ object
IsServable _ = ⊥

servable : (object : ℕ) (phase : Option Phase) → phase_waits object phase ≡ true → 64 ≤ object → IsServable phase
servable object None waits above = absurd (cc waits)
servable object (Some Ready) waits above = absurd (cc waits)
servable object (Some Dormant) waits above = absurd (cc waits)
servable object (Some (Waiting other)) waits above = let same : other ≡ object = grind (arith, nat_tests, waits) in omega (arith, same, above)

-- none below 64 is
pub not_servable : (object : ℕ) (phase : Option Phase) → phase_waits object phase ≡ true → object < 64 → IsServable phase → ⊥
not_servable object None waits below served = absurd (cc waits)
not_servable object (Some Ready) waits below served = absurd (cc waits)
not_servable object (Some Dormant) waits below served = absurd (cc waits)
not_servable object (Some (Waiting other)) waits below served = let same : other ≡ object = grind (arith, nat_tests, waits) in let above : 64 ≤ other = served in absurd (omega (arith, same, above, below))

-- its limit is this one, and the task does what it did
abbrev pub IsSet : ℕ → Option ℕ → Option Phase → Base → Type 0
IsSet t set phase b = (limit_of t b.events ≡ set) × (phase_at b t ≡ phase)

-- it is over, for a reason
abbrev pub IsOver : Type 0 → ℕ → Base → Type 0
IsOver S t b = S × (is_waiting b t ≡ false)

-- it was for the acceptance of a request, and is for its ending now
pub record IsMoved (t : ℕ) (phase : Option Phase) (b : Base) : Type 0 where
  pub from : (d : ℕ) × ((1 ≤ d) × ((d ≤ 8) × (phase_waits (acceptance_object d) phase ≡ true)))
  pub to : (dd : ℕ) × (waits_for b (ending_object dd) t ≡ true)
  pub unlimited : limit_of t b.events ≡ None

-- one of these
abbrev pub Stage : Type 0 → ℕ → Option ℕ → Option Phase → Base → Type 0
Stage S t set phase b = IsSet t set phase b ⊎ (IsOver S t b ⊎ IsMoved t phase b)

-- ---- moves

-- such a move leaves whether the task waits
pub waiting_left : (t : ℕ) (b c : Base) → IsLeft t b c → is_waiting c t ≡ is_waiting b t
waiting_left t b c is = any_of_phase c t ∙ ap waits_for_any is.phase ∙ sym (any_of_phase b t)

object_left : (t object : ℕ) (b c : Base) → IsLeft t b c → waits_for c object t ≡ waits_for b object t
object_left t object b c is = object_of_phase c object t ∙ ap (phase_waits object) is.phase ∙ sym (object_of_phase b object t)

-- what leaves a wait and its limit leaves what became of it
left_stage : (S : Type 0) (t : ℕ) (set : Option ℕ) (phase : Option Phase) (b c : Base) → IsLeft t b c → Stage S t set phase b → Stage S t set phase c
left_stage S t set phase b c is (inl set_yet) = inl (is.limit ∙ set_yet.0, is.phase ∙ set_yet.1)
left_stage S t set phase b c is (inr (inl over)) = inr (inl (over.0, waiting_left t b c is ∙ over.1))
left_stage S t set phase b c is (inr (inr moved)) = inr (inr (record {
  from = moved.from;
  to = (moved.to.0, object_left t (ending_object moved.to.0) b c is ∙ moved.to.1);
  unlimited = is.limit ∙ moved.unlimited;
}))

release_stage_if : (S : Type 0) (t u : ℕ) (set : Option ℕ) (phase : Option Phase) (b : Base) (answer : Answer) (test : Bool) → (u == t) ≡ test → (u ≡ t → S) →
    ((u ≡ t → ⊥) → Stage S t set phase b) → Stage S t set phase (release b u answer)
release_stage_if S t u set phase b answer true test reason has =
    let same : u ≡ t = grind (arith, nat_tests, test) in
    inr (inl (reason same, subst (λ (v : ℕ). is_waiting (release b u answer) v ≡ false) same (release_over b u answer)))
release_stage_if S t u set phase b answer false test reason has =
    let apart : u ≡ t → ⊥ = λ same. grind (arith, nat_tests, test, same) in
    left_stage S t set phase b (release b u answer) (release_leaves t u b answer apart) (has apart)

-- the end of its own wait is its end, and the end of another one leaves it
release_stage : (S : Type 0) (t u : ℕ) (set : Option ℕ) (phase : Option Phase) (b : Base) (answer : Answer) → (u ≡ t → S) → ((u ≡ t → ⊥) → Stage S t set phase b) →
    Stage S t set phase (release b u answer)
release_stage S t u set phase b answer reason has = release_stage_if S t u set phase b answer (u == t) refl reason has

moved_servable : (t : ℕ) (phase : Option Phase) (b : Base) → IsMoved t phase b → IsServable phase
moved_servable t phase b moved = servable (acceptance_object moved.from.0) phase moved.from.1.1.1 (omega arith)

-- who is served waited for an object that is served
served_reason : (S : Type 0) (t u object : ℕ) (set : Option ℕ) (phase : Option Phase) (b : Base) → (IsServable phase → S) → 64 ≤ object → waits_for b object u ≡ true →
    Stage S t set phase b → u ≡ t → S
served_reason S t u object set phase b serves above waits (inl set_yet) same =
    let its : waits_for b object t ≡ true = subst (λ (v : ℕ). waits_for b object v ≡ true) same waits in
    serves (servable object phase (ap (phase_waits object) (sym set_yet.1) ∙ sym (object_of_phase b object t) ∙ its) above)
served_reason S t u object set phase b serves above waits (inr (inl over)) same = over.0
served_reason S t u object set phase b serves above waits (inr (inr moved)) same = serves (moved_servable t phase b moved)

its_move : (S : Type 0) (t d dd : ℕ) (order : Order) (set : Option ℕ) (phase : Option Phase) (b : Base) → 1 ≤ d → d ≤ 8 → waits_for b (acceptance_object d) t ≡ true →
    Stage S t set phase b →
    Stage S t set phase (move_wait b t (ending_object dd) order)
its_move S t d dd order set phase b least most waits (inl set_yet) = inr (inr (record {
  from = (d, (least, (most, ap (phase_waits (acceptance_object d)) (sym set_yet.1) ∙ sym (object_of_phase b (acceptance_object d) t) ∙ waits)));
  to = (dd, moved_waits t (acceptance_object d) (ending_object dd) order b waits);
  unlimited = moved_unlimited t (acceptance_object d) (ending_object dd) order b waits;
}))
its_move S t d dd order set phase b least most waits (inr (inl over)) =
    let any : is_waiting b t ≡ true = any_of_phase b t ∙ waits_for_one (acceptance_object d) (phase_at b t) (sym (object_of_phase b (acceptance_object d) t) ∙ waits) in
    let none : is_waiting b t ≡ false = over.1 in
    absurd (cc (any, none))
its_move S t d dd order set phase b least most waits (inr (inr moved)) = inr (inr (record {
  from = moved.from;
  to = (dd, moved_waits t (acceptance_object d) (ending_object dd) order b waits);
  unlimited = moved_unlimited t (acceptance_object d) (ending_object dd) order b waits;
}))

move_stage_if : (S : Type 0) (t u d dd : ℕ) (order : Order) (set : Option ℕ) (phase : Option Phase) (b : Base) (test : Bool) → (u == t) ≡ test → 1 ≤ d → d ≤ 8 →
    waits_for b (acceptance_object d) u ≡ true → Stage S t set phase b →
    Stage S t set phase (move_wait b u (ending_object dd) order)
move_stage_if S t u d dd order set phase b true test least most waits has =
    let same : t ≡ u = grind (arith, nat_tests, test) in
    let its : waits_for b (acceptance_object d) t ≡ true = subst (λ (v : ℕ). waits_for b (acceptance_object d) v ≡ true) (sym same) waits in
    subst (λ (v : ℕ). Stage S t set phase (move_wait b v (ending_object dd) order)) same (its_move S t d dd order set phase b least most its has)
move_stage_if S t u d dd order set phase b false test least most waits has =
    left_stage S t set phase b (move_wait b u (ending_object dd) order) (move_leaves t u (ending_object dd) order b (λ same. grind (arith, nat_tests, test, same))) has

-- ---- settling

-- any clocks, and any events
abbrev AnyClocks : Clocks → Type 0
AnyClocks c = Unit {0}

abbrev At : ℕ → Base → Type 0
At now = HasAt now (λ events. Unit {0})

-- the time is this one, and this became of the wait
abbrev Staged : ℕ → Type 0 → ℕ → Option ℕ → Option Phase → Base → Type 0
Staged now S t set phase b = At now b × Stage S t set phase b

at_settles : (now : ℕ) → IsSettleProof (At now)
at_settles now = settling_at now (λ events. Unit {0}) (λ passes events has. tt)

stage_settles : (now : ℕ) (S : Type 0) (t : ℕ) (set : Option ℕ) (phase : Option Phase) → (IsServable phase → S) → IsSettleProof (Staged now S t set phase)
stage_settles now S t set phase serves = record {
  survives = record {
    released = λ b u object answer above waits has. (
      (at_settles now).survives.released b u object answer above waits has.0,
      release_stage S t u set phase b answer (served_reason S t u object set phase b serves above waits has.1) (λ apart. has.1),
    );
    moved = λ b u d dd least most moves waits has. (
      (at_settles now).survives.moved b u d dd least most moves waits has.0,
      move_stage_if S t u d dd _ set phase b (u == t) refl least most waits has.1,
    );
    given = λ b n has. ((at_settles now).survives.given b n has.0, left_stage S t set phase b (give_bytes b n) (record { limit = refl; phase = refl }) has.1);
  };
  refreshed = λ b u priority has. ((at_settles now).refreshed b u priority has.0, left_stage S t set phase b _ (set_leaves t u priority b) has.1);
}

-- ---- events that fall due

-- another event that is taken leaves the wait
taken_stage : (S : Type 0) (t : ℕ) (set : Option ℕ) (phase : Option Phase) (b : Base) (what : DueKind) → due_event b.time b.events ≡ Some what → is_wait_of t what ≡ false →
    Stage S t set phase b → Stage S t set phase (take_due b)
taken_stage S t set phase b what is other has = left_stage S t set phase b (take_due b) (record { limit = taken_limit t b.time b.events what is other; phase = refl }) has

-- where its own end is taken that is the reason of its end
abbrev pub Ends : Type 0 → ℕ → ℕ → Option ℕ → Type 0
Ends S now t set = (b : Base) → b.time ≡ now → limit_of t b.events ≡ set → due_event b.time b.events ≡ Some (Wait t) → S

ended_reason : (S : Type 0) (now t u : ℕ) (set : Option ℕ) (phase : Option Phase) (b : Base) (what : DueKind) → (IsServable phase → S) → Ends S now t set →
    due_event b.time b.events ≡ Some what → what ≡ Wait u → Staged now S t set phase b → u ≡ t → S
ended_reason S now t u set phase b what serves ends is named (at, inl set_yet) same = ends b at.0 set_yet.0 (is ∙ ap (λ w. Some w) (named ∙ ap Wait same))
ended_reason S now t u set phase b what serves ends is named (at, inr (inl over)) same = over.0
ended_reason S now t u set phase b what serves ends is named (at, inr (inr moved)) same = serves (moved_servable t phase b moved)

wait_apart : (t u : ℕ) (what : DueKind) → what ≡ Wait u → (u ≡ t → ⊥) → is_wait_of t what ≡ false
wait_apart t u what named apart =
    let other : (u == t) ≡ false = grind (arith, nat_tests, apart) in
    ap (is_wait_of t) named ∙ other

stage_step : (mode : Mode) (now : ℕ) (S : Type 0) (t : ℕ) (set : Option ℕ) (phase : Option Phase) → (IsServable phase → S) → Ends S now t set →
    Step (Staged now S t set phase) AnyClocks mode
stage_step mode now S t set phase serves ends st what is has =
    let taken : At now (take_due st.base) = has.base.0 in
    fallen_keeps (Staged now S t set phase) AnyClocks (stage_settles now S t set phase serves) mode st what has.few tt
    (λ u named. (
      release_at now (λ events. Unit {0}) (λ passes events any. tt) (take_due st.base) u (limit_answer (take_due st.base) u) taken,
      release_stage S t u set phase (take_due st.base) (limit_answer (take_due st.base) u) (ended_reason S now t u set phase st.base what serves ends is named has.base)
          (λ apart. taken_stage S t set phase st.base what is (wait_apart t u what named apart) has.base.1),
    ))
    (λ none. (
      (again_time (take_due st.base) st.objects.clocks what ∙ taken.0, tt),
      left_stage S t set phase (take_due st.base) (again (take_due st.base) st.objects.clocks what) (again_leaves t (take_due st.base) st.objects.clocks what)
          (taken_stage S t set phase st.base what is (not_its t what (none t)) has.base.1),
    ))

-- ---- a tick

-- what a tick makes of a wait
pub tick_stage : (mode : Mode) (st : State) (S : Type 0) (t : ℕ) (set : Option ℕ) (phase : Option Phase) → FewDevices (parts_of st) → (IsServable phase → S) →
    Ends S (st.base.time + 1) t set → Stage S t set phase st.base →
    Stage S t set phase (tick_state mode st).base
tick_stage mode st S t set phase few serves ends has =
    (tick_keeps (Staged (st.base.time + 1) S t set phase) AnyClocks mode (stage_step mode (st.base.time + 1) S t set phase serves ends) st few tt
    ((refl, tt), left_stage S t set phase st.base (advance st.base) (record { limit = refl; phase = refl }) has)).base.1

-- with a tick the time is one more
pub tick_time : (mode : Mode) (st : State) → FewDevices (parts_of st) → (tick_state mode st).base.time ≡ st.base.time + 1
tick_time mode st few =
    (tick_keeps (Staged (st.base.time + 1) (Unit {0}) 0 (limit_of 0 st.base.events) (phase_at st.base 0)) AnyClocks mode
    (stage_step mode (st.base.time + 1) (Unit {0}) 0 (limit_of 0 st.base.events) (phase_at st.base 0) (λ is. tt) (λ b at limit due. tt)) st few tt ((refl, tt), inl (refl, refl))).base.0.0

-- before its time the end of a wait isn't taken
pub too_early : (now t : ℕ) (set : Option ℕ) (S : Type 0) → ComesAfter now set → Ends S now t set
too_early now t set S early b at limit due =
    absurd (taken_in_time t now b.events (subst (λ (it : Option ℕ). ComesAfter now it) (sym limit) early) (ap (λ time. due_event time b.events) (sym at) ∙ due))

-- ---- a wait whose time hasn't come

after_tick : (mode : Mode) (st : State) (t : ℕ) → FewDevices (parts_of st) → ComesAfter (st.base.time + 1) (limit_of t st.base.events) →
    Stage (IsServable (phase_at st.base t)) t (limit_of t st.base.events) (phase_at st.base t) (tick_state mode st).base
after_tick mode st t few early =
    tick_stage mode st (IsServable (phase_at st.base t)) t (limit_of t st.base.events) (phase_at st.base t) few (λ is. is)
    (too_early (st.base.time + 1) t (limit_of t st.base.events) (IsServable (phase_at st.base t)) early) (inl (refl, refl))

unserved : (object t : ℕ) (set : Option ℕ) (phase : Option Phase) (b : Base) → phase_waits object phase ≡ true → object < 64 → Stage (IsServable phase) t set phase b → IsSet t set phase b
unserved object t set phase b waits below (inl is) = is
unserved object t set phase b waits below (inr (inl over)) = absurd (not_servable object phase waits below over.0)
unserved object t set phase b waits below (inr (inr moved)) = absurd (not_servable object phase waits below (moved_servable t phase b moved))

still : (mode : Mode) (st : State) (t object : ℕ) → FewDevices (parts_of st) → waits_for st.base object t ≡ true → object < 64 →
    ComesAfter (st.base.time + 1) (limit_of t st.base.events) →
    IsSet t (limit_of t st.base.events) (phase_at st.base t) (tick_state mode st).base
still mode st t object few waits below early =
    unserved object t (limit_of t st.base.events) (phase_at st.base t) (tick_state mode st).base (sym (object_of_phase st.base object t) ∙ waits) below (after_tick mode st t few early)

-- a tick that comes before the end of a wait that nothing serves leaves it set, and sets none
pub tick_leaves_set : (mode : Mode) (st : State) (t object : ℕ) → FewDevices (parts_of st) → waits_for st.base object t ≡ true → object < 64 →
    ComesAfter (st.base.time + 1) (limit_of t st.base.events) →
    limit_of t (tick_state mode st).base.events ≡ limit_of t st.base.events
tick_leaves_set mode st t object few waits below early = (still mode st t object few waits below early).0

-- and leaves its task waiting
pub tick_leaves_waiting : (mode : Mode) (st : State) (t object : ℕ) → FewDevices (parts_of st) → waits_for st.base object t ≡ true → object < 64 →
    ComesAfter (st.base.time + 1) (limit_of t st.base.events) →
    waits_for (tick_state mode st).base object t ≡ true
tick_leaves_waiting mode st t object few waits below early =
    object_of_phase (tick_state mode st).base object t ∙ ap (phase_waits object) (still mode st t object few waits below early).1 ∙ sym (object_of_phase st.base object t) ∙ waits

-- what moved from a phase moved from a base with that phase
pub has_moved : (t : ℕ) (b c : Base) → IsMoved t (phase_at b t) c → HasMoved b c t
has_moved t b c moved = record {
  accepting = (moved.from.0, (moved.from.1.0, (moved.from.1.1.0, object_of_phase b (acceptance_object moved.from.0) t ∙ moved.from.1.1.1)));
  ending = moved.to;
  unlimited = moved.unlimited;
}

left_or_over : (S : Type 0) (t : ℕ) (set : Option ℕ) (b c : Base) → Stage S t set (phase_at b t) c →
    ((limit_of t c.events ≡ set) × (is_waiting c t ≡ is_waiting b t)) ⊎ ((is_waiting c t ≡ false) ⊎ HasMoved b c t)
left_or_over S t set b c (inl is) = inl (is.0, any_of_phase c t ∙ ap waits_for_any is.1 ∙ sym (any_of_phase b t))
left_or_over S t set b c (inr (inl over)) = inr (inl over.1)
left_or_over S t set b c (inr (inr moved)) = inr (inr (has_moved t b c moved))

-- whatever a task waits for, a tick that comes before the end of its wait leaves it so, or the task is served, or its wait moves
pub tick_leaves_or_serves : (mode : Mode) (st : State) (t : ℕ) → FewDevices (parts_of st) → ComesAfter (st.base.time + 1) (limit_of t st.base.events) →
    ((limit_of t (tick_state mode st).base.events ≡ limit_of t st.base.events) × (is_waiting (tick_state mode st).base t ≡ is_waiting st.base t))
    ⊎ ((is_waiting (tick_state mode st).base t ≡ false) ⊎ HasMoved st.base (tick_state mode st).base t)
tick_leaves_or_serves mode st t few early = left_or_over (IsServable (phase_at st.base t)) t (limit_of t st.base.events) st.base (tick_state mode st).base (after_tick mode st t few early)

-- ---- a wait whose time has come

-- whatever ends it, what became of a wait
abbrev pub AnyStage : ℕ → ℕ → Base → Base → Type 0
AnyStage t due b c = Stage (Unit {0}) t (Some due) (phase_at b t) c

-- through any tick a wait's end stays set, or the wait is over, or has moved
pub tick_any_stage : (mode : Mode) (st : State) (t due : ℕ) (b : Base) → FewDevices (parts_of st) → AnyStage t due b st.base → AnyStage t due b (tick_state mode st).base
tick_any_stage mode st t due b few has = tick_stage mode st (Unit {0}) t (Some due) (phase_at b t) few (λ is. tt) (λ c at limit taken. tt) has
