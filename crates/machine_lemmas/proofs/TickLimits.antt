-- The limit of a task's wait, and what it waits for, through the moves that a tick makes.
use Rattle.std.proofs.Common.{◌≡◌, ℕ, ◌+◌, ◌<◌, Bool, true, false, not, List, [], ◌∷◌, Option, Some, None, refl, cond, ◌∙◌, ap, sym, arith}
use Rattle.std.specs.Prelude.{nat_le, nat_lt}
use Rattle.std.specs.List.{find}
use Rattle.std.specs.Option.{option_map}
use Rattle.std.proofs.lemmas.Bool.Decides.{nat_tests}
use Rattle.std.proofs.lemmas.List.Elements.{All-head, All-tail}
use Rattle.tk_types.specs.declared.answer.Answer.{Answer}
use Rattle.tk_types.specs.declared.task.DueEvent.{DueEvent}
use Rattle.tk_types.specs.declared.task.Event.{Event}
use Rattle.tk_types.specs.declared.task.Event.TheVariants.{Wait, Cyclic, Alarm}
use Rattle.tk_types.specs.declared.task.Order.{Order}
use Rattle.tk_types.specs.declared.task.Phase.{Phase}
use Rattle.tk_types.specs.declared.task.Phase.TheVariants.{Dormant, Ready, Waiting}
use Rattle.tk_types.specs.declared.task.Task.{Task}
use Rattle.kernel_model.specs.LawWords.TimeOrder.{AreLater}
use Rattle.kernel_model.specs.Words.Events.{due_event, ends_wait_of, insert_event, is_wait_of, left_after, limit_of, without_wait}
use Rattle.kernel_model.specs.Tasks.Base.{Base, is_waiting_phase, move_wait, release, set_current, task_at, waiting_in, waits_for, waits_in, waits_somewhere}
use Rattle.kernel_lemmas.proofs.Releases.{release_others}
use Rattle.kernel_lemmas.proofs.Tables.{entry_cases, entry_each, entry_other, entry_split, entry_there, itself}
use Rattle.context_model.specs.declared.cyclic_row.CyclicRow.{CyclicRow}
use Rattle.context_model.specs.Clocks.Tables.{Clocks, again, again_in, cyclic_at, is_event, starts, without_event}

-- ---- lists of events

-- the end of another wait, or the start of a handler, isn't the end of this one
pub not_its : (t : ℕ) (what : Event) → (what ≡ Wait t → ⊥) → is_wait_of t what ≡ false
not_its t (Wait other) apart = let differs : other ≡ t → ⊥ = λ e. apart (ap Wait e) in grind (arith, nat_tests, differs)
not_its t (Cyclic n) apart = refl
not_its t (Alarm n) apart = refl

-- the end of one task's wait isn't that of another one's
pub other_wait : (t u : ℕ) (what : Event) → (u ≡ t → ⊥) → is_wait_of u what ≡ true → is_wait_of t what ≡ false
other_wait t u (Wait other) apart is = grind (arith, nat_tests, apart, is)
other_wait t u (Cyclic n) apart is = refl
other_wait t u (Alarm n) apart is = refl

-- what isn't the end of the wait has no part in its limit
pub limit_rest : (t : ℕ) (first : DueEvent) (rest : List DueEvent) → ends_wait_of t first ≡ false → limit_of t (first ∷ rest) ≡ limit_of t rest
limit_rest t first rest is = ap (λ here. option_map (λ (event : DueEvent). event.time) (cond here (Some first) (find (ends_wait_of t) rest))) is

taken_if : (t : ℕ) (what : Event) (first : DueEvent) (rest : List DueEvent) (due : Bool) → cond due (Some first.what) None ≡ Some what → is_wait_of t what ≡ false →
    limit_of t (cond due rest (first ∷ rest)) ≡ limit_of t (first ∷ rest)
taken_if t what first rest true taken other = let same : first.what ≡ what = cc taken in sym (limit_rest t first rest (ap (is_wait_of t) same ∙ other))
taken_if t what first rest false taken other = absurd (cc taken)

-- where another event is taken, a wait's end stays set
pub taken_limit : (t now : ℕ) (events : List DueEvent) (what : Event) → due_event now events ≡ Some what → is_wait_of t what ≡ false →
    limit_of t (left_after now events) ≡ limit_of t events
taken_limit t now [] what taken other = refl
taken_limit t now (first ∷ rest) what taken other = taken_if t what first rest (nat_le first.time now) taken other

limit_first_if : (t : ℕ) (first : DueEvent) (kept rest : List DueEvent) (here : Bool) → limit_of t kept ≡ limit_of t rest →
    option_map (λ (event : DueEvent). event.time) (cond here (Some first) (find (ends_wait_of t) kept)) ≡ option_map (λ (event : DueEvent). event.time) (cond here (Some first) (find (ends_wait_of t) rest))
limit_first_if t first kept rest true same = refl
limit_first_if t first kept rest false same = same

-- an event that is left out, and isn't the end of this wait, leaves its limit
left_out : (t : ℕ) (first : DueEvent) (kept rest : List DueEvent) (out : Bool) → (out ≡ true → ends_wait_of t first ≡ false) → limit_of t kept ≡ limit_of t rest →
    limit_of t (cond (not out) (first ∷ kept) kept) ≡ limit_of t (first ∷ rest)
left_out t first kept rest true other same = same ∙ sym (limit_rest t first rest (other refl))
left_out t first kept rest false other same = limit_first_if t first kept rest (ends_wait_of t first) same

limit_without : (t u : ℕ) (events : List DueEvent) → (u ≡ t → ⊥) → limit_of t (without_wait u events) ≡ limit_of t events
limit_without t u [] apart = refl
limit_without t u (first ∷ rest) apart = left_out t first (without_wait u rest) rest (ends_wait_of u first) (other_wait t u first.what apart) (limit_without t u rest apart)

unset_if : (t u : ℕ) (first : DueEvent) (kept : List DueEvent) (test : Bool) → ends_wait_of t first ≡ test → limit_of t kept ≡ None → limit_of t (cond (not test) (first ∷ kept) kept) ≡ None
unset_if t u first kept true is none = none
unset_if t u first kept false is none = limit_rest t first kept is ∙ none

-- without the end of its wait a task has no limit
limit_unset : (t : ℕ) (events : List DueEvent) → limit_of t (without_wait t events) ≡ None
limit_unset t [] = refl
limit_unset t (first ∷ rest) = unset_if t t first (without_wait t rest) (ends_wait_of t first) refl (limit_unset t rest)

-- the start of a cyclic handler isn't the end of a wait
pub not_cyclic : (t id : ℕ) (what : Event) → is_event (Cyclic id) what ≡ true → is_wait_of t what ≡ false
not_cyclic t id (Wait u) is = absurd (cc is)
not_cyclic t id (Cyclic n) is = refl
not_cyclic t id (Alarm n) is = refl

-- a limit stays where a cyclic handler is no longer set
pub limit_without_cyclic : (t id : ℕ) (events : List DueEvent) → limit_of t (without_event (Cyclic id) events) ≡ limit_of t events
limit_without_cyclic t id [] = refl
limit_without_cyclic t id (first ∷ rest) = left_out t first (without_event (Cyclic id) rest) rest (starts (Cyclic id) first) (not_cyclic t id first.what) (limit_without_cyclic t id rest)

put_if : (t : ℕ) (event first : DueEvent) (rest inserted : List DueEvent) (before : Bool) → ends_wait_of t event ≡ false → limit_of t inserted ≡ limit_of t rest →
    limit_of t (cond before (event ∷ first ∷ rest) (first ∷ inserted)) ≡ limit_of t (first ∷ rest)
put_if t event first rest inserted true other same = limit_rest t event (first ∷ rest) other
put_if t event first rest inserted false other same = limit_first_if t first inserted rest (ends_wait_of t first) same

limit_inserted : (t : ℕ) (event : DueEvent) (events : List DueEvent) → ends_wait_of t event ≡ false → limit_of t (insert_event event events) ≡ limit_of t events
limit_inserted t event [] other = limit_rest t event [] other
limit_inserted t event (first ∷ rest) other = put_if t event first rest (insert_event event rest) (nat_lt event.time first.time) other (limit_inserted t event rest other)

limit_later_if : (now t due : ℕ) (first : DueEvent) (rest : List DueEvent) (here : Bool) → now < first.time →
    option_map (λ (event : DueEvent). event.time) (cond here (Some first) (find (ends_wait_of t) rest)) ≡ Some due → (limit_of t rest ≡ Some due → now < due) → now < due
limit_later_if now t due first rest true after limit more = let same : first.time ≡ due = cc limit in omega arith
limit_later_if now t due first rest false after limit more = more limit

-- where all that is set is later, each limit is
pub limit_later : (now t due : ℕ) (events : List DueEvent) → AreLater now events → limit_of t events ≡ Some due → now < due
limit_later now t due [] later limit = absurd (cc limit)
limit_later now t due (first ∷ rest) later limit = limit_later_if now t due first rest (ends_wait_of t first) (All-head (λ (event : DueEvent). now < event.time) first rest later) limit (limit_later now t due rest (All-tail (λ (event : DueEvent). now < event.time) first rest later))

-- ---- what a task does

-- what a task does: its phase, where it exists
abbrev pub phase_at : Base → ℕ → Option Phase
phase_at b t = option_map (λ (k : Task). k.phase) (task_at b t)

-- whether that is to wait for an object
abbrev pub phase_waits : ℕ → Option Phase → Bool
phase_waits object None = false
phase_waits object (Some phase) = waits_in object phase

-- and whether it is to wait for anything
abbrev pub waits_for_any : Option Phase → Bool
waits_for_any None = false
waits_for_any (Some phase) = is_waiting_phase phase

object_of_row : (object : ℕ) (o : Option Task) → waiting_in object o ≡ phase_waits object (option_map (λ (k : Task). k.phase) o)
object_of_row object None = refl
object_of_row object (Some k) = refl

any_of_row : (o : Option Task) → waits_somewhere o ≡ waits_for_any (option_map (λ (k : Task). k.phase) o)
any_of_row None = refl
any_of_row (Some k) = refl

-- whether a task waits for an object is told by what it does
pub object_of_phase : (b : Base) (object t : ℕ) → waits_for b object t ≡ phase_waits object (phase_at b t)
object_of_phase b object t = object_of_row object (task_at b t)

-- and so is whether it waits at all
pub any_of_phase : (b : Base) (t : ℕ) → waits_somewhere (task_at b t) ≡ waits_for_any (phase_at b t)
any_of_phase b t = any_of_row (task_at b t)

-- who waits for one object waits
pub waits_for_one : (object : ℕ) (phase : Option Phase) → phase_waits object phase ≡ true → waits_for_any phase ≡ true
waits_for_one object None waits = absurd (cc waits)
waits_for_one object (Some Ready) waits = absurd (cc waits)
waits_for_one object (Some Dormant) waits = absurd (cc waits)
waits_for_one object (Some (Waiting other)) waits = refl

-- ---- moves that leave both

-- the limit of a task's wait and what it does are as they were
pub record IsLeft (t : ℕ) (b c : Base) : Type 0 where
  pub limit : limit_of t c.events ≡ limit_of t b.events
  pub phase : phase_at c t ≡ phase_at b t

left_self : (t : ℕ) (b : Base) → IsLeft t b b
left_self t b = record { limit = refl; phase = refl }

left_if : (t : ℕ) (b c : Base) (test : Bool) → IsLeft t b c → IsLeft t b (cond test c b)
left_if t b c true same = same
left_if t b c false same = left_self t b

-- a changed priority
pub set_leaves : (t u priority : ℕ) (b : Base) → IsLeft t b (set_current b u priority)
set_leaves t u priority b = entry_cases (IsLeft t b) (task_at b u) b _ (left_self t b) (λ k at. record {
  limit = refl;
  phase = entry_each (λ v now. option_map (λ (k : Task). k.phase) now ≡ phase_at b v) b.tasks u (Some (record k { current = priority }))
      (ap (λ o. option_map (λ (k : Task). k.phase) o) (entry_there b.tasks u k (Some (record k { current = priority })) at) ∙ ap (λ o. option_map (λ (k : Task). k.phase) o) (sym at)) (λ v apart. refl) t;
})

released_limit : (t u : ℕ) (b : Base) (answer : Answer) → (u ≡ t → ⊥) → limit_of t (release b u answer).events ≡ limit_of t b.events
released_limit t u b answer apart = entry_cases (λ c. limit_of t c.events ≡ limit_of t b.events) (task_at b u) b _ refl
    (λ k at. either (is_waiting_phase k.phase) b _ (limit_without t u b.events apart))
  where
    either : (test : Bool) (b c : Base) → limit_of t c.events ≡ limit_of t b.events → limit_of t (cond test c b).events ≡ limit_of t b.events
    either true b c same = same
    either false b c same = refl

-- the end of another task's wait
pub release_leaves : (t u : ℕ) (b : Base) (answer : Answer) → (u ≡ t → ⊥) → IsLeft t b (release b u answer)
release_leaves t u b answer apart = record {
  limit = released_limit t u b answer apart;
  phase = ap (λ o. option_map (λ (k : Task). k.phase) o) (release_others b u t answer (λ same. apart (sym same)));
}

-- the move of another task's wait
pub move_leaves : (t u object : ℕ) (order : Order) (b : Base) → (u ≡ t → ⊥) → IsLeft t b (move_wait b u object order)
move_leaves t u object order b apart = entry_cases (IsLeft t b) (task_at b u) b _ (left_self t b) (λ k at. left_if t b _ (is_waiting_phase k.phase) (record {
  limit = limit_without t u b.events apart;
  phase = ap (λ o. option_map (λ (k : Task). k.phase) o) (entry_other b.tasks u t (Some (record k { phase = Waiting object; queue = order })) (λ same. apart (sym same)));
}))

again_leaves_in : (t id : ℕ) (b : Base) (slot : Option CyclicRow) → IsLeft t b (again_in b (Cyclic id) slot)
again_leaves_in t id b None = left_self t b
again_leaves_in t id b (Some k) = record {
  limit = limit_inserted t (record { time = b.time + k.period; key = b.made; what = Cyclic id }) (without_event (Cyclic id) b.events) refl ∙ limit_without_cyclic t id b.events;
  phase = refl;
}

-- a cyclic handler that is set again
pub again_leaves : (t : ℕ) (b : Base) (c : Clocks) (what : Event) → IsLeft t b (again b c what)
unfolding again
again_leaves t b c (Wait u) = left_self t b
again_leaves t b c (Cyclic id) = again_leaves_in t id b (cyclic_at c id)
again_leaves t b c (Alarm id) = left_self t b

-- ---- the move of its own wait

row_waits : (object from : ℕ) (o : Option Task) (k : Task) → o ≡ Some k → waiting_in from o ≡ true → is_waiting_phase k.phase ≡ true
row_waits object from o k at waits = waits_for_one from (Some k.phase) (ap (waiting_in from) (sym at) ∙ waits)

its_if : (P : Base → Type 0) (b c : Base) (waits : Bool) → waits ≡ true → P c → P (cond waits c b)
its_if P b c true is has = has
its_if P b c false is has = absurd (cc is)

-- a task whose wait moves waits for the other object
pub moved_waits : (t from object : ℕ) (order : Order) (b : Base) → waits_for b from t ≡ true → waits_for (move_wait b t object order) object t ≡ true
moved_waits t from object order b waits = entry_split (λ c. waits_for c object t ≡ true) (task_at b t) b _
    (λ none. let idle : waits_for b from t ≡ false = ap (waiting_in from) none in absurd (cc (idle, waits)))
    (λ k at. its_if (λ c. waits_for c object t ≡ true) b _ (is_waiting_phase k.phase) (row_waits object from (task_at b t) k at waits)
    (ap (waiting_in object) (entry_there b.tasks t k (Some (record k { phase = Waiting object; queue = order })) at) ∙ itself object))

-- without a limit
pub moved_unlimited : (t from object : ℕ) (order : Order) (b : Base) → waits_for b from t ≡ true → limit_of t (move_wait b t object order).events ≡ None
moved_unlimited t from object order b waits = entry_split (λ c. limit_of t c.events ≡ None) (task_at b t) b _
    (λ none. let idle : waits_for b from t ≡ false = ap (waiting_in from) none in absurd (cc (idle, waits)))
    (λ k at. its_if (λ c. limit_of t c.events ≡ None) b _ (is_waiting_phase k.phase) (row_waits object from (task_at b t) k at waits) (limit_unset t b.events))
