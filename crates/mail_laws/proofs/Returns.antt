-- A task that joined the waiters of an object and was released, alone or beside another one, goes on where it was.
use Rattle.std.proofs.Common.{◌≡◌, ℕ, suc, zero, ◌+◌, Bool, true, false, not, List, [], ◌∷◌, ◌++◌, map, Option, Some, None, refl, cond, ◌∙◌, ap, sym, ℤ, pos, negsuc, arith}
use Rattle.std.specs.Prelude.{filter, slice_set}
use Rattle.std.specs.Bool.{◌==◌}
use Rattle.std.specs.List.{find}
use Rattle.std.specs.Option.{option_map}
use Rattle.std.proofs.lemmas.List.Elements.{filter-append}
use Rattle.std.proofs.lemmas.Bool.Decides.{nat_tests}
use Rattle.tk_types.specs.declared.answer.Answer.{Answer}
use Rattle.tk_types.specs.declared.task.DueEvent.{DueEvent}
use Rattle.tk_types.specs.declared.task.Event.TheVariants.{Wait}
use Rattle.tk_types.specs.declared.task.Phase.TheVariants.{Ready, Waiting}
use Rattle.tk_types.specs.declared.task.Release.{Release}
use Rattle.tk_types.specs.declared.task.Task.{Task}
use Rattle.tk_types.specs.declared.task.Order.{Order}
use Rattle.tk_types.specs.declared.task.Order.TheVariants.{Fifo, Priority}
use Rattle.kernel_model.specs.SemFlags.Trial.{MayWait}
use Rattle.kernel_model.specs.Tasks.Base.{Base, back_unless_suspended, current, drop_wait, gone, is_waiting, is_waiting_phase, make_wait, queue, recorded, release, task_at, waiting_in, waits_for, waits_somewhere, with_task}
use Rattle.kernel_model.specs.Words.Events.{ends_wait_of, insert_event, without_wait}
use Rattle.kernel_model.specs.Words.Orders.{entry, sort_by, to_back, without}
use Rattle.kernel_lemmas.proofs.Tables.{entry_at, entry_other, entry_split, entry_there, itself}
use Rattle.kernel_lemmas.proofs.Queues.{fifo_wait_elsewhere, priority_wait_elsewhere}
use Rattle.kernel_lemmas.proofs.Releases.{release_others, release_over}
use Rattle.call_lemmas.proofs.Picks.{joined}
use Rattle.call_lemmas.proofs.Trial.{queue_joined, ready_for_none}
use Rattle.mail_laws.specs.Trial.{ended_in}
use Rattle.mail_laws.specs.BufferTrial.{place_kept, place_back, joins, goes_on, MayTry}
use Rattle.mail_laws.proofs.Backs.{dropped, rewritten}
use Rattle.mail_laws.proofs.Marks.{place_again, back_again, beside_unless, kept_last}

-- ---- releases and joins written out

ended : Base → ℕ → Task → Answer → Base
ended b u k result = record (with_task (drop_wait b u) u (record k { phase = Ready })) {
  order = back_unless_suspended u k.suspensions b.order;
  released = recorded u result b.released;
}

when : {A : Type 0} → (test : Bool) (x y : A) → test ≡ true → cond test x y ≡ x
when true x y is = refl
when false x y is = absurd (cc is)

release_is : (b : Base) (u : ℕ) (k : Task) (result : Answer) → task_at b u ≡ Some k → is_waiting_phase k.phase ≡ true → release b u result ≡ ended b u k result
unfolding ended
release_is b u k result at waits = entry_at (λ c. c ≡ ended b u k result) (task_at b u) k b _ at (when (is_waiting_phase k.phase) (ended b u k result) b waits)

waiting_row : Task → ℕ → Order → Task
waiting_row row object order = record row { phase = Waiting object; queue = order }

set_up : Base → ℕ → Task → ℕ → Order → List DueEvent → ℕ → Base
set_up b t row object order events made = record b {
  tasks = slice_set b.tasks t (Some (waiting_row row object order));
  order = place_kept t b.order;
  since = to_back t b.since;
  events = events;
  made = made;
  cur = gone t b.cur;
}

joined_as : (P : Base → Type 0) (b : Base) (t object : ℕ) (order : Order) (timeout : ℤ) (may : MayWait b t) →
    ((events : List DueEvent) (made : ℕ) → without_wait t events ≡ b.events → P (set_up b t may.row object order events made)) → P (joins b t object order timeout)
unfolding set_up waiting_row
joined_as P b t object order (pos n) may each =
    let event : DueEvent = record { time = b.time + n + 1; key = b.made; what = Wait t } in
    entry_at (λ c. P (record c { order = place_kept t b.order })) (task_at b t) may.row b _ may.there
    (each (insert_event event (without_wait t b.events)) (b.made + 1) (dropped t event (without_wait t b.events) (itself t) ∙ ap (without_wait t) may.unset ∙ may.unset))
joined_as P b t object order (negsuc n) may each =
    entry_at (λ c. P (record c { order = place_kept t b.order })) (task_at b t) may.row b _ may.there
    (each (without_wait t b.events) b.made (ap (without_wait t) may.unset ∙ may.unset))

-- ---- the parts of a base that change

abbrev with_parts : Base → List (Option Task) → List ℕ → List DueEvent → List Release → Base
with_parts b tasks order events released = record b { tasks = tasks; order = order; events = events; released = released }

same_parts : (b : Base) (tasks tasks' : List (Option Task)) (order order' : List ℕ) (events events' : List DueEvent) (released released' : List Release) →
    tasks ≡ tasks' → order ≡ order' → events ≡ events' → released ≡ released' → with_parts b tasks order events released ≡ with_parts b tasks' order' events' released'
same_parts b tasks tasks' order order' events events' released released' one two three four =
    ap (λ x. with_parts b x order events released) one
    ∙ ap (λ x. with_parts b tasks' x events released) two
    ∙ ap (λ x. with_parts b tasks' order' x released) three
    ∙ ap (λ x. with_parts b tasks' order' events' x) four

events_swap_if : (t u : ℕ) (event : DueEvent) (rest : List DueEvent) (first second : Bool) → ends_wait_of u event ≡ first → ends_wait_of t event ≡ second → without_wait t (without_wait u rest) ≡ without_wait u (without_wait t rest) →
    without_wait t (cond (not first) (event ∷ without_wait u rest) (without_wait u rest)) ≡ without_wait u (cond (not second) (event ∷ without_wait t rest) (without_wait t rest))
events_swap_if t u event rest true true one two more = more
events_swap_if t u event rest true false one two more = rw one more
events_swap_if t u event rest false true one two more = rw two more
events_swap_if t u event rest false false one two more = rw (one, two) (ap (λ events. event ∷ events) more)

events_swap : (t u : ℕ) (events : List DueEvent) → without_wait t (without_wait u events) ≡ without_wait u (without_wait t events)
events_swap t u [] = refl
events_swap t u (event ∷ rest) = events_swap_if t u event rest (ends_wait_of u event) (ends_wait_of t event) refl refl (events_swap t u rest)

-- ---- what was released

others : ℕ → List Release → List Release
others t released = filter (λ (r : Release). not (r.task == t)) released

own_alone : (t : ℕ) (result : Answer) → others t (recorded t result []) ≡ []
unfolding others
own_alone t result = let same : (t == t) ≡ true = itself t in rw same refl

own_behind : (t u : ℕ) (ru rt : Answer) → (u ≡ t → ⊥) → others t (recorded t rt (recorded u ru [])) ≡ recorded u ru []
unfolding others
own_behind t u ru rt apart =
    let same : (t == t) ≡ true = itself t in
    let other : (u == t) ≡ false = grind (arith, nat_tests, apart) in
    rw other (rw other (rw same refl))

own_before : (t u : ℕ) (ru rt : Answer) → (u ≡ t → ⊥) → others t (recorded u ru (recorded t rt [])) ≡ recorded u ru []
unfolding others
own_before t u ru rt apart =
    let same : (t == t) ≡ true = itself t in
    let other : (u == t) ≡ false = grind (arith, nat_tests, apart) in
    let back : (t == u) ≡ false = grind (arith, nat_tests, apart) in
    rw back (rw same (rw other refl))

-- ---- rows

beside_rows : (xs : List (Option Task)) (t u : ℕ) (first second third : Option Task) → (u ≡ t → ⊥) →
    slice_set (slice_set (slice_set (slice_set xs t first) u third) t second) t (entry xs t) ≡ slice_set xs u third
beside_rows [] t u first second third apart = refl
beside_rows (x ∷ xs) zero zero first second third apart = absurd (apart refl)
beside_rows (x ∷ xs) zero (suc u) first second third apart = refl
beside_rows (x ∷ xs) (suc t) zero first second third apart = ap (λ rest. third ∷ rest) (rewritten xs t first second)
beside_rows (x ∷ xs) (suc t) (suc u) first second third apart = ap (λ rest. x ∷ rest) (beside_rows xs t u first second third (λ e. apart (ap (λ n. suc n) e)))

before_rows : (xs : List (Option Task)) (t u : ℕ) (first second third : Option Task) → (u ≡ t → ⊥) →
    slice_set (slice_set (slice_set (slice_set xs t first) t second) u third) t (entry xs t) ≡ slice_set xs u third
before_rows [] t u first second third apart = refl
before_rows (x ∷ xs) zero zero first second third apart = absurd (apart refl)
before_rows (x ∷ xs) zero (suc u) first second third apart = refl
before_rows (x ∷ xs) (suc t) zero first second third apart = ap (λ rest. third ∷ rest) (rewritten xs t first second)
before_rows (x ∷ xs) (suc t) (suc u) first second third apart = ap (λ rest. x ∷ rest) (before_rows xs t u first second third (λ e. apart (ap (λ n. suc n) e)))

-- ---- 0 is no task

no_zero : (b : Base) (t : ℕ) → MayTry b t → t ≡ 0 → ⊥
no_zero b t try same = let none : None ≡ Some try.may.row = sym try.no_zero ∙ sym (ap (task_at b) same) ∙ try.may.there in absurd (cc none)

no_zero_row : (b : Base) (u : ℕ) (k : Task) → task_at b 0 ≡ None → task_at b u ≡ Some k → u ≡ 0 → ⊥
no_zero_row b u k none at same = let here : None ≡ Some k = sym none ∙ sym (ap (task_at b) same) ∙ at in absurd (cc here)

-- ---- alone

alone_in : (b : Base) (t object : ℕ) (order : Order) (result : Answer) (try : MayTry b t) (events : List DueEvent) (made : ℕ) → without_wait t events ≡ b.events →
    goes_on b (release (set_up b t try.may.row object order events made) t result) t ≡ b
unfolding set_up ended waiting_row others
alone_in b t object order result try events made set =
    let row : Task = waiting_row try.may.row object order in
    let c : Base = set_up b t try.may.row object order events made in
    let some = no_zero b t try in
    ap (λ c. goes_on b c t) (release_is c t row result (entry_there b.tasks t try.may.row (Some row) try.may.there) refl)
    ∙ same_parts b _ b.tasks _ b.order _ b.events _ b.released
    (rewritten b.tasks t (Some row) (Some (record row { phase = Ready })))
    (back_again t row.suspensions (place_kept t b.order) ∙ place_again t b.order some try.no_place)
    set
    (ap (λ released. others t (recorded t result released)) try.none_left ∙ own_alone t result ∙ sym try.none_left)

pub alone : (b : Base) (t object : ℕ) (order : Order) (timeout : ℤ) (result : Answer) → MayTry b t → goes_on b (release (joins b t object order timeout) t result) t ≡ b
alone b t object order timeout result try =
    joined_as (λ c. goes_on b (release c t result) t ≡ b) b t object order timeout try.may (alone_in b t object order result try)

-- ---- beside another one whose wait ends first

beside_in : (b : Base) (t u object : ℕ) (order : Order) (ru rt : Answer) (k : Task) (try : MayTry b t) → (u ≡ t → ⊥) → task_at b u ≡ Some k → is_waiting_phase k.phase ≡ true → (events : List DueEvent) (made : ℕ) → without_wait t events ≡ b.events →
    goes_on b (release (release (set_up b t try.may.row object order events made) u ru) t rt) t ≡ release b u ru
unfolding set_up ended waiting_row others
beside_in b t u object order ru rt k try apart at waits events made set =
    let row : Task = waiting_row try.may.row object order in
    let c : Base = set_up b t try.may.row object order events made in
    let third : Option Task = Some (record k { phase = Ready }) in
    let some = no_zero b t try in
    let c1 : Base = ended c u k ru in
    ap (λ c. goes_on b (release c t rt) t) (release_is c u k ru (entry_other b.tasks t u (Some row) apart ∙ at) waits)
    ∙ ap (λ c. goes_on b c t) (release_is c1 t row rt (entry_other c.tasks u t third (λ e. apart (sym e)) ∙ entry_there b.tasks t try.may.row (Some row) try.may.there) refl)
    ∙ same_parts b _ (slice_set b.tasks u third) _ (back_unless_suspended u k.suspensions b.order) _ (without_wait u b.events) _ (recorded u ru b.released)
    (beside_rows b.tasks t u (Some row) (Some (record row { phase = Ready })) third apart)
    (back_again t row.suspensions (back_unless_suspended u k.suspensions (place_kept t b.order)) ∙ beside_unless t u k.suspensions b.order some apart (no_zero_row b u k try.no_zero at) try.no_place)
    (events_swap t u events ∙ ap (without_wait u) set)
    (ap (λ released. others t (recorded t rt (recorded u ru released))) try.none_left ∙ own_behind t u ru rt apart ∙ sym (ap (recorded u ru) try.none_left))
    ∙ sym (release_is b u k ru at waits)

pub beside : (b : Base) (t u object : ℕ) (order : Order) (timeout : ℤ) (ru rt : Answer) (k : Task) → MayTry b t → (u ≡ t → ⊥) → task_at b u ≡ Some k → is_waiting_phase k.phase ≡ true →
    goes_on b (release (release (joins b t object order timeout) u ru) t rt) t ≡ release b u ru
beside b t u object order timeout ru rt k try apart at waits =
    joined_as (λ c. goes_on b (release (release c u ru) t rt) t ≡ release b u ru) b t object order timeout try.may (beside_in b t u object order ru rt k try apart at waits)

-- ---- before another one, whose wait ends next

before_in : (b : Base) (t u object : ℕ) (order : Order) (ru rt : Answer) (k : Task) (try : MayTry b t) → (u ≡ t → ⊥) → task_at b u ≡ Some k → is_waiting_phase k.phase ≡ true → (events : List DueEvent) (made : ℕ) → without_wait t events ≡ b.events →
    goes_on b (release (release (set_up b t try.may.row object order events made) t rt) u ru) t ≡ release b u ru
unfolding set_up ended waiting_row others
before_in b t u object order ru rt k try apart at waits events made set =
    let row : Task = waiting_row try.may.row object order in
    let c : Base = set_up b t try.may.row object order events made in
    let third : Option Task = Some (record k { phase = Ready }) in
    let second : Option Task = Some (record row { phase = Ready }) in
    let some = no_zero b t try in
    let c1 : Base = ended c t row rt in
    ap (λ c. goes_on b (release c u ru) t) (release_is c t row rt (entry_there b.tasks t try.may.row (Some row) try.may.there) refl)
    ∙ ap (λ c. goes_on b c t) (release_is c1 u k ru (entry_other c.tasks t u second apart ∙ entry_other b.tasks t u (Some row) apart ∙ at) waits)
    ∙ same_parts b _ (slice_set b.tasks u third) _ (back_unless_suspended u k.suspensions b.order) _ (without_wait u b.events) _ (recorded u ru b.released)
    (before_rows b.tasks t u (Some row) second third apart)
    (ap (λ order. place_back t (back_unless_suspended u k.suspensions order)) (kept_last t row.suspensions b.order some) ∙ beside_unless t u k.suspensions b.order some apart (no_zero_row b u k try.no_zero at) try.no_place)
    (ap (without_wait u) set)
    (ap (λ released. others t (recorded u ru (recorded t rt released))) try.none_left ∙ own_before t u ru rt apart ∙ sym (ap (recorded u ru) try.none_left))
    ∙ sym (release_is b u k ru at waits)

pub before : (b : Base) (t u object : ℕ) (order : Order) (timeout : ℤ) (ru rt : Answer) (k : Task) → MayTry b t → (u ≡ t → ⊥) → task_at b u ≡ Some k → is_waiting_phase k.phase ≡ true →
    goes_on b (release (release (joins b t object order timeout) t rt) u ru) t ≡ release b u ru
before b t u object order timeout ru rt k try apart at waits =
    joined_as (λ c. goes_on b (release (release c t rt) u ru) t ≡ release b u ru) b t object order timeout try.may (before_in b t u object order ru rt k try apart at waits)

-- ---- the answer of a call whose wait ended before another one's

find_own : (t u : ℕ) (ru rt : Answer) → (u ≡ t → ⊥) → find (λ (r : Release). r.task == t) (recorded u ru (recorded t rt [])) ≡ Some (record { task = t; answer = rt })
find_own t u ru rt apart =
    let same : (t == t) ≡ true = itself t in
    let back : (t == u) ≡ false = grind (arith, nat_tests, apart) in
    rw back (rw same refl)

released_is : (b : Base) (u : ℕ) (result : Answer) → is_waiting b u ≡ true → (release b u result).released ≡ recorded u result b.released
released_is b u result waits = entry_split (λ c. c.released ≡ recorded u result b.released) (task_at b u) b _
    (λ none. let idle = ap waits_somewhere none in absurd (cc (idle, waits)))
    (λ k at. ap (λ (c : Base). c.released) (when (is_waiting_phase k.phase) (record (with_task (drop_wait b u) u (record k { phase = Ready })) { order = back_unless_suspended u k.suspensions b.order; released = recorded u result b.released }) b
    (ap waits_somewhere (sym at) ∙ waits)))

pub answered_before : (b : Base) (t u : ℕ) (ru rt : Answer) → b.released ≡ [] → (u ≡ t → ⊥) → is_waiting b t ≡ true → is_waiting (release b t rt) u ≡ true → ended_in t (release (release b t rt) u ru) ≡ Some rt
answered_before b t u ru rt none apart waits other =
    let over : is_waiting (release (release b t rt) u ru) t ≡ false = ap waits_somewhere (release_others (release b t rt) u t ru (λ e. apart (sym e))) ∙ release_over b t rt in
    let all : (release (release b t rt) u ru).released ≡ recorded u ru (recorded t rt []) = released_is (release b t rt) u ru other ∙ ap (recorded u ru) (released_is b t rt waits ∙ ap (recorded t rt) none) in
    ap (λ on. cond on None (option_map (λ (r : Release). r.answer) (find (λ (r : Release). r.task == t) (release (release b t rt) u ru).released))) over
    ∙ ap (λ released. option_map (λ (r : Release). r.answer) (find (λ (r : Release). r.task == t) released)) all
    ∙ ap (option_map (λ (r : Release). r.answer)) (find_own t u ru rt apart)

-- ---- queues

filter_marked_if : (passes : ℕ → Bool) (t id : ℕ) (rest order : List ℕ) (test : Bool) → (id == t) ≡ test → passes 0 ≡ false → filter passes rest ≡ filter passes (without t order) →
    filter passes (cond test 0 id ∷ rest) ≡ filter passes (cond (not test) (id ∷ without t order) (without t order))
filter_marked_if passes t id rest order true is none more = ap (λ test. cond test (0 ∷ filter passes rest) (filter passes rest)) none ∙ more
filter_marked_if passes t id rest order false is none more = ap (λ kept. cond (passes id) (id ∷ kept) kept) more

filter_marked : (passes : ℕ → Bool) (t : ℕ) (order : List ℕ) → passes 0 ≡ false → filter passes (map (λ u. cond (u == t) 0 u) order) ≡ filter passes (without t order)
filter_marked passes t [] none = refl
filter_marked passes t (id ∷ order) none = filter_marked_if passes t id (map (λ u. cond (u == t) 0 u) order) order (id == t) refl none (filter_marked passes t order none)

zero_idle : (b : Base) (t object other : ℕ) (order : Order) (timeout : ℤ) → MayTry b t → waits_for (make_wait b t object order timeout) other 0 ≡ false
zero_idle b t object other order (pos n) try =
    let some = no_zero b t try in
    entry_at (λ c. waits_for c other 0 ≡ false) (task_at b t) try.may.row b _ try.may.there (ap (waiting_in other) (entry_other b.tasks t 0 _ (λ e. some (sym e)) ∙ try.no_zero))
zero_idle b t object other order (negsuc n) try =
    let some = no_zero b t try in
    entry_at (λ c. waits_for c other 0 ≡ false) (task_at b t) try.may.row b _ try.may.there (ap (waiting_in other) (entry_other b.tasks t 0 _ (λ e. some (sym e)) ∙ try.no_zero))

wait_order : (b : Base) (t object : ℕ) (order : Order) (timeout : ℤ) → MayWait b t → (make_wait b t object order timeout).order ≡ to_back t b.order
wait_order b t object order (pos n) may = entry_at (λ c. c.order ≡ to_back t b.order) (task_at b t) may.row b _ may.there refl
wait_order b t object order (negsuc n) may = entry_at (λ c. c.order ≡ to_back t b.order) (task_at b t) may.row b _ may.there refl

-- no queue knows that 0 keeps a place
pub queue_kept : (by : Order) (b : Base) (t object other : ℕ) (order : Order) (timeout : ℤ) → MayTry b t → queue by (joins b t object order timeout) other ≡ queue by (make_wait b t object order timeout) other
queue_kept Fifo b t object other order timeout try = refl
queue_kept Priority b t object other order timeout try =
    let c : Base = make_wait b t object order timeout in
    let passes : ℕ → Bool = waits_for c other in
    ap (λ ids. sort_by (current c) ids)
    (filter-append passes (map (λ u. cond (u == t) 0 u) b.order) (t ∷ [])
    ∙ ap (λ front. front ++ filter passes (t ∷ [])) (filter_marked passes t b.order (zero_idle b t object other order timeout try))
    ∙ sym (filter-append passes (without t b.order) (t ∷ []))
    ∙ ap (filter passes) (sym (wait_order b t object order timeout try.may)))

pub queue_elsewhere : (by : Order) (b : Base) (t object other : ℕ) (order : Order) (timeout : ℤ) → (other ≡ object → ⊥) → MayTry b t → queue by (joins b t object order timeout) other ≡ queue by b other
queue_elsewhere Fifo b t object other order timeout apart try = queue_kept Fifo b t object other order timeout try ∙ fifo_wait_elsewhere b t object other order timeout apart (ready_for_none b t other try.may)
queue_elsewhere Priority b t object other order timeout apart try = queue_kept Priority b t object other order timeout try ∙ priority_wait_elsewhere b t object other order timeout apart (ready_for_none b t other try.may)

pub queue_with : (b : Base) (t object : ℕ) (order : Order) (timeout : ℤ) → MayTry b t → queue order (joins b t object order timeout) object ≡ joined order (current b) t (queue order b object)
queue_with b t object order timeout try = queue_kept order b t object object order timeout try ∙ queue_joined order b t object order timeout try.may

-- joining releases nobody, and leaves every other task's row
pub joins_released : (b : Base) (t object : ℕ) (order : Order) (timeout : ℤ) → MayTry b t → (joins b t object order timeout).released ≡ []
unfolding set_up
joins_released b t object order timeout try = joined_as (λ c. c.released ≡ []) b t object order timeout try.may (λ events made set. try.none_left)

pub joins_others : (b : Base) (t u object : ℕ) (order : Order) (timeout : ℤ) → MayTry b t → (u ≡ t → ⊥) → task_at (joins b t object order timeout) u ≡ task_at b u
unfolding set_up
joins_others b t u object order timeout try apart =
    joined_as (λ c. task_at c u ≡ task_at b u) b t object order timeout try.may (λ events made set. entry_other b.tasks t u (Some (waiting_row try.may.row object order)) apart)
