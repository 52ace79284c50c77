-- A call that locks a mutex does what the paragraph says, with all that settles after it.
use Rattle.std.proofs.Common.{◌≡◌, ℕ, zero, suc, ◌≤◌, Bool, true, false, cond, List, [], ◌∷◌, Option, Some, None, refl, ◌∙◌, ap, sym, ℤ, pos, negsuc, arith}
use Rattle.std.specs.Bool.{◌==◌}
use Rattle.std.specs.List.{find}
use Rattle.std.specs.Option.{option_map, option_map_or}
use Rattle.std.specs.Ordering.{int_eq}
use Rattle.std.proofs.lemmas.Bool.Decides.{nat_tests}
use Rattle.tk_types.specs.declared.answer.Answer.{Answer}
use Rattle.tk_types.specs.declared.answer.Outcome.TheVariants.{Blocked, Returned}
use Rattle.tk_types.specs.declared.error_code.Er.TheVariants as er
use Rattle.tk_types.specs.declared.run.Mode.{Mode}
use Rattle.tk_types.specs.declared.task.Order.{Order}
use Rattle.tk_types.specs.declared.task.Order.TheVariants.{Fifo, Priority}
use Rattle.tk_types.specs.declared.task.Phase.TheVariants.{Waiting}
use Rattle.tk_types.specs.declared.task.Release.{Release}
use Rattle.tk_types.specs.declared.task.Task.{Task}
use Rattle.kernel_model.specs.SemFlags.Trial.{MayWait}
use Rattle.kernel_model.specs.Tasks.Base.{Base, current, is_waiting, make_wait, queue, release, set_current, task_at, waiting_in, waits_for, waits_somewhere}
use Rattle.kernel_model.specs.Tasks.Waits.{HavePlaces}
use Rattle.kernel_model.specs.Words.Checks.{failed, plain}
use Rattle.kernel_model.specs.Words.Orders.{entry, without}
use Rattle.kernel_lemmas.proofs.Queues.{fifo_current, priority_elsewhere, queue_release}
use Rattle.kernel_lemmas.proofs.Tables.{entry_at, entry_cases, entry_inside, entry_other, entry_there, itself}
use Rattle.call_lemmas.proofs.Picks.{joined}
use Rattle.call_lemmas.proofs.Serving.{waits_for_waits}
use Rattle.call_lemmas.proofs.Trial.{joined_waits, ready_for_none}
use Rattle.object_model.specs.declared.mutexes.Mutex.{Mutex}
use Rattle.object_model.specs.Mutexes.Calls.{MutexDone, table_changed, waited_for_mutex, waits_or_ends}
use Rattle.object_model.specs.Mutexes.Priority.{current_of, refresh}
use Rattle.object_model.specs.Mutexes.Tables.{MutexParts, Mutexes, locked, mutex_at, mutex_object, mutex_waiters, owner_in, serve_mutex, serve_mutex_at, serve_mutex_of, serve_mutexes}
use Rattle.mail_laws.specs.BufferTrial.{MayTry, joins as joins_queue}
use Rattle.mail_laws.specs.Trial.{ended_in}
use Rattle.mail_laws.proofs.Backs.{answered, one_joined}
use Rattle.mail_laws.proofs.Returns.{queue_elsewhere, queue_kept, queue_with}
use Rattle.mutex_laws.proofs.Alike.{IsLike, like_itself}
use Rattle.machine_model.specs.Events.Settle.{handed, served_within, settle}
use Rattle.machine_model.specs.States.Objects.{Parts, kinds, mail_parts, pool_parts, serve_object, with_mutexes}
use Rattle.machine_lemmas.proofs.HandingServes.{AllKinds, mapped_none}
use Rattle.machine_lemmas.proofs.Settling.{settled_none}
use Rattle.table_lemmas.specs.Short.{AreShort}
use Rattle.table_lemmas.proofs.ReachedShort.{AllShort}
use Rattle.paragraph_laws.specs.Kept.{IsSound, after_kept, goes_back, joins_kept, kept_paragraph, mutex_waits, settled_after}
use Rattle.paragraph_laws.specs.Paragraph.{IsSettled, WaitDone, joins, over_or_waits}
use Rattle.paragraph_laws.proofs.Joined.{AwayFrom, queue_rejoined}
use Rattle.paragraph_laws.proofs.Lending.{lock_lends, no_waiters, nobody_awaits, resettled_one}
use Rattle.paragraph_laws.proofs.Locking.{idle_next, joined_fresh, served_current, served_like, served_row, served_tasks, some_caller, stamped_back}
use Rattle.paragraph_laws.proofs.OneKind.{NoneBut, NoneOf, boxes_beside, buffers_beside, devices_beside, fixed_beside, none_of, only_kind, sem_flags_beside, variable_beside}
use Rattle.paragraph_laws.proofs.Settled.{given_still, may_try, refreshed_none, served_none, served_once}
use Rattle.paragraph_laws.proofs.Still.{SameQueue, mutex_still}
use Rattle.paragraph_laws.proofs.StillWaits.{settled_waits}
use Rattle.paragraph_laws.proofs.Tables.{alone_serves, none_serves, stands_none}

-- ---- a mutex that somebody owns

-- what has settled settles to itself
settled_still : (mode : Mode) (p : Parts) → IsSettled mode p → settle mode p ≡ p
settled_still mode p is = settled_none mode p is.up_to_date is.unserved is.given

joined_for : (b : Base) (t object : ℕ) (order : Order) (timeout : ℤ) → MayTry b t → waits_for (make_wait b t object order timeout) object t ≡ true
joined_for b t object order (pos n) try =
    entry_at (λ c. waits_for c object t ≡ true) (task_at b t) try.may.row b _ try.may.there
    (ap (waiting_in object) (entry_there b.tasks t try.may.row (Some (record try.may.row { phase = Waiting object; queue = order })) try.may.there) ∙ itself object)
joined_for b t object order (negsuc n) try =
    entry_at (λ c. waits_for c object t ≡ true) (task_at b t) try.may.row b _ try.may.there
    (ap (waiting_in object) (entry_there b.tasks t try.may.row (Some (record try.may.row { phase = Waiting object; queue = order })) try.may.there) ∙ itself object)

all_short : (p : Parts) → AreShort p.objects → AllShort p
all_short p is = record {
  sem_flags = record { sems = is.sems; flags = is.flags };
  mutexes = is.mutexes;
  mails = record { boxes = is.boxes; buffers = is.buffers };
  pools = record { fixed = is.fixed; variable = is.variable };
}

still_waits : (old settled : Parts) (t : ℕ) (ended : Option Answer) (over : WaitDone) (waits : Bool) → waits ≡ true → option_map_or (goes_back old settled t) (cond waits None ended) over ≡ over
still_waits old settled t ended over true is = refl
still_waits old settled t ended over false is = absurd (cc is)

over_if : (mode : Mode) (p : Parts) (t id : ℕ) (order : Order) (timeout : ℤ) (at_once : Bool) → settle mode p ≡ p →
    settled_after mode (mutex_waits p (cond {A = MutexDone} at_once (record { base = p.base; table = p.objects.mutexes; outcome = failed er.TmOut })
    (record { base = make_wait p.base t (mutex_object id) order timeout; table = p.objects.mutexes; outcome = Blocked })))
    ≡ cond {A = WaitDone} at_once (record { parts = p; outcome = failed er.TmOut })
    (record { parts = settle mode (joins p t (mutex_object id) order timeout p.objects); outcome = Blocked })
over_if mode p t id order timeout true still = ap (λ parts. record { parts = parts; outcome = failed er.TmOut }) still
over_if mode p t id order timeout false still = refl

owned_case : (mode : Mode) (p : Parts) (t id : ℕ) (timeout : ℤ) (k : Mutex) → IsSettled mode p → IsSound p → MayTry p.base t → 1 ≤ id → id ≤ 64 → mutex_at p.objects.mutexes id ≡ Some k →
    (k.owner ≡ 0 → ⊥) →
    settled_after mode (mutex_waits p (waits_or_ends p.base p.objects.mutexes t id k.order timeout))
    ≡ after_kept p t timeout (settle mode (joins_kept p t (mutex_object id) k.order timeout p.objects)) (settle mode (joins p t (mutex_object id) k.order timeout p.objects))
owned_case mode p t id timeout k settled sound try one most at owned =
    let kept : Parts = joins_kept p t (mutex_object id) k.order timeout p.objects in
    let plainly : Parts = settle mode (joins p t (mutex_object id) k.order timeout p.objects) in
    let waits : waits_for (settle mode kept).base (mutex_object id) t ≡ true =
    settled_waits t id mode kept sound.links (all_short kept settled.short) one most (joined_for p.base t (mutex_object id) k.order timeout try) (λ none. owned (ap owner_in (sym at) ∙ none)) in
    over_if mode p t id k.order timeout (int_eq timeout (pos 0)) (settled_still mode p settled)
    ∙ sym (still_waits p (settle mode kept) t _ (over_or_waits p plainly timeout) (is_waiting (settle mode kept).base t) (waits_for_waits (settle mode kept).base t (mutex_object id) waits))

-- ---- mutexes alone

-- parts with another base and other mutexes
abbrev mutexes_to : Parts → Base → Mutexes → Parts
mutexes_to p c m = record p { base = c; objects = record p.objects { mutexes = m } }

-- once a task has joined the waiters of a mutex, or was served by one, other kinds serve nobody
but_mutexes : (p : Parts) (c : Base) (m : Mutexes) (id : ℕ) → AreShort p.objects → 1 ≤ id → id ≤ 64 → AwayFrom p.base c (mutex_object id) → NoneOf p → NoneBut 2 kinds (mutexes_to p c m)
unfolding NoneBut AllKinds
but_mutexes p c m id short one most away none =
    let q : Parts = mutexes_to p c m in
    let devices = devices_beside p c p.objects.mails (mutex_object id) away (omega (arith, most)) none in (
      mapped_none _ _ (sem_flags_beside p c (mutex_object id) short away (λ other least low e. omega (arith, one, low, e)) (λ other least low e. omega (arith, one, low, e)) none),
      (
        mapped_none _ _ (boxes_beside p (mail_parts q) (mutex_object id) refl short away (λ other least low e. omega (arith, one, low, e)) none),
        (
          mapped_none _ _ (buffers_beside p (mail_parts q) (mutex_object id) refl refl short away (λ other least low e. omega (arith, most, least, e)) (λ other least low e. omega (arith, most, least, e)) none),
          (
            mapped_none _ _ (fixed_beside p (pool_parts q) (mutex_object id) refl short away (λ other least low e. omega (arith, most, least, e)) none),
            (
              mapped_none _ _ (variable_beside p (pool_parts q) (mutex_object id) refl refl short away (λ other least low e. omega (arith, most, least, e)) none),
              (mapped_none _ _ devices.0, (mapped_none _ _ devices.1.0, (mapped_none _ _ devices.1.1.0, (mapped_none _ _ devices.1.1.1, tt)))),
            ),
          ),
        ),
      ),
    )

-- so what is served first is what the mutexes serve
mutexes_first : (p : Parts) (c : Base) (m : Mutexes) (id : ℕ) → AreShort p.objects → 1 ≤ id → id ≤ 64 → AwayFrom p.base c (mutex_object id) → NoneOf p →
    serve_object (mutexes_to p c m) ≡ option_map (with_mutexes (mutexes_to p c m)) (serve_mutexes c m)
unfolding serve_object
mutexes_first p c m id short one most away none = only_kind 2 kinds (mutexes_to p c m) (but_mutexes p c m id short one most away none)

each_mutex : (b : Base) (m : Mutexes) (id : ℕ) → 1 ≤ id → serve_mutexes b m ≡ None → (slot : Option Mutex) → mutex_at m id ≡ slot → serve_mutex b m id ≡ None
unfolding serve_mutexes serve_mutex
each_mutex b m id one none None at = ap (serve_mutex_at b m id) at
each_mutex b m id one none (Some k) at = stands_none (serve_mutex b m) id m.table k one at none

-- and what they serve is what the caller's mutex does
mutex_alone : (b c : Base) (m : Mutexes) (id : ℕ) (k : Mutex) → 1 ≤ id → mutex_at m id ≡ Some k → AwayFrom b c (mutex_object id) → serve_mutexes b m ≡ None → serve_mutexes c m ≡ serve_mutex c m id
unfolding serve_mutexes
mutex_alone b c m id k one at away none =
    alone_serves (serve_mutex c m) id m.table k one at
    (λ other in_it apart. mutex_still b c m other (away (mutex_object other) (λ e. apart (omega (arith, e)))) (each_mutex b m other in_it.0 none (mutex_at m other) refl))

-- once it is owned no mutex serves anybody
waiters_none : (b c : Base) (m n : Mutexes) (id : ℕ) (k : Mutex) (waiters : List ℕ) → serve_mutex_of b m id k waiters ≡ None → serve_mutex_of c n id k waiters ≡ None
waiters_none b c m n id k [] is = refl
waiters_none b c m n id k (t ∷ rest) is = absurd (cc is)

free_if : (free : Bool) (one other : Option MutexParts) → (one ≡ None → other ≡ None) → cond free one None ≡ None → cond free other None ≡ None
free_if true one other by is = by is
free_if false one other by is = refl

slot_none : (b c : Base) (m n : Mutexes) (id : ℕ) (slot : Option Mutex) → SameQueue b c (mutex_object id) → serve_mutex_at b m id slot ≡ None → serve_mutex_at c n id slot ≡ None
slot_none b c m n id None queues is = refl
slot_none b c m n id (Some k) queues is =
    ap (λ waiters. cond (k.owner == 0) (serve_mutex_of c n id k waiters) None) (queues k.order)
    ∙ free_if (k.owner == 0) (serve_mutex_of b m id k (mutex_waiters b k id)) (serve_mutex_of c n id k (mutex_waiters b k id)) (waiters_none b c m n id k (mutex_waiters b k id)) is

owned_none : (c : Base) (n : Mutexes) (id : ℕ) (k : Mutex) (served : Option MutexParts) (free : Bool) → free ≡ false → cond free served None ≡ None
owned_none c n id k served true is = absurd (cc is)
owned_none c n id k served false is = refl

locked_if : (b c : Base) (m : Mutexes) (id other t : ℕ) (k : Mutex) (same : Bool) → (other == id) ≡ same → mutex_at m id ≡ Some k → 1 ≤ t → SameQueue b c (mutex_object other) →
    serve_mutex b m other ≡ None → serve_mutex c (locked m id k t) other ≡ None
unfolding serve_mutex
locked_if b c m id other t k true is at one queues none =
    let e : other ≡ id = grind (arith, nat_tests, is) in
    let now : Mutex = record k { owner = t } in
    ap (λ slot. serve_mutex_at c (locked m id k t) other slot) (ap (mutex_at (locked m id k t)) e ∙ entry_there m.table id k (Some now) at)
    ∙ owned_none c (locked m id k t) other now (serve_mutex_of c (locked m id k t) other now (mutex_waiters c now other)) (t == 0) (grind (arith, nat_tests, one))
locked_if b c m id other t k false is at one queues none =
    let apart : other ≡ id → ⊥ = λ e. grind (arith, nat_tests, is, e) in
    ap (λ slot. serve_mutex_at c (locked m id k t) other slot) (entry_other m.table id other (Some (record k { owner = t })) apart)
    ∙ slot_none b c m (locked m id k t) other (mutex_at m other) queues none

locked_none : (b c : Base) (m : Mutexes) (id t : ℕ) (k : Mutex) → mutex_at m id ≡ Some k → 1 ≤ t → ((object : ℕ) → SameQueue b c object) → serve_mutexes b m ≡ None →
    serve_mutexes c (locked m id k t) ≡ None
unfolding serve_mutexes
locked_none b c m id t k at one queues none =
    none_serves (serve_mutex c (locked m id k t)) (locked m id k t).table
    (λ other in_it. locked_if b c m id other t k (other == id) refl at one (queues (mutex_object other)) (each_mutex b m other in_it.0 none (mutex_at m other) refl))

-- ---- the queues

-- a current priority of a task that waits for nothing is in no queue's way
refreshed_queue : (b : Base) (m : Mutexes) (t : ℕ) → ((object : ℕ) → waits_for b object t ≡ false) → (object : ℕ) → SameQueue b (refresh m b t) object
refreshed_queue b m t idle object by = by_test (current b t == current_of b m t) by
  where
    by_test : (same : Bool) (by : Order) → queue by (cond same b (set_current b t (current_of b m t))) object ≡ queue by b object
    by_test true by = refl
    by_test false Fifo = fifo_current b t (current_of b m t) object
    by_test false Priority = priority_elsewhere b t (current_of b m t) object (idle object)

-- once a task that joined was served, while 0 kept its place, every queue is as before
kept_rejoined : (b : Base) (t object : ℕ) (order : Order) (timeout : ℤ) (answer : Answer) → MayTry b t → (other : ℕ) → SameQueue b (release (joins_queue b t object order timeout) t answer) other
kept_rejoined b t object order timeout answer try other by =
    queue_release by (joins_queue b t object order timeout) t other answer
    ∙ ap (without t) (queue_kept by b t object other order timeout try)
    ∙ sym (queue_release by (make_wait b t object order timeout) t other answer)
    ∙ queue_rejoined b t object order timeout answer try.may other by

-- ---- a mutex that nobody owns

cond_true : {A : Type 0} → (test : Bool) (x y : A) → test ≡ true → cond test x y ≡ x
cond_true true x y is = refl
cond_true false x y is = absurd (cc is)

-- the caller alone waits, and gets it
own_served : (p : Parts) (t id : ℕ) (timeout : ℤ) (k : Mutex) → MayTry p.base t → mutex_at p.objects.mutexes id ≡ Some k → k.owner ≡ 0 → serve_mutex p.base p.objects.mutexes id ≡ None →
    let c : Base = joins_queue p.base t (mutex_object id) k.order timeout in
    serve_mutex c p.objects.mutexes id ≡ Some (record { base = release c t (plain (pos 0)); table = locked p.objects.mutexes id k t })
unfolding serve_mutex
own_served p t id timeout k try at free none =
    let c : Base = joins_queue p.base t (mutex_object id) k.order timeout in
    ap (serve_mutex_at c p.objects.mutexes id) at
    ∙ cond_true (k.owner == 0) (serve_mutex_of c p.objects.mutexes id k (mutex_waiters c k id)) None (grind (arith, nat_tests, free))
    ∙ ap (serve_mutex_of c p.objects.mutexes id k)
    (queue_with p.base t (mutex_object id) k.order timeout try
    ∙ ap (joined k.order (current p.base) t) (no_waiters p.base p.objects.mutexes id k at free none)
    ∙ one_joined k.order (current p.base) t)

-- what a call that gets its mutex rests on
record IsFreeCall (mode : Mode) (p : Parts) (t id : ℕ) (k : Mutex) : Type 0 where
  settled : IsSettled mode p
  try : MayTry p.base t
  places : HavePlaces p.base
  first_none : mutex_at p.objects.mutexes 0 ≡ None
  least : 1 ≤ id
  most : id ≤ 64
  at : mutex_at p.objects.mutexes id ≡ Some k
  free : k.owner ≡ 0
  some : 1 ≤ t

-- every other task's priority is that of its definition once the mutex is locked
others_fresh : (mode : Mode) (p : Parts) (t id : ℕ) (k : Mutex) (c : Base) → IsFreeCall mode p t id k → IsLike p.base c → ((u : ℕ) → current c u ≡ current p.base u) →
    (u : ℕ) → 1 ≤ u → (u ≡ t → ⊥) → current c u ≡ current_of c (locked p.objects.mutexes id k t) u
others_fresh mode p t id k c is like same u one apart =
    let none = each_mutex p.base p.objects.mutexes id is.least (none_of p is.settled.unserved).mutexes (Some k) is.at in
    same u
    ∙ is.settled.up_to_date.each u one
    ∙ sym (lock_lends p.base c p.objects.mutexes id t u k like is.at is.free is.try.no_zero (idle_next p.base p.objects.mutexes t is.try.may is.first_none)
    (nobody_awaits p.base p.objects.mutexes id k is.at is.free none is.places is.least) apart one)

-- nobody can be served once the caller owns it and its priority was taken over
unserved_then : (mode : Mode) (p : Parts) (t id : ℕ) (k : Mutex) (c : Base) → IsFreeCall mode p t id k → ((object : ℕ) → SameQueue p.base c object) →
    serve_object (mutexes_to p c (locked p.objects.mutexes id k t)) ≡ None
unserved_then mode p t id k c is queues =
    let none = none_of p is.settled.unserved in
    let n : Mutexes = locked p.objects.mutexes id k t in
    mutexes_first p c n id is.settled.short is.least is.most (λ other apart. queues other) none
    ∙ ap (option_map (with_mutexes (mutexes_to p c n))) (locked_none p.base c p.objects.mutexes id t k is.at is.some queues none.mutexes)

-- what settling comes to where the caller has the mutex at once
gone_settles : (mode : Mode) (p : Parts) (t id : ℕ) (k : Mutex) → IsFreeCall mode p t id k →
    let n : Mutexes = locked p.objects.mutexes id k t in
    settle mode (mutexes_to p p.base n) ≡ mutexes_to p (refresh n p.base t) n
unfolding settle
gone_settles mode p t id k is =
    let n : Mutexes = locked p.objects.mutexes id k t in
    let queues : (object : ℕ) → SameQueue p.base (refresh n p.base t) object = refreshed_queue p.base n t (λ object. ready_for_none p.base t object is.try.may) in
    ap (λ base. handed mode (served_within 512 (mutexes_to p base n)))
    (resettled_one p.base n t is.try.may.row is.try.may.there is.some (others_fresh mode p t id k p.base is (like_itself p.base) (λ u. refl)))
    ∙ ap (handed mode) (served_none 512 (mutexes_to p (refresh n p.base t) n) (unserved_then mode p t id k (refresh n p.base t) is queues))
    ∙ given_still mode p (mutexes_to p (refresh n p.base t) n) refl (queues 648) is.settled.given

-- and where it has joined
kept_settles : (mode : Mode) (p : Parts) (t id : ℕ) (timeout : ℤ) (k : Mutex) → IsFreeCall mode p t id k →
    let n : Mutexes = locked p.objects.mutexes id k t in
    let q : Base = release (joins_queue p.base t (mutex_object id) k.order timeout) t (plain (pos 0)) in
    settle mode (joins_kept p t (mutex_object id) k.order timeout p.objects) ≡ mutexes_to p (refresh n q t) n
unfolding settle
kept_settles mode p t id timeout k is =
    let m : Mutexes = p.objects.mutexes in
    let n : Mutexes = locked m id k t in
    let c : Base = joins_queue p.base t (mutex_object id) k.order timeout in
    let q : Base = release c t (plain (pos 0)) in
    let now : Parts = joins_kept p t (mutex_object id) k.order timeout p.objects in
    let none = none_of p is.settled.unserved in
    let own = each_mutex p.base m id is.least none.mutexes (Some k) is.at in
    let away : AwayFrom p.base c (mutex_object id) = λ other apart by. queue_elsewhere by p.base t (mutex_object id) other k.order timeout apart is.try in
    let first : serve_object now ≡ Some (mutexes_to p q n) =
    mutexes_first p c m id is.settled.short is.least is.most away none
    ∙ ap (option_map (with_mutexes now)) (mutex_alone p.base c m id k is.least is.at away none.mutexes ∙ own_served p t id timeout k is.try is.at is.free own) in
    let written = served_tasks p.base t (mutex_object id) k.order timeout (plain (pos 0)) is.try in
    let row : Task = served_row is.try.may.row (mutex_object id) k.order in
    let there : task_at q t ≡ Some row = ap (λ tasks. entry tasks t) written ∙ entry_there p.base.tasks t is.try.may.row (Some row) is.try.may.there in
    let idle : (object : ℕ) → waits_for q object t ≡ false = λ object. ap (waiting_in object) there in
    let queues : (object : ℕ) → SameQueue p.base (refresh n q t) object =
    λ object by. refreshed_queue q n t idle object by ∙ kept_rejoined p.base t (mutex_object id) k.order timeout (plain (pos 0)) is.try object by in
    let up = joined_fresh p.base m t id k.order timeout k is.try is.at is.free is.first_none is.least is.most is.settled.up_to_date in
    ap (λ parts. handed mode (served_within 512 parts)) (refreshed_none now up)
    ∙ ap (handed mode) (served_once 511 now (mutexes_to p q n) first)
    ∙ ap (λ base. handed mode (served_within 511 (mutexes_to p base n)))
    (resettled_one q n t row there is.some
    (others_fresh mode p t id k q is (served_like p.base q t (mutex_object id) k.order is.try.may written) (served_current p.base q t (mutex_object id) k.order is.try.may written)))
    ∙ ap (handed mode) (served_none 511 (mutexes_to p (refresh n q t) n) (unserved_then mode p t id k (refresh n q t) is queues))
    ∙ given_still mode p (mutexes_to p (refresh n q t) n) refl (queues 648) is.settled.given

-- the answer of its call is kept
refreshed_ended : (b : Base) (m : Mutexes) (t : ℕ) → ended_in t (refresh m b t) ≡ ended_in t b
refreshed_ended b m t = by_test (current b t == current_of b m t)
  where
    by_test : (same : Bool) → ended_in t (cond same b (set_current b t (current_of b m t))) ≡ ended_in t b
    by_test true = refl
    by_test false =
        let n : ℕ = current_of b m t in
        entry_cases (λ c. ended_in t c ≡ ended_in t b) (task_at b t) b _ refl
        (λ k at. ap (λ (slot : Option Task). cond (waits_somewhere slot) None (option_map (λ (r : Release). r.answer) (find (λ (r : Release). r.task == t) b.released)))
        (entry_there b.tasks t k (Some (record k { current = n })) at)
        ∙ ap (λ (slot : Option Task). cond (waits_somewhere slot) None (option_map (λ (r : Release). r.answer) (find (λ (r : Release). r.task == t) b.released))) (sym at))

free_case : (mode : Mode) (p : Parts) (t id : ℕ) (timeout : ℤ) (k : Mutex) (plainly : Parts) → IsFreeCall mode p t id k →
    settled_after mode (mutex_waits p (table_changed p.base (locked p.objects.mutexes id k t) (pos 0)))
    ≡ after_kept p t timeout (settle mode (joins_kept p t (mutex_object id) k.order timeout p.objects)) plainly
free_case mode p t id timeout k plainly is =
    let n : Mutexes = locked p.objects.mutexes id k t in
    let c : Base = joins_queue p.base t (mutex_object id) k.order timeout in
    let answer : Answer = plain (pos 0) in
    let q : Base = release c t answer in
    let last : Parts = mutexes_to p (refresh n q t) n in
    ap (λ parts. record { parts = parts; outcome = Returned answer }) (gone_settles mode p t id k is)
    ∙ sym (ap (λ kept. after_kept p t timeout kept plainly) (kept_settles mode p t id timeout k is)
    ∙ ap (λ found. option_map_or (goes_back p last t) found (over_or_waits p plainly timeout))
    (refreshed_ended q n t ∙ answered c t answer (joined_waits p.base t (mutex_object id) k.order timeout is.try.may))
    ∙ ap (λ base. record { parts = mutexes_to p base n; outcome = Returned answer }) (stamped_back p.base n t (mutex_object id) k.order timeout answer is.try))

-- ---- the call

one_of_some : (t : ℕ) → (t ≡ 0 → ⊥) → 1 ≤ t
one_of_some zero some = absurd (some refl)
one_of_some (suc t) some = omega arith

lock_if : (mode : Mode) (p : Parts) (t id : ℕ) (timeout : ℤ) (k : Mutex) (free : Bool) → (k.owner == 0) ≡ free → IsSettled mode p → IsSound p → MayTry p.base t → 1 ≤ id → id ≤ 64 → mutex_at p.objects.mutexes id ≡ Some k → 1 ≤ t →
    settled_after mode (mutex_waits p (cond free (table_changed p.base (locked p.objects.mutexes id k t) (pos 0)) (waits_or_ends p.base p.objects.mutexes t id k.order timeout)))
    ≡ after_kept p t timeout (settle mode (joins_kept p t (mutex_object id) k.order timeout p.objects)) (settle mode (joins p t (mutex_object id) k.order timeout p.objects))
lock_if mode p t id timeout k true is settled sound try one most at some =
    free_case mode p t id timeout k (settle mode (joins p t (mutex_object id) k.order timeout p.objects)) (record {
      settled = settled;
      try = try;
      places = sound.places;
      first_none = sound.no_mutex;
      least = one;
      most = most;
      at = at;
      free = grind (arith, nat_tests, is);
      some = some;
    })
lock_if mode p t id timeout k false is settled sound try one most at some =
    owned_case mode p t id timeout k settled sound try one most at (λ free. grind (arith, nat_tests, is, free))

-- a call for a mutex, with all that settles after it, does what the paragraph says
pub lock_call_is_paragraph : (mode : Mode) (p : Parts) (t id : ℕ) (timeout : ℤ) (k : Mutex) → IsSettled mode p → IsSound p → MayWait p.base t → 1 ≤ id → mutex_at p.objects.mutexes id ≡ Some k →
    settled_after mode (mutex_waits p (waited_for_mutex p.base p.objects.mutexes t id timeout (Some k))) ≡
    kept_paragraph mode p t (mutex_object id) k.order timeout p.objects
unfolding kept_paragraph
lock_call_is_paragraph mode p t id timeout k settled sound may one at =
    let try = may_try p t sound may in
    let few = settled.short.mutexes in
    let stands = entry_inside p.objects.mutexes.table id k at in
    let some = some_caller p.base t try in
    lock_if mode p t id timeout k (k.owner == 0) refl settled sound try one (omega (arith, few, stands)) at (one_of_some t some)
