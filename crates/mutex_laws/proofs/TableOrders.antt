-- What a table of mutexes keeps, through calls, servings and freeings.
use Rattle.std.proofs.Common.{◌≡◌, ℕ, suc, zero, ◌+◌, ◌≤◌, ◌<◌, ◌⊎◌, inl, inr, Bool, true, false, not, List, [], ◌∷◌, length, Option, Some, None, option_map, refl, cond, ◌∙◌, ap, sym, subst, ℤ, pos, arith}
use Rattle.std.specs.Prelude.{drop, is_some, replicate, slice_set}
use Rattle.std.specs.Bool.{◌==◌}
use Rattle.std.specs.List.{last_or}
use Rattle.std.specs.Ordering.{int_eq}
use Rattle.std.proofs.lemmas.Bool.Decides.{nat_tests}
use Rattle.tk_types.specs.declared.answer.Outcome.TheVariants.{Blocked}
use Rattle.tk_types.specs.declared.answer.Who.{Who}
use Rattle.tk_types.specs.declared.answer.Who.TheVariants as whos
use Rattle.tk_types.specs.declared.calls.MutexCall.{MutexCall}
use Rattle.tk_types.specs.declared.calls.MutexCall.TheVariants as call
use Rattle.tk_types.specs.declared.error_code.Er.TheVariants as er
use Rattle.tk_types.specs.declared.task.Flags.{Flags}
use Rattle.tk_types.specs.declared.task.Order.{Order}
use Rattle.tk_types.specs.declared.task.Task.{Task}
use Rattle.kernel_model.specs.declared.marks.Mark.TheVariants.{MayWait}
use Rattle.kernel_model.specs.LawWords.Once.{times, AreBelow, IsOnce}
use Rattle.kernel_model.specs.SemFlags.Calls.{object_checks}
use Rattle.kernel_model.specs.Tasks.Base.{Base, make_wait, task_at, waiting_in, waits_for}
use Rattle.kernel_model.specs.Tasks.Calls.{caller}
use Rattle.kernel_model.specs.Tasks.Marks.{allows}
use Rattle.kernel_model.specs.Words.Checks.{Check, failed, first_error, natural}
use Rattle.kernel_model.specs.Words.Orders.{entry, free_from, to_back, without}
use Rattle.call_lemmas.proofs.Checked.{holds_at}
use Rattle.kernel_lemmas.proofs.Once.{once_back, once_filter, room_below, times_append, times_filter, times_without}
use Rattle.kernel_lemmas.proofs.ReadyLists.{times_filter_is}
use Rattle.kernel_lemmas.proofs.Tables.{entry_inside, entry_other, entry_same, itself}
use Rattle.object_model.specs.declared.mutexes.Mutex.{Mutex}
use Rattle.object_model.specs.Mutexes.Calls as Calls
use Rattle.object_model.specs.Mutexes.Calls.{MutexDone, create_mutex, delete_mutex, deleted, lock_mutex, mutex_call, mutex_checked, new_mutex, refer_mutex, table_changed, unlock_mutex, waited_for_mutex, waits_or_ends}
use Rattle.object_model.specs.Mutexes.Tables.{MutexParts, Mutexes, free_last, freed, has_mutex, held, locked, mutex_at, mutex_object, mutexes_start, owner_in, owner_of, serve_mutex, with_mutex}
use Rattle.mutex_laws.specs.Owners.{IsServed}
use Rattle.mutex_laws.specs.Tables.{AreInOrder, IsCaller}
use Rattle.mutex_laws.proofs.Freed.{EndsWith, ends_by, last_stands}
use Rattle.mutex_laws.proofs.Refusals.{mutex_cases}
use Rattle.mutex_laws.proofs.Serving.{first_waits, row_locked, serving_is}

-- ---- words on lists

length_set : {A : Type 0} → (xs : List A) (i : ℕ) (x : A) → length (slice_set xs i x) ≡ length xs
length_set [] i x = refl
length_set (y ∷ xs) zero x = refl
length_set (y ∷ xs) (suc i) x = ap (λ n. suc n) (length_set xs i x)

kept_times : (n id : ℕ) (ids : List ℕ) (same : Bool) → (n == id) ≡ same → (n ≡ id → ⊥) → cond (not same) (times n ids) 0 ≡ times n ids
kept_times n id ids true at apart = absurd (apart (grind (arith, nat_tests, at)))
kept_times n id ids false at apart = refl

-- the others stand as often as before where one is taken out, or goes to the back
times_left : (n id : ℕ) (ids : List ℕ) → (n ≡ id → ⊥) → times n (without id ids) ≡ times n ids
times_left n id ids apart = times_filter_is (λ other. not (other == id)) n ids ∙ kept_times n id ids (n == id) refl apart

behind_none : (n id : ℕ) (same : Bool) → (id == n) ≡ same → (n ≡ id → ⊥) → ◌≡◌ {A = ℕ} (cond same 1 0 + 0) 0
behind_none n id true at apart = absurd (apart (grind (arith, nat_tests, at)))
behind_none n id false at apart = refl

times_back : (n id : ℕ) (ids : List ℕ) → (n ≡ id → ⊥) → times n (to_back id ids) ≡ times n ids
times_back n id ids apart =
    let both : times n (to_back id ids) ≡ times n (without id ids) + (cond (id == n) 1 0 + 0) = times_append n (without id ids) (id ∷ []) in
    let left = times_left n id ids apart in
    let none = behind_none n id (id == n) refl apart in
    omega (arith, both, left, none)

back_stands : (id : ℕ) (ids : List ℕ) → 1 ≤ times id (to_back id ids)
back_stands id ids =
    let both : times id (to_back id ids) ≡ times id (without id ids) + (cond (id == id) 1 0 + 0) = times_append id (without id ids) (id ∷ []) in
    let here : cond (id == id) 1 0 + 0 ≡ 1 + 0 = ap (λ (test : Bool). cond test 1 0 + 0) (itself id) in
    omega (arith, both, here)

-- ---- a slot and the locks are written

abbrev written : Mutexes → ℕ → Option Mutex → List ℕ → Mutexes
written m id slot locks = record m { table = slice_set m.table id slot; locks = locks }

by_slot : (P : ℕ → Type 0) (id other : ℕ) (same : Bool) → (other == id) ≡ same → P id → ((other ≡ id → ⊥) → P other) → P other
by_slot P id other true at here there = let e : id ≡ other = grind (arith, nat_tests, at) in subst P e here
by_slot P id other false at here there = there (λ e. grind (arith, nat_tests, at, e))

owner_there : (m : Mutexes) (id other : ℕ) (slot : Option Mutex) (locks : List ℕ) → (other ≡ id → ⊥) → owner_of (written m id slot locks) other ≡ owner_of m other
owner_there m id other slot locks apart = ap owner_in (entry_other m.table id other slot apart)

in_order : (m : Mutexes) (id : ℕ) (slot : Option Mutex) (locks : List ℕ) → AreInOrder m → (id ≡ 0 → ⊥) → IsOnce locks → owner_in slot < 256 →
    ((owner_of (written m id slot locks) id ≡ 0 → ⊥) → 1 ≤ times id locks) → (1 ≤ times id locks → owner_of (written m id slot locks) id ≡ 0 → ⊥) →
    ((other : ℕ) → (other ≡ id → ⊥) → times other locks ≡ times other m.locks) → AreInOrder (written m id slot locks)
in_order m id slot locks is some once low owned only others = record {
  slots = length_set m.table id slot ∙ is.slots;
  no_zero = entry_other m.table id 0 slot (λ e. some (sym e)) ∙ is.no_zero;
  once = once;
  owned = λ other. by_slot (λ n. (owner_of (written m id slot locks) n ≡ 0 → ⊥) → 1 ≤ times n locks) id other (other == id) refl owned
      (λ apart has. let stands = is.owned other (λ none. has (owner_there m id other slot locks apart ∙ none)) in let same = others other apart in omega (arith, stands, same));
  locked = λ other. by_slot (λ n. 1 ≤ times n locks → owner_of (written m id slot locks) n ≡ 0 → ⊥) id other (other == id) refl only
      (λ apart stands none. let same = others other apart in is.locked other (omega (arith, stands, same)) (sym (owner_there m id other slot locks apart) ∙ none));
  owners = λ other. by_slot (λ n. owner_of (written m id slot locks) n < 256) id other (other == id) refl (entry_same (λ o. owner_in o < 256) m.table id slot low (omega arith))
      (λ apart. subst (λ (n : ℕ). n < 256) (sym (owner_there m id other slot locks apart)) (is.owners other));
}

-- ---- the moves

-- a mutex that exists isn't mutex 0
not_zero : (m : Mutexes) (id : ℕ) (k : Mutex) → AreInOrder m → mutex_at m id ≡ Some k → id ≡ 0 → ⊥
not_zero m id k is at same = let none = is.no_zero in let there : mutex_at m 0 ≡ Some k = ap (mutex_at m) (sym same) ∙ at in cc (none, there)

pub locked_in_order : (m : Mutexes) (id t : ℕ) (k : Mutex) → AreInOrder m → mutex_at m id ≡ Some k → 1 ≤ t → t < 256 → AreInOrder (locked m id k t)
locked_in_order m id t k is at one low =
    let owner : owner_of (locked m id k t) id ≡ t = ap owner_in (row_locked m id t k at) in
    in_order m id (Some (record k { owner = t })) (to_back id m.locks) is (not_zero m id k is at) (once_back id m.locks is.once) low
    (λ has. back_stands id m.locks) (λ stands none. omega (arith, owner, none, one)) (λ other apart. times_back other id m.locks apart)

-- what nobody owns doesn't stand among the locked ones
out_in_order : (m : Mutexes) (id : ℕ) (slot : Option Mutex) → AreInOrder m → (id ≡ 0 → ⊥) → owner_in slot ≡ 0 → AreInOrder (written m id slot (without id m.locks))
out_in_order m id slot is some none =
    let owner : owner_of (written m id slot (without id m.locks)) id ≡ 0 = entry_same (λ o. owner_in o ≡ 0) m.table id slot none refl in
    let gone = times_without id m.locks in
    in_order m id slot (without id m.locks) is some (once_filter (λ other. not (other == id)) m.locks is.once) (omega (arith, none))
    (λ has. absurd (has owner)) (λ stands free. omega (arith, stands, gone)) (λ other apart. times_left other id m.locks apart)

disowned : (slot : Option Mutex) → owner_in (option_map {T = Mutex} (λ k. record k { owner = 0 }) slot) ≡ 0
disowned None = refl
disowned (Some k) = refl

pub freed_in_order : (m : Mutexes) (id : ℕ) → AreInOrder m → (id ≡ 0 → ⊥) → AreInOrder (freed m id)
freed_in_order m id is some = out_in_order m id (option_map {T = Mutex} (λ k. record k { owner = 0 }) (mutex_at m id)) is some (disowned (mutex_at m id))

pub deleted_in_order : (m : Mutexes) (id : ℕ) → AreInOrder m → (id ≡ 0 → ⊥) → AreInOrder (deleted m id)
deleted_in_order m id is some = out_in_order m id None is some refl

none_locked : (n : ℕ) (stands : Bool) → (n == 0) ≡ stands → (1 ≤ n → ⊥) → n ≡ 0
none_locked n true at never = grind (arith, nat_tests, at)
none_locked n false at never = absurd (never (grind (arith, nat_tests, at)))

-- a new one, where there was none
made_in_order : (m : Mutexes) (id : ℕ) (k : Mutex) → AreInOrder m → (id ≡ 0 → ⊥) → mutex_at m id ≡ None → k.owner ≡ 0 → AreInOrder (with_mutex m id (Some k))
made_in_order m id k is some free none =
    let absent : times id m.locks ≡ 0 = none_locked (times id m.locks) (times id m.locks == 0) refl (λ stands. is.locked id stands (ap owner_in free)) in
    let owner : owner_of (with_mutex m id (Some k)) id ≡ 0 = entry_same (λ o. owner_in o ≡ 0) m.table id (Some k) none refl in
    in_order m id (Some k) m.locks is some is.once (omega (arith, none))
    (λ has. absurd (has owner)) (λ stands free. omega (arith, stands, absent)) (λ other apart. refl)

-- ---- the free ID

-- an ID of a free slot, or 0
pub record IsFree {A : Type 0} (from : ℕ) (slots : List (Option A)) (id : ℕ) : Type 0 where
  pub place : ℕ
  pub at : id ≡ from + place
  pub free : entry slots place ≡ None

free_later : {A : Type 0} → (from id : ℕ) (slot : Option A) (slots : List (Option A)) → (id ≡ 0) ⊎ IsFree (from + 1) slots id → (id ≡ 0) ⊎ IsFree from (slot ∷ slots) id
free_later from id slot slots (inl none) = inl none
free_later from id slot slots (inr is) = inr (record { place = suc is.place; at = let at = is.at in omega (arith, at); free = is.free })

pub free_is : {A : Type 0} → (from : ℕ) (slots : List (Option A)) → (free_from from slots ≡ 0) ⊎ IsFree from slots (free_from from slots)
unfolding free_from
free_is from [] = inl refl
free_is from (None ∷ slots) = inr (record { place = 0; at = omega arith; free = refl })
free_is from (Some k ∷ slots) = free_later from (free_from (from + 1) slots) (Some k) slots (free_is (from + 1) slots)

behind_zero : {A : Type 0} → (slots : List (Option A)) (place id : ℕ) → id ≡ 1 + place → entry (drop 1 slots) place ≡ None → entry slots id ≡ None
behind_zero [] place id at free = refl
behind_zero (slot ∷ slots) place id at free = let e : id ≡ suc place = omega (arith, at) in ap (entry (slot ∷ slots)) e ∙ free

pub free_slot : (m : Mutexes) → (Calls.free_mutex m ≡ 0) ⊎ IsFree 1 (drop 1 m.table) (Calls.free_mutex m) → (Calls.free_mutex m ≡ 0 → ⊥) → mutex_at m (Calls.free_mutex m) ≡ None
free_slot m (inl none) some = absurd (some none)
free_slot m (inr is) some = behind_zero m.table is.place (Calls.free_mutex m) is.at is.free

-- ---- the calls

-- the table of a call is in order
abbrev Stays : MutexDone → Type 0
Stays done = AreInOrder done.table

stays_checked : (b : Base) (m : Mutexes) (checks : List Check) (effect : MutexDone) → AreInOrder m → (first_error checks ≡ None → Stays effect) → Stays (mutex_checked checks b m effect)
stays_checked b m checks effect is works = mutex_cases Stays checks b m effect (λ code. is) works

has_one : (m : Mutexes) (id : ℕ) (slot : Option Mutex) → AreInOrder m → mutex_at m id ≡ slot → is_some slot ≡ true → id ≡ 0 → ⊥
has_one m id None is at some = λ same. cc some
has_one m id (Some k) is at some = not_zero m id k is at

waits_task : (flags : Flags) (who : Who) → allows flags who MayWait ≡ true → IsCaller who → (1 ≤ caller who) × (caller who < 256)
waits_task flags (whos.Task t) may is = is
waits_task flags whos.Handler may is = absurd (cc may)

or_waits : (b c : Base) (m : Mutexes) (over : Bool) → AreInOrder m → Stays (cond {A = MutexDone} over (record { base = b; table = m; outcome = failed er.TmOut }) (record { base = c; table = m; outcome = Blocked }))
or_waits b c m true is = is
or_waits b c m false is = is

at_once : (b : Base) (now m : Mutexes) (t id : ℕ) (order : Order) (timeout : ℤ) (free : Bool) → AreInOrder m → AreInOrder now → Stays (cond free (table_changed b now (pos 0)) (waits_or_ends b m t id order timeout))
at_once b now m t id order timeout true is works = works
at_once b now m t id order timeout false is works = or_waits b (make_wait b t (mutex_object id) order timeout) m (int_eq timeout (pos 0)) is

waited : (b : Base) (m : Mutexes) (t id : ℕ) (timeout : ℤ) (slot : Option Mutex) → mutex_at m id ≡ slot → AreInOrder m → (1 ≤ t) × (t < 256) → Stays (waited_for_mutex b m t id timeout slot)
waited b m t id timeout None at is task = is
waited b m t id timeout (Some k) at is task = at_once b (locked m id k t) m t id k.order timeout (k.owner == 0) is (locked_in_order m id t k is at task.0 task.1)

some_id : (id : ℕ) → not (id == 0) ≡ true → id ≡ 0 → ⊥
some_id id is same = grind (arith, nat_tests, is, same)

pub call_in_order : (b : Base) (m : Mutexes) (who : Who) (call : MutexCall) → AreInOrder m → IsCaller who → AreInOrder (mutex_call b m who call).table
unfolding mutex_call create_mutex lock_mutex unlock_mutex refer_mutex delete_mutex
call_in_order b m who (call.CreMtx attributes ceiling) is task =
    stays_checked b m (Calls.create_checks m attributes ceiling) _ is
    (λ none. let some = some_id (Calls.free_mutex m) (holds_at 2 (Calls.create_checks m attributes ceiling) none) in made_in_order m (Calls.free_mutex m) (new_mutex attributes ceiling) is some (free_slot m (free_is 1 (drop 1 m.table)) some) refl)
call_in_order b m who (call.LocMtx id timeout) is task =
    stays_checked b m (Calls.lock_checks b m who id timeout) _ is
    (λ none. waited b m (caller who) (natural id) timeout (mutex_at m (natural id)) refl is (waits_task b.flags who (holds_at 2 (Calls.lock_checks b m who id timeout) none) task))
call_in_order b m who (call.UnlMtx id) is task =
    stays_checked b m (Calls.unlock_checks b m who id) _ is
    (λ none. freed_in_order m (natural id) is (has_one m (natural id) (mutex_at m (natural id)) is refl (holds_at 2 (Calls.unlock_checks b m who id) none)))
call_in_order b m who (call.RefMtx id) is task = stays_checked b m (object_checks id (has_mutex m (natural id)) []) _ is (λ none. is)
call_in_order b m who (call.DelMtx id) is task =
    stays_checked b m (object_checks id (has_mutex m (natural id)) []) _ is
    (λ none. deleted_in_order m (natural id) is (has_one m (natural id) (mutex_at m (natural id)) is refl (holds_at 1 (object_checks id (has_mutex m (natural id)) []) none)))

-- ---- servings

waiter_inside : (b : Base) (object t : ℕ) (o : Option Task) → task_at b t ≡ o → waiting_in object o ≡ true → t < length b.tasks
waiter_inside b object t None at waits = absurd (cc waits)
waiter_inside b object t (Some k) at waits = entry_inside b.tasks t k at

waiter_some : (b : Base) (object t : ℕ) (none : Bool) → (t == 0) ≡ none → task_at b 0 ≡ None → waits_for b object t ≡ true → 1 ≤ t
waiter_some b object t true at free waits =
    let e : 0 ≡ t = grind (arith, nat_tests, at) in
    let idle : waits_for b object t ≡ false = subst (λ (u : ℕ). waits_for b object u ≡ false) e (ap (waiting_in object) free) in
    absurd (cc (idle, waits))
waiter_some b object t false at free waits = grind (arith, nat_tests, at)

served_by : (b : Base) (m : Mutexes) (id : ℕ) (parts : MutexParts) → AreInOrder m → length b.tasks ≤ 256 → task_at b 0 ≡ None → IsServed b m id parts → AreInOrder parts.table
served_by b m id parts is slots free served =
    let waits : waits_for b (mutex_object id) served.first ≡ true = first_waits served.row.order b served.first (mutex_object id) served.behind served.waited in
    let inside = waiter_inside b (mutex_object id) served.first (task_at b served.first) refl waits in
    subst AreInOrder (sym served.handed) (locked_in_order m id served.first served.row is served.there (waiter_some b (mutex_object id) served.first (served.first == 0) refl free waits) (omega (arith, inside, slots)))

pub serving_in_order : (b : Base) (m : Mutexes) (id : ℕ) (parts : MutexParts) → AreInOrder m → length b.tasks ≤ 256 → task_at b 0 ≡ None → serve_mutex b m id ≡ Some parts → AreInOrder parts.table
serving_in_order b m id parts is slots free served = served_by b m id parts is slots free (serving_is b m id parts served)

-- ---- freeings

freed_by : (m : Mutexes) (t id : ℕ) (now : Mutexes) → AreInOrder m → EndsWith (held m t) id → freed m id ≡ now → AreInOrder now
freed_by m t id now is last same =
    let holds : 1 ≤ times id (held m t) = last_stands id last.left (held m t) last.ends in
    let fewer = times_filter (λ other. owner_of m other == t) id m.locks in
    let owned : owner_of m id ≡ 0 → ⊥ = is.locked id (omega (arith, holds, fewer)) in
    subst AreInOrder same (freed_in_order m id is (λ none. owned (ap (owner_of m) none ∙ ap owner_in is.no_zero)))

by_last : (m : Mutexes) (t : ℕ) (now : Mutexes) (last : Option ℕ) → AreInOrder m → last_or None (held m t) ≡ last → option_map (freed m) last ≡ Some now → AreInOrder now
by_last m t now None is at same = absurd (cc same)
by_last m t now (Some id) is at same = freed_by m t id now is (ends_by (held m t) id at) (cc same)

pub freeing_in_order : (b : Base) (m : Mutexes) (t : ℕ) (now : Mutexes) → AreInOrder m → free_last b m t ≡ Some now → AreInOrder now
unfolding free_last
freeing_in_order b m t now is same = by_last m t now (last_or None (held m t)) is refl same

-- ---- how many

below_first : (limit first : ℕ) (ids : List ℕ) → ((id : ℕ) → 1 ≤ times id (first ∷ ids) → id < limit) → first < limit
below_first limit first ids low =
    let here : times first (first ∷ ids) ≡ 1 + times first ids = ap (λ (test : Bool). cond test 1 0 + times first ids) (itself first) in
    low first (omega (arith, here))

below_each : (limit : ℕ) (ids : List ℕ) → ((id : ℕ) → 1 ≤ times id ids → id < limit) → AreBelow limit ids
below_each limit [] low = tt
below_each limit (first ∷ ids) low = (below_first limit first ids low, below_each limit ids (λ id stands. low id (omega (arith, stands))))

owner_inside : (m : Mutexes) (id : ℕ) (slot : Option Mutex) → mutex_at m id ≡ slot → (owner_in slot ≡ 0 → ⊥) → id < length m.table
owner_inside m id None at owned = absurd (owned refl)
owner_inside m id (Some k) at owned = entry_inside m.table id k at

few_of : (m : Mutexes) (ids : List ℕ) → AreInOrder m → IsOnce ids → ((id : ℕ) → times id ids ≤ times id m.locks) → length ids ≤ 64
few_of m ids is once fewer =
    let low : (id : ℕ) → 1 ≤ times id ids → id < 65 = λ id stands. let more = fewer id in let inside = owner_inside m id (mutex_at m id) refl (is.locked id (omega (arith, stands, more))) in let slots = is.slots in omega (arith, inside, slots) in
    let absent : times 0 ids ≡ 0 = none_locked (times 0 ids) (times 0 ids == 0) refl (λ stands. let more = fewer 0 in is.locked 0 (omega (arith, stands, more)) (ap owner_in is.no_zero)) in
    let room : length ids < 65 = room_below 65 0 ids (omega arith) (below_each 65 ids low) once absent in
    omega (arith, room)

-- no task holds more than 64 mutexes
pub few_held : (m : Mutexes) (t : ℕ) → AreInOrder m → length (held m t) ≤ 64
few_held m t is = few_of m (held m t) is (once_filter (λ id. owner_of m id == t) m.locks is.once) (λ id. times_filter (λ other. owner_of m other == t) id m.locks)

-- ---- the start

none_entry : (n id : ℕ) → entry (replicate {A = Option Mutex} n None) id ≡ None
none_entry zero id = refl
none_entry (suc n) zero = refl
none_entry (suc n) (suc id) = none_entry n id

pub start_in_order : AreInOrder mutexes_start
start_in_order = record {
  slots = refl;
  no_zero = refl;
  once = λ id. omega arith;
  owned = λ id has. absurd (has (ap owner_in (none_entry 65 id)));
  locked = λ id stands. absurd (omega (arith, stands));
  owners = λ id. let none : owner_of mutexes_start id ≡ 0 = ap owner_in (none_entry 65 id) in omega (arith, none);
}
