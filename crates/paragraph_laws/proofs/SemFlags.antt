-- A call that waits for a semaphore or for an event flag does what the paragraph says.
use Rattle.std.proofs.Common.{◌≡◌, ℕ, ◌-◌, ◌<◌, ◌≤◌, length, Bool, true, false, cond, Option, Some, None, refl, ◌∙◌, ap, sym, ℤ, pos, arith}
use Rattle.std.specs.Prelude.{drop}
use Rattle.std.specs.Bool.{◌==◌}
use Rattle.std.specs.Option.{option_map}
use Rattle.std.specs.Ordering.{int_eq}
use Rattle.std.proofs.lemmas.Bool.Decides.{nat_tests}
use Rattle.std.proofs.lemmas.List.{get_or-set_other}
use Rattle.tk_types.specs.declared.answer.Answer.{Answer}
use Rattle.tk_types.specs.declared.answer.Outcome.TheVariants.{Returned, Blocked}
use Rattle.tk_types.specs.declared.error_code.Er.TheVariants as er
use Rattle.tk_types.specs.declared.run.Mode.{Mode}
use Rattle.kernel_model.specs.declared.objects.Semaphore.{Semaphore}
use Rattle.kernel_model.specs.declared.objects.EventFlag.{EventFlag}
use Rattle.kernel_model.specs.declared.objects.FlagWish.{FlagWish}
use Rattle.kernel_model.specs.Words.Checks.{failed, plain}
use Rattle.kernel_model.specs.Words.Orders.{taken_from}
use Rattle.kernel_model.specs.SemFlags.Tables.{SemFlags, SemFlagParts, cleared_by, cleared_flag, count_of, flag_answer, flag_at, flag_object, has_bits, no_wish, or_else, sem_at, sem_object, serve_flag, serve_flag_at, serve_flag_of, serve_sem, serve_sem_at, serve_sem_flag, serve_sem_of, taken_from_sem, wish_of}
use Rattle.kernel_model.specs.SemFlags.Calls.{SemFlagDone, serves_at_once, tables_changed, waited_for_flag, waited_for_sem, waits_or_ends}
use Rattle.kernel_model.specs.SemFlags.Trial.{MayWait, asked_count, asked_wish}
use Rattle.kernel_model.specs.Tasks.Base.{Base, make_wait, release}
use Rattle.kernel_lemmas.proofs.Filters.{apart_of}
use Rattle.kernel_lemmas.proofs.Tables.{entry_inside, entry_other, entry_there}
use Rattle.call_lemmas.proofs.Picks.{this_if}
use Rattle.call_lemmas.proofs.Trial.{count_asked, flag_served_joined, flag_settled, joined_waits, ready_for_none, sem_served_joined, sem_settled, wish_asked}
use Rattle.paragraph_laws.proofs.Patterns.{cleared_fails}
use Rattle.paragraph_laws.proofs.Standing.{GivesNoBits, counted, flag_still, patterned, sem_still}
use Rattle.mail_laws.proofs.Backs.{base_back}
use Rattle.object_model.specs.Servings.{first_serving}
use Rattle.machine_model.specs.Events.Settle.{settle}
use Rattle.machine_model.specs.States.Objects.{Parts, kinds, mail_parts, pool_parts, serve_object, with_sem_flags}
use Rattle.machine_lemmas.proofs.HandingServes.{AllKinds, mapped_none}
use Rattle.machine_lemmas.proofs.Rest.{HasSettled}
use Rattle.table_lemmas.specs.Short.{AreShort}
use Rattle.paragraph_laws.specs.Paragraph.{IsSettled, after_settling, joins, paragraph, sem_flag_waits}
use Rattle.paragraph_laws.proofs.Joined.{AwayFrom, IsNoMutex, joined_keeps, kept_up_to_date, queue_elsewhere, queue_rejoined, served_keeps}
use Rattle.paragraph_laws.proofs.OneKind.{NoneBut, NoneOf, boxes_beside, buffers_beside, devices_beside, fixed_beside, mutexes_beside, none_of, only_kind, variable_beside}
use Rattle.paragraph_laws.proofs.Settled.{given_still, has_settled, returns_once, waits_on}
use Rattle.paragraph_laws.proofs.Still.{SameQueue, both_none, flags_still, sem_flag_firsts, sems_still}
use Rattle.paragraph_laws.proofs.Tables.{alone_serves, none_serves, stands_none}

-- parts with another base and other semaphores and flags
abbrev sem_flags_to : Parts → Base → SemFlags → Parts
sem_flags_to p c s = record p { base = c; objects = record p.objects { sem_flags = s } }

-- ---- the kinds

-- once a task has joined the waiters of a semaphore or a flag, or was served by one, other kinds serve nobody
but_sem_flags : (p : Parts) (c : Base) (s : SemFlags) (object : ℕ) → AreShort p.objects → 64 ≤ object → object ≤ 191 → AwayFrom p.base c object → NoneOf p →
    NoneBut 0 kinds (sem_flags_to p c s)
unfolding NoneBut AllKinds
but_sem_flags p c s object short low high away none =
    let q : Parts = sem_flags_to p c s in
    let devices = devices_beside p c p.objects.mails object away (omega (arith, high)) none in (
      mapped_none _ _ (boxes_beside p (mail_parts q) object refl short away (λ other least most e. omega (arith, high, least, e)) none),
      (
        mapped_none _ _ (mutexes_beside p c object short away (λ other least most e. omega (arith, high, least, e)) none),
        (
          mapped_none _ _ (buffers_beside p (mail_parts q) object refl refl short away (λ other least most e. omega (arith, high, least, e)) (λ other least most e. omega (arith, high, least, e)) none),
          (
            mapped_none _ _ (fixed_beside p (pool_parts q) object refl short away (λ other least most e. omega (arith, high, least, e)) none),
            (
              mapped_none _ _ (variable_beside p (pool_parts q) object refl refl short away (λ other least most e. omega (arith, high, least, e)) none),
              (mapped_none _ _ devices.0, (mapped_none _ _ devices.1.0, (mapped_none _ _ devices.1.1.0, (mapped_none _ _ devices.1.1.1, tt)))),
            ),
          ),
        ),
      ),
    )

-- so what is served first is what semaphores and flags serve
sem_flags_first : (p : Parts) (c : Base) (s : SemFlags) (object : ℕ) → AreShort p.objects → 64 ≤ object → object ≤ 191 → AwayFrom p.base c object → NoneOf p →
    serve_object (sem_flags_to p c s) ≡ option_map (with_sem_flags (sem_flags_to p c s)) (serve_sem_flag c s)
unfolding serve_object
sem_flags_first p c s object short low high away none = only_kind 0 kinds (sem_flags_to p c s) (but_sem_flags p c s object short low high away none)

-- a wait that isn't over at once is one of all parts
over_sem_flags : (p : Parts) (c : Base) (s : SemFlags) (at_once : Bool) →
    cond at_once (record { parts = p; outcome = failed er.TmOut }) (record { parts = sem_flags_to p c s; outcome = Blocked })
    ≡ sem_flag_waits p (cond at_once (record { base = p.base; table = p.objects.sem_flags; outcome = failed er.TmOut }) (record { base = c; table = s; outcome = Blocked }))
over_sem_flags p c s true = refl
over_sem_flags p c s false = refl

-- ---- each object by itself

each_sem : (b : Base) (s : SemFlags) (id : ℕ) → 1 ≤ id → serve_sem_flag b s ≡ None → (slot : Option Semaphore) → sem_at s id ≡ slot → serve_sem b s id ≡ None
unfolding serve_sem
each_sem b s id one none None at = ap (serve_sem_at b s id) at
each_sem b s id one none (Some k) at = stands_none (serve_sem b s) id s.sems k one at (both_none b s none).0

each_flag : (b : Base) (s : SemFlags) (id : ℕ) → 1 ≤ id → serve_sem_flag b s ≡ None → (slot : Option EventFlag) → flag_at s id ≡ slot → serve_flag b s id ≡ None
unfolding serve_flag
each_flag b s id one none None at = ap (serve_flag_at b s id) at
each_flag b s id one none (Some k) at = stands_none (serve_flag b s) id s.flags k one at (both_none b s none).1

sem_unchanged : (slot : Option Semaphore) → slot ≡ option_map (counted (λ count. count - 0)) slot
sem_unchanged None = refl
sem_unchanged (Some k) = let none_taken : k.count ≡ k.count - 0 = omega arith in ap (λ count. Some (record k { count = count })) none_taken

flag_unchanged : (slot : Option EventFlag) → slot ≡ option_map (patterned (λ pattern. pattern)) slot
flag_unchanged None = refl
flag_unchanged (Some k) = refl

or_none : (here later : Option SemFlagParts) → later ≡ None → or_else here later ≡ here
or_none None later none = none
or_none (Some parts) later none = refl

-- ---- semaphores

-- once a task has joined the waiters of a semaphore, no other semaphore and no flag serves anybody
sem_alone : (p : Parts) (c : Base) (t id n : ℕ) (k : Semaphore) → AreShort p.objects → MayWait p.base t → 1 ≤ id → id ≤ 64 → sem_at p.objects.sem_flags id ≡ Some k →
    AwayFrom p.base c (sem_object id) → serve_sem_flag p.base p.objects.sem_flags ≡ None →
    serve_sem_flag c (asked_count p.objects.sem_flags t n) ≡ serve_sem c (asked_count p.objects.sem_flags t n) id
sem_alone p c t id n k short may one most at away none =
    let s : SemFlags = p.objects.sem_flags in
    let asked : SemFlags = asked_count s t n in
    sem_flag_firsts c asked
    ∙ or_none (first_serving (serve_sem c asked) (taken_from 1 (drop 1 asked.sems))) (first_serving (serve_flag c asked) (taken_from 1 (drop 1 asked.flags)))
    (flags_still p.base c s asked refl refl (λ other in_it. away (flag_object other) (λ e. let least = in_it.0 in omega (arith, most, least, e))) (both_none p.base s none).1)
    ∙ alone_serves (serve_sem c asked) id asked.sems k one at
    (λ other in_it apart. sem_still p.base c s asked t other (λ count. count - 0) (away (sem_object other) (λ e. apart (omega (arith, e)))) (ready_for_none p.base t (sem_object other) may)
    (λ u others. get_or-set_other s.counts t u n 0 others) (λ count. omega arith) (sem_unchanged (sem_at s other)) (each_sem p.base s other in_it.0 none (sem_at s other) refl))

taken_slot : (s : SemFlags) (id n other : ℕ) (k : Semaphore) (same : Bool) → (other == id) ≡ same → sem_at s id ≡ Some k →
    sem_at (taken_from_sem s id k n) other ≡ option_map (counted (λ count. count - cond same n 0)) (sem_at s other)
taken_slot s id n other k true is at =
    let e : other ≡ id = grind (arith, nat_tests, is) in
    ap (sem_at (taken_from_sem s id k n)) e
    ∙ entry_there s.sems id k (Some (record k { count = k.count - n })) at
    ∙ ap (option_map (counted (λ count. count - n))) (sym (ap (sem_at s) e ∙ at))
taken_slot s id n other k false is at = entry_other s.sems id other (Some (record k { count = k.count - n })) (apart_of other id is) ∙ sem_unchanged (sem_at s other)

-- once it was served, no semaphore and no flag does
sem_done : (p : Parts) (d : Base) (t id n taken : ℕ) (k : Semaphore) → MayWait p.base t → sem_at p.objects.sem_flags id ≡ Some k → ((other : ℕ) → SameQueue p.base d other) →
    serve_sem_flag p.base p.objects.sem_flags ≡ None →
    serve_sem_flag d (taken_from_sem (asked_count p.objects.sem_flags t n) id k taken) ≡ None
sem_done p d t id n taken k may at queues none =
    let s : SemFlags = p.objects.sem_flags in
    let now : SemFlags = taken_from_sem (asked_count s t n) id k taken in
    sem_flag_firsts d now
    ∙ or_none (first_serving (serve_sem d now) (taken_from 1 (drop 1 now.sems))) (first_serving (serve_flag d now) (taken_from 1 (drop 1 now.flags)))
    (flags_still p.base d s now refl refl (λ other in_it. queues (flag_object other)) (both_none p.base s none).1)
    ∙ none_serves (serve_sem d now) now.sems
    (λ other in_it. sem_still p.base d s now t other (λ count. count - cond (other == id) taken 0) (queues (sem_object other)) (ready_for_none p.base t (sem_object other) may)
    (λ u others. get_or-set_other s.counts t u n 0 others) (λ count. omega arith) (taken_slot s id taken other k (other == id) refl at)
    (each_sem p.base s other in_it.0 none (sem_at s other) refl))

sem_case : (mode : Mode) (p : Parts) (t id n : ℕ) (timeout : ℤ) (k : Semaphore) (at_once : Bool) → MayWait p.base t → AreShort p.objects → 1 ≤ id → id ≤ 64 →
    sem_at p.objects.sem_flags id ≡ Some k → t < length p.objects.sem_flags.counts → HasSettled mode p →
    let c : Base = make_wait p.base t (sem_object id) k.order timeout in
    let asked : SemFlags = asked_count p.objects.sem_flags t n in
    serve_sem_flag c asked ≡ serve_sem_of c asked id k (this_if at_once t) →
    sem_flag_waits p (cond at_once (tables_changed p.base (taken_from_sem p.objects.sem_flags id k n) (pos 0)) (waits_or_ends p.base p.objects.sem_flags t (sem_object id) k.order timeout asked))
    ≡ after_settling p t timeout (settle mode (joins p t (sem_object id) k.order timeout (record p.objects { sem_flags = asked })))
sem_case mode p t id n timeout k false may short one most at inside settled own =
    let c : Base = make_wait p.base t (sem_object id) k.order timeout in
    let asked : SemFlags = asked_count p.objects.sem_flags t n in
    let now : Parts = sem_flags_to p c asked in
    let away : AwayFrom p.base c (sem_object id) = queue_elsewhere p.base t (sem_object id) k.order timeout may in
    let no_mutex : IsNoMutex (sem_object id) = grind (arith, nat_tests, most) in
    sym (waits_on mode p now t timeout
    (record {
      unserved = sem_flags_first p c asked (sem_object id) short (omega (arith, one)) (omega (arith, most)) away (none_of p settled.unserved) ∙ ap
          (option_map (with_sem_flags now)) own;
      up_to_date = kept_up_to_date p.base c p.objects.mutexes (joined_keeps p.base t (sem_object id) k.order timeout may no_mutex) settled.up_to_date;
      given = given_still mode p now refl (away 648 (λ e. omega (arith, e, most))) settled.given;
    })
    (joined_waits p.base t (sem_object id) k.order timeout may)
    ∙ over_sem_flags p c asked (int_eq timeout (pos 0)))
sem_case mode p t id n timeout k true may short one most at inside settled own =
    let c : Base = make_wait p.base t (sem_object id) k.order timeout in
    let asked : SemFlags = asked_count p.objects.sem_flags t n in
    let now : Parts = sem_flags_to p c asked in
    let result : Answer = plain (pos 0) in
    let d : Base = release c t result in
    let left : SemFlags = taken_from_sem asked id k (count_of asked t) in
    let served : Parts = sem_flags_to p d left in
    let away : AwayFrom p.base c (sem_object id) = queue_elsewhere p.base t (sem_object id) k.order timeout may in
    let rejoined : (other : ℕ) → SameQueue p.base d other = queue_rejoined p.base t (sem_object id) k.order timeout result may in
    let no_mutex : IsNoMutex (sem_object id) = grind (arith, nat_tests, most) in
    let none = none_of p settled.unserved in
    let up = kept_up_to_date p.base c p.objects.mutexes (joined_keeps p.base t (sem_object id) k.order timeout may no_mutex) settled.up_to_date in
    let done : serve_object served ≡ None =
    sem_flags_first p d left (sem_object id) short (omega (arith, one)) (omega (arith, most)) (λ other apart. rejoined other) none
    ∙ ap (option_map (with_sem_flags served)) (sem_done p d t id n (count_of asked t) k may at rejoined none.sem_flags) in
    sym (returns_once mode p now served t timeout result up
    (sem_flags_first p c asked (sem_object id) short (omega (arith, one)) (omega (arith, most)) away none ∙ ap (option_map (with_sem_flags now)) own)
    (record {
      unserved = done;
      up_to_date = kept_up_to_date c d p.objects.mutexes (served_keeps p.base t (sem_object id) k.order timeout result may no_mutex) up;
      given = given_still mode p served refl (rejoined 648) settled.given;
    })
    (joined_waits p.base t (sem_object id) k.order timeout may) refl
    ∙ ap (λ base. record { parts = sem_flags_to p base (taken_from_sem p.objects.sem_flags id k (count_of asked t)); outcome = Returned result })
    (base_back p.base t (sem_object id) k.order timeout result may)
    ∙ ap (λ count. record { parts = sem_flags_to p p.base (taken_from_sem p.objects.sem_flags id k count); outcome = Returned result })
    (count_asked p.objects.sem_flags t n inside))

-- a call for a semaphore does what the paragraph says
pub sem_call_is_paragraph : (mode : Mode) (p : Parts) (t id n : ℕ) (timeout : ℤ) (k : Semaphore) → IsSettled mode p → MayWait p.base t → 1 ≤ id →
    sem_at p.objects.sem_flags id ≡ Some k → t < length p.objects.sem_flags.counts →
    sem_flag_waits p (waited_for_sem p.base p.objects.sem_flags t id n timeout (Some k)) ≡ paragraph mode p t (sem_object id) k.order timeout
    (record p.objects { sem_flags = asked_count p.objects.sem_flags t n })
unfolding paragraph serve_sem
sem_call_is_paragraph mode p t id n timeout k settled may one at inside =
    let s : SemFlags = p.objects.sem_flags in
    let c : Base = make_wait p.base t (sem_object id) k.order timeout in
    let asked : SemFlags = asked_count s t n in
    let few = settled.short.sems in
    let stands = entry_inside s.sems id k at in
    let most : id ≤ 64 = omega (arith, few, stands) in
    let none = none_of p settled.unserved in
    sem_case mode p t id n timeout k (serves_at_once p.base k id t n) may settled.short one most at inside (has_settled mode p settled)
    (sem_alone p c t id n k settled.short may one most at (queue_elsewhere p.base t (sem_object id) k.order timeout may) none.sem_flags
    ∙ ap (serve_sem_at c asked id) at
    ∙ ap (serve_sem_of c asked id k)
    (sem_served_joined p.base s t id n timeout k may inside (sem_settled p.base s id k at (each_sem p.base s id one none.sem_flags (Some k) at))))

-- ---- event flags

-- once a task has joined the waiters of a flag, no other flag and no semaphore serves anybody
flag_alone : (p : Parts) (c : Base) (t id : ℕ) (wish : FlagWish) (k : EventFlag) → AreShort p.objects → MayWait p.base t → 1 ≤ id → flag_at p.objects.sem_flags id ≡ Some k →
    AwayFrom p.base c (flag_object id) → serve_sem_flag p.base p.objects.sem_flags ≡ None →
    serve_sem_flag c (asked_wish p.objects.sem_flags t wish) ≡ serve_flag c (asked_wish p.objects.sem_flags t wish) id
flag_alone p c t id wish k short may one at away none =
    let s : SemFlags = p.objects.sem_flags in
    let asked : SemFlags = asked_wish s t wish in
    let few = short.sems in
    sem_flag_firsts c asked
    ∙ ap (λ here. or_else here (first_serving (serve_flag c asked) (taken_from 1 (drop 1 asked.flags))))
    (sems_still p.base c s asked refl refl (λ other in_it. away (sem_object other) (λ e. let low = in_it.1 in omega (arith, one, low, few, e))) (both_none p.base s none).0)
    ∙ alone_serves (serve_flag c asked) id asked.flags k one at
    (λ other in_it apart. flag_still p.base c s asked t other (λ pattern. pattern) (away (flag_object other) (λ e. apart (omega (arith, e)))) (ready_for_none p.base t (flag_object other) may)
    (λ u others. get_or-set_other s.wishes t u wish no_wish others) (λ pattern asked fails. fails) (flag_unchanged (flag_at s other))
    (each_flag p.base s other in_it.0 none (flag_at s other) refl))

-- the clear of a wish, at its own flag
abbrev cleared_at : Bool → FlagWish → ℕ → ℕ
cleared_at own wish pattern = cond own (cleared_by wish pattern) pattern

no_bits_if : (own : Bool) (done : FlagWish) → GivesNoBits (cleared_at own done)
no_bits_if true done pattern wish fails = cleared_fails done pattern wish fails
no_bits_if false done pattern wish fails = fails

cleared_slot : (s : SemFlags) (id other : ℕ) (wish : FlagWish) (k : EventFlag) (same : Bool) → (other == id) ≡ same → flag_at s id ≡ Some k →
    flag_at (cleared_flag s id k wish) other ≡ option_map (patterned (cleared_at same wish)) (flag_at s other)
cleared_slot s id other wish k true is at =
    let e : other ≡ id = grind (arith, nat_tests, is) in
    ap (flag_at (cleared_flag s id k wish)) e
    ∙ entry_there s.flags id k (Some (record k { pattern = cleared_by wish k.pattern })) at
    ∙ ap (option_map (patterned (cleared_at true wish))) (sym (ap (flag_at s) e ∙ at))
cleared_slot s id other wish k false is at = entry_other s.flags id other (Some (record k { pattern = cleared_by wish k.pattern })) (apart_of other id is) ∙ flag_unchanged
    (flag_at s other)

-- once it was served, no semaphore and no flag does
flag_done : (p : Parts) (d : Base) (t id : ℕ) (wish done : FlagWish) (k : EventFlag) → MayWait p.base t → flag_at p.objects.sem_flags id ≡ Some k →
    ((other : ℕ) → SameQueue p.base d other) → serve_sem_flag p.base p.objects.sem_flags ≡ None →
    serve_sem_flag d (cleared_flag (asked_wish p.objects.sem_flags t wish) id k done) ≡ None
flag_done p d t id wish done k may at queues none =
    let s : SemFlags = p.objects.sem_flags in
    let now : SemFlags = cleared_flag (asked_wish s t wish) id k done in
    sem_flag_firsts d now
    ∙ ap (λ here. or_else here (first_serving (serve_flag d now) (taken_from 1 (drop 1 now.flags))))
    (sems_still p.base d s now refl refl (λ other in_it. queues (sem_object other)) (both_none p.base s none).0)
    ∙ none_serves (serve_flag d now) now.flags
    (λ other in_it. flag_still p.base d s now t other (cleared_at (other == id) done) (queues (flag_object other)) (ready_for_none p.base t (flag_object other) may)
    (λ u others. get_or-set_other s.wishes t u wish no_wish others) (no_bits_if (other == id) done) (cleared_slot s id other done k (other == id) refl at)
    (each_flag p.base s other in_it.0 none (flag_at s other) refl))

flag_case : (mode : Mode) (p : Parts) (t id : ℕ) (wish : FlagWish) (timeout : ℤ) (k : EventFlag) (at_once : Bool) → MayWait p.base t → AreShort p.objects → 1 ≤ id → id ≤ 64 →
    flag_at p.objects.sem_flags id ≡ Some k → t < length p.objects.sem_flags.wishes → HasSettled mode p →
    let c : Base = make_wait p.base t (flag_object id) k.order timeout in
    let asked : SemFlags = asked_wish p.objects.sem_flags t wish in
    serve_sem_flag c asked ≡ serve_flag_of c asked id k (this_if at_once t) →
    sem_flag_waits p (cond {A = SemFlagDone} at_once (record { base = p.base; table = cleared_flag p.objects.sem_flags id k wish; outcome = Returned (flag_answer k) }) (waits_or_ends p.base p.objects.sem_flags t (flag_object id) k.order timeout asked))
    ≡ after_settling p t timeout (settle mode (joins p t (flag_object id) k.order timeout (record p.objects { sem_flags = asked })))
flag_case mode p t id wish timeout k false may short one most at inside settled own =
    let c : Base = make_wait p.base t (flag_object id) k.order timeout in
    let asked : SemFlags = asked_wish p.objects.sem_flags t wish in
    let now : Parts = sem_flags_to p c asked in
    let away : AwayFrom p.base c (flag_object id) = queue_elsewhere p.base t (flag_object id) k.order timeout may in
    let no_mutex : IsNoMutex (flag_object id) = grind (arith, nat_tests, most) in
    sym (waits_on mode p now t timeout
    (record {
      unserved = sem_flags_first p c asked (flag_object id) short (omega (arith, one)) (omega (arith, most)) away (none_of p settled.unserved) ∙ ap
          (option_map (with_sem_flags now)) own;
      up_to_date = kept_up_to_date p.base c p.objects.mutexes (joined_keeps p.base t (flag_object id) k.order timeout may no_mutex) settled.up_to_date;
      given = given_still mode p now refl (away 648 (λ e. omega (arith, e, most))) settled.given;
    })
    (joined_waits p.base t (flag_object id) k.order timeout may)
    ∙ over_sem_flags p c asked (int_eq timeout (pos 0)))
flag_case mode p t id wish timeout k true may short one most at inside settled own =
    let c : Base = make_wait p.base t (flag_object id) k.order timeout in
    let asked : SemFlags = asked_wish p.objects.sem_flags t wish in
    let now : Parts = sem_flags_to p c asked in
    let result : Answer = flag_answer k in
    let d : Base = release c t result in
    let left : SemFlags = cleared_flag asked id k (wish_of asked t) in
    let served : Parts = sem_flags_to p d left in
    let away : AwayFrom p.base c (flag_object id) = queue_elsewhere p.base t (flag_object id) k.order timeout may in
    let rejoined : (other : ℕ) → SameQueue p.base d other = queue_rejoined p.base t (flag_object id) k.order timeout result may in
    let no_mutex : IsNoMutex (flag_object id) = grind (arith, nat_tests, most) in
    let none = none_of p settled.unserved in
    let up = kept_up_to_date p.base c p.objects.mutexes (joined_keeps p.base t (flag_object id) k.order timeout may no_mutex) settled.up_to_date in
    let done : serve_object served ≡ None =
    sem_flags_first p d left (flag_object id) short (omega (arith, one)) (omega (arith, most)) (λ other apart. rejoined other) none
    ∙ ap (option_map (with_sem_flags served)) (flag_done p d t id wish (wish_of asked t) k may at rejoined none.sem_flags) in
    sym (returns_once mode p now served t timeout result up
    (sem_flags_first p c asked (flag_object id) short (omega (arith, one)) (omega (arith, most)) away none ∙ ap (option_map (with_sem_flags now)) own)
    (record {
      unserved = done;
      up_to_date = kept_up_to_date c d p.objects.mutexes (served_keeps p.base t (flag_object id) k.order timeout result may no_mutex) up;
      given = given_still mode p served refl (rejoined 648) settled.given;
    })
    (joined_waits p.base t (flag_object id) k.order timeout may) refl
    ∙ ap (λ base. record { parts = sem_flags_to p base (cleared_flag p.objects.sem_flags id k (wish_of asked t)); outcome = Returned result })
    (base_back p.base t (flag_object id) k.order timeout result may)
    ∙ ap (λ it. record { parts = sem_flags_to p p.base (cleared_flag p.objects.sem_flags id k it); outcome = Returned result }) (wish_asked p.objects.sem_flags t wish inside))

-- a call for an event flag does what the paragraph says
pub flag_call_is_paragraph : (mode : Mode) (p : Parts) (t id : ℕ) (wish : FlagWish) (timeout : ℤ) (k : EventFlag) → IsSettled mode p → MayWait p.base t → 1 ≤ id →
    flag_at p.objects.sem_flags id ≡ Some k → t < length p.objects.sem_flags.wishes →
    sem_flag_waits p (waited_for_flag p.base p.objects.sem_flags t id wish timeout (Some k)) ≡ paragraph mode p t (flag_object id) k.order timeout
    (record p.objects { sem_flags = asked_wish p.objects.sem_flags t wish })
unfolding paragraph serve_flag
flag_call_is_paragraph mode p t id wish timeout k settled may one at inside =
    let s : SemFlags = p.objects.sem_flags in
    let c : Base = make_wait p.base t (flag_object id) k.order timeout in
    let asked : SemFlags = asked_wish s t wish in
    let few = settled.short.flags in
    let stands = entry_inside s.flags id k at in
    let none = none_of p settled.unserved in
    flag_case mode p t id wish timeout k (has_bits k.pattern wish) may settled.short one (omega (arith, few, stands)) at inside (has_settled mode p settled)
    (flag_alone p c t id wish k settled.short may one at (queue_elsewhere p.base t (flag_object id) k.order timeout may) none.sem_flags
    ∙ ap (serve_flag_at c asked id) at
    ∙ ap (serve_flag_of c asked id k)
    (flag_served_joined p.base s t id wish timeout k may inside (flag_settled p.base s id k at (each_flag p.base s id one none.sem_flags (Some k) at))))
