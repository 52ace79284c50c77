-- A driver that serves a request by itself, turn by turn, gives the ending of the request done whole.
use Rattle.std.proofs.Common.{◌≡◌, ℕ, suc, ◌+◌, ◌-◌, ◌*◌, ◌≤◌, ◌<◌, Bool, true, false, not, ◌&&◌, List, [], Option, Some, None, refl, ap, sym, subst, ◌∙◌, arith}
use Rattle.std.specs.Prelude.{if◌then◌else◌, nat_lt}
use Rattle.std.specs.Option.{option_map}
use Rattle.std.proofs.lemmas.Bool.Decides.{nat_tests}
use Rattle.tk_types.specs.declared.line.How.TheVariants.{Done}
use Rattle.device_model.specs.declared.messages.Ending.{Ending}
use Rattle.device_model.specs.declared.messages.Message.TheVariants as message
use Rattle.device_model.specs.declared.messages.Request.{Request}
use Rattle.device_model.specs.Units.Blocks.{Partial, blocks, is_last}
use Rattle.device_model.specs.Units.Function.{IsWhole, Served, begin, block_size, count_of, unit}
use Rattle.device_model.specs.Devices.Endings.{ending_of}
use Rattle.driver_model.specs.Cores.{Core, after_block, after_ending, after_message, done, empty_turns, ending_out, has_work, next_block, turned, went_on, worked}
use Rattle.unit_laws.proofs.Counts.{count_bounds}
use Rattle.driver_laws.proofs.Lasts.{Reached, last_is, last_is_unit, served_at}
use Rattle.tk_gen.specs.Serving.{IsFree}

-- ---- how far the driver has come

-- so many blocks of a request are done
abbrev at_block : Core → Request → ℕ → Core
at_block first request k = record first {
  store = (blocks first.kind first.store request k).store;
  given = Some request;
  blocks = k;
  turns = 0;
  content = (blocks first.kind first.store request k).content;
  ready = None;
  taken = first.taken + 1;
}

-- a request was served so, and its ending is ready
abbrev with_ready : Core → Request → Served → Core
with_ready first request served = record first {
  store = served.store;
  given = None;
  blocks = 0;
  turns = 0;
  content = [];
  ready = Some (ending_of first.device request Done served);
  taken = first.taken + 1;
}

pub data IsAtWork (first : Core) (request : Request) : Core → Type 0 where
  in_blocks : (k : ℕ) → Reached first.kind first.store request k → IsAtWork first request (at_block first request k)
  at_end : IsAtWork first request (with_ready first request (unit first.kind first.store request))

-- how many blocks are left at most
abbrev pub left_to_do : Option Request → ℕ → ℕ
left_to_do None done = 0
left_to_do (Some request) done = suc (request.size - block_size * done)

-- ---- the request is taken

begun_is : (first : Core) (request : Request) → first.ready ≡ None → after_message first (message.Serve 1 request) ≡ at_block first request 0
unfolding after_message blocks
begun_is first request unready =
    ap (λ (ready : Option Ending). let now : Core = record first { store = begin first.store request; given = Some request; blocks = 0; turns = 0; content = []; ready = ready; taken = first.taken + 1 } in now) unready

pub begins : (first now : Core) (request : Request) → IsFree first → now ≡ after_message first (message.Serve 1 request) → IsAtWork first request now
begins first now request free is =
    subst (λ (core : Core). IsAtWork first request core) (sym (is ∙ begun_is first request free.ready)) (in_blocks 0 (omega arith))

-- ---- turns

next_is : (first : Core) (request : Request) (k : ℕ) → next_block (at_block first request k) request ≡ blocks first.kind first.store request (suc k)
unfolding blocks
next_is first request k = refl

-- a block that isn't the last
went : (first : Core) (request : Request) (k : ℕ) → went_on (at_block first request k) (next_block (at_block first request k) request) ≡ at_block first request (suc k)
went first request k =
    let one_more : k + 1 ≡ suc k = omega arith in
    ap (λ (p : Partial). let now : Core = record (at_block first request k) { store = p.store; blocks = k + 1; content = p.content } in now) (next_is first request k)
    ∙ ap (λ (n : ℕ). let now : Core = record (at_block first request (suc k)) { blocks = n } in now) one_more

ready_with : (first : Core) (request : Request) (k : ℕ) →
    done (at_block first request k) request (next_block (at_block first request k) request) ≡ with_ready first request (served_at first.kind first.store request k)
ready_with first request k =
    ap (λ (p : Partial). done (at_block first request k) request p) (next_is first request k)

-- the last block
finished : (first : Core) (request : Request) (k : ℕ) → IsWhole request → Reached first.kind first.store request k →
    count_of first.kind (begin first.store request) request ≤ block_size * k + block_size →
    done (at_block first request k) request (next_block (at_block first request k) request) ≡ with_ready first request (unit first.kind first.store request)
finished first request k whole reached last =
    ready_with first request k ∙ ap (λ (served : Served). with_ready first request served) (last_is_unit first.kind first.store request k whole reached last)

-- what a turn comes to: the request is done, or it goes on with less to do
record Turns (first : Core) (request : Request) (before now : Core) : Type 0 where
  at_work : IsAtWork first request now
  less : left_to_do now.given now.blocks < left_to_do before.given before.blocks

less_left : (size k count : ℕ) → 64 * k + 64 < count → count ≤ size → suc (size - 64 * suc k) < suc (size - 64 * k)
less_left size k count more most = omega (arith, more, most)

by_last : (first : Core) (request : Request) (k : ℕ) → IsWhole request → Reached first.kind first.store request k → (last : Bool) →
    is_last first.kind (blocks first.kind first.store request k).store request k ≡ last →
    Turns first request (at_block first request k)
    (if last then done (at_block first request k) request (next_block (at_block first request k) request) else went_on (at_block first request k) (next_block (at_block first request k) request))
by_last first request k whole reached true is =
    let known = last_is first.kind first.store request k whole reached true is in
    let last : count_of first.kind (begin first.store request) request ≤ 64 * k + 64 = grind (arith, nat_tests, known) in
    subst (λ (now : Core). Turns first request (at_block first request k) now) (sym (finished first request k whole reached last))
    (record { at_work = at_end; less = omega arith })
by_last first request k whole reached false is =
    let known = last_is first.kind first.store request k whole reached false is in
    let more : 64 * k + 64 < count_of first.kind (begin first.store request) request = grind (arith, nat_tests, known) in
    let count : ℕ = count_of first.kind (begin first.store request) request in
    subst (λ (now : Core). Turns first request (at_block first request k) now) (sym (went first request k))
    (record {
      at_work = in_blocks (suc k) (omega (arith, more));
      less = count_bounds first.kind (begin first.store request) request count _ (omega arith) (omega (arith, more)) (λ most there. less_left request.size k count more most);
    })

empty_not : (turns : ℕ) (first : Core) (other : Bool) → empty_turns first.kind ≡ 0 → (nat_lt 0 (empty_turns first.kind) && other) ≡ false
empty_not turns first other none = ap (λ (n : ℕ). nat_lt 0 n && other) none

turned_is : (first : Core) (request : Request) (k : ℕ) → empty_turns first.kind ≡ 0 → turned (at_block first request k) (Some request) ≡ worked (at_block first request k) request
turned_is first request k none =
    ap (λ (test : Bool). if test then record (at_block first request k) { turns = 1 } else worked (at_block first request k) request) (empty_not 0 first _ none)

after_is : (first : Core) (request : Request) (k : ℕ) → IsFree first → after_block (at_block first request k) ≡ worked (at_block first request k) request
unfolding after_block
after_is first request k free =
    ap (λ (stopped : Bool). if stopped then at_block first request k else turned (at_block first request k) (Some request)) free.going ∙ turned_is first request k free.quick

block_turns : (first : Core) (request : Request) (k : ℕ) → IsFree first → IsWhole request → Reached first.kind first.store request k →
    Turns first request (at_block first request k) (after_block (at_block first request k))
block_turns first request k free whole reached =
    subst (λ (now : Core). Turns first request (at_block first request k) now) (sym (after_is first request k free))
    (by_last first request k whole reached (is_last first.kind (blocks first.kind first.store request k).store request k) refl)

work_turns : (first : Core) (request : Request) (before : Core) → IsFree first → IsWhole request → IsAtWork first request before → has_work before ≡ true →
    Turns first request before (after_block before)
work_turns first request before free whole (in_blocks k reached) works = block_turns first request k free whole reached
work_turns first request before free whole at_end works = absurd (no_work first.stopped works)
  where
    no_work : (stopped : Bool) → (not stopped && false) ≡ true → ⊥
    no_work true is = cc is
    no_work false is = cc is

-- the driver is still at work after a turn
pub works_on : (first : Core) (request : Request) (before now : Core) → IsFree first → IsWhole request → IsAtWork first request before → true ≡ has_work before → now ≡ after_block before →
    IsAtWork first request now
works_on first request before now free whole work works is =
    subst (λ (core : Core). IsAtWork first request core) (sym is) (work_turns first request before free whole work (sym works)).at_work

-- with less to do
pub works_less : (first : Core) (request : Request) (before now : Core) → IsFree first → IsWhole request → IsAtWork first request before → true ≡ has_work before → now ≡ after_block before →
    left_to_do now.given now.blocks < left_to_do before.given before.blocks
works_less first request before now free whole work works is =
    subst (λ (core : Core). left_to_do core.given core.blocks < left_to_do before.given before.blocks) (sym is) (work_turns first request before free whole work (sym works)).less

-- ---- the ending

-- a driver that has no turn to make has its ending ready
rests_by : (first : Core) (request : Request) (now : Core) → IsFree first → IsAtWork first request now → has_work now ≡ false →
    now ≡ with_ready first request (unit first.kind first.store request)
rests_by first request now free (in_blocks k reached) rests = absurd (works first.stopped free.going rests)
  where
    works : (stopped : Bool) → stopped ≡ false → (not stopped && true) ≡ false → ⊥
    works true going is = cc going
    works false going is = cc is
rests_by first request now free at_end rests = refl

rested : (first : Core) (request : Request) (before now : Core) → IsFree first → IsAtWork first request before → false ≡ has_work before → now ≡ after_block before →
    now ≡ with_ready first request (unit first.kind first.store request)
unfolding after_block
rested first request before now free work rests is =
    let same = rests_by first request before free work (sym rests) in
    is ∙ (ap (λ (core : Core). after_block core) same ∙ still first.stopped)
  where
    still : (stopped : Bool) →
        (if stopped then with_ready first request (unit first.kind first.store request) else with_ready first request (unit first.kind first.store request))
        ≡ with_ready first request (unit first.kind first.store request)
    still true = refl
    still false = refl

-- the ending that it gives out
abbrev pub whole_ending : Core → Request → Ending
whole_ending first request = record (ending_of first.device request Done (unit first.kind first.store request)) { taken = first.taken + 1 }

out_is : (first : Core) (request : Request) → first.stopped ≡ false → ending_out (with_ready first request (unit first.kind first.store request)) ≡ Some (whole_ending first request)
unfolding ending_out
out_is first request going =
    ap (λ (stopped : Bool). if stopped then None else option_map (λ (e : Ending). record e { taken = first.taken + 1 }) (Some (ending_of first.device request Done (unit first.kind first.store request)))) going

-- what it gives out once it rests is that ending
pub gives : (first : Core) (request : Request) (before now : Core) (given : Option Ending) → IsFree first → IsAtWork first request before → false ≡ has_work before → now ≡ after_block before →
    given ≡ ending_out now → given ≡ Some (whole_ending first request)
gives first request before now given free work rests is out =
    out ∙ (ap (λ (core : Core). ending_out core) (rested first request before now free work rests is) ∙ out_is first request free.going)

free_again : (first : Core) (request : Request) → IsFree first → after_ending (with_ready first request (unit first.kind first.store request)) ≡
    (let now : Core = record first { store = (unit first.kind first.store request).store; taken = first.taken + 1 } in now)
unfolding after_ending
free_again first request free =
    ap (λ (stopped : Bool). if stopped then with_ready first request (unit first.kind first.store request) else record (with_ready first request (unit first.kind first.store request)) { ready = None }) free.going
    ∙ (ap (λ (given : Option Request). let now : Core = record first { store = (unit first.kind first.store request).store; given = given; blocks = 0; turns = 0; content = []; ready = None; taken = first.taken + 1 } in now) (sym free.given)
    ∙ (ap (λ (n : ℕ). let now : Core = record first { store = (unit first.kind first.store request).store; blocks = n; turns = 0; content = []; ready = None; taken = first.taken + 1 } in now) (sym free.blocks)
    ∙ (ap (λ (n : ℕ). let now : Core = record first { store = (unit first.kind first.store request).store; turns = n; content = []; ready = None; taken = first.taken + 1 } in now) (sym free.turns)
    ∙ (ap (λ (bytes : List ℕ). let now : Core = record first { store = (unit first.kind first.store request).store; content = bytes; ready = None; taken = first.taken + 1 } in now) (sym free.content)
    ∙ ap (λ (ready : Option Ending). let now : Core = record first { store = (unit first.kind first.store request).store; ready = ready; taken = first.taken + 1 } in now) (sym free.ready)))))

-- then it is free again
pub leaves : (first : Core) (request : Request) (before now last : Core) → IsFree first → IsAtWork first request before → false ≡ has_work before → now ≡ after_block before → last ≡ after_ending now →
    last ≡ (let core : Core = record first { store = (unit first.kind first.store request).store; taken = first.taken + 1 } in core)
leaves first request before now last free work rests is out =
    out ∙ (ap (λ (core : Core). after_ending core) (rested first request before now free work rests is) ∙ free_again first request free)
