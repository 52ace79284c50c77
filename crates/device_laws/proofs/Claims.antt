-- What is handed out is the ending of the request that was asked for.
use Rattle.std.proofs.Common.{◌≡◌, ℕ, Bool, true, false, List, [], ◌∷◌, Option, Some, None, refl, ap, sym, subst, ◌∙◌, ℤ, pos, arith}
use Rattle.std.specs.Prelude.{if◌then◌else◌, ◌==◌, ◌&&◌, filter, find}
use Rattle.std.specs.Int.{is_negative}
use Rattle.std.specs.List.{list_all}
use Rattle.std.specs.Option.{is_some, option_or}
use Rattle.std.specs.Ordering.{int_eq}
use Rattle.std.proofs.lemmas.Bool.Decides.{nat_tests}
use Rattle.tk_types.specs.declared.answer.Answer.{Answer}
use Rattle.tk_types.specs.declared.answer.Outcome.{Outcome}
use Rattle.tk_types.specs.declared.answer.Outcome.TheVariants.{Returned}
use Rattle.tk_types.specs.declared.answer.Who.{Who}
use Rattle.tk_types.specs.declared.calls.DeviceCall.TheVariants as call
use Rattle.tk_types.specs.declared.error_code.Er.{Er}
use Rattle.tk_types.specs.declared.error_code.Er.TheVariants as er
use Rattle.tk_types.specs.Codes.{code_of}
use Rattle.kernel_model.specs.Words.Checks.{Check, first_error, natural, failed}
use Rattle.kernel_model.specs.Tasks.Base.{fifo_queue, release, waits_for}
use Rattle.kernel_model.specs.Tasks.Calls.{caller}
use Rattle.object_model.specs.Servings.{first_serving}
use Rattle.device_model.specs.declared.rows.Life.{Life}
use Rattle.device_model.specs.declared.rows.Life.TheVariants as life
use Rattle.device_model.specs.declared.rows.Wish.{Wish}
use Rattle.device_model.specs.declared.rows.Wish.TheVariants as wish
use Rattle.device_model.specs.Devices.Tables.{Row, Devices, has_ended, row_at, wish_of, with_wish, dropped}
use Rattle.device_model.specs.Devices.Endings.{DevParts}
use Rattle.device_model.specs.Devices.Requests.{claimed, claimed_life, claimed_row, ending_object, has_ended_of, has_ended_with, is_own, picked}
use Rattle.device_model.specs.Devices.Servings as servings
use Rattle.device_model.specs.Devices.Calls as calls
use Rattle.device_model.specs.Devices.Calls.{DevDone, device_call}
use Rattle.device_laws.specs.Claims.{HandsOut, IsClaim, Serves}
use Rattle.device_laws.proofs.Follows.{found}

both : (one other : Bool) → (one && other) ≡ true → (one ≡ true) × (other ≡ true)
both true other is = (refl, is)
both false other is = absurd (cc is)

is_equal : (n m : ℕ) → (n == m) ≡ true → n ≡ m
is_equal n m is = grind (arith, nat_tests, is)

abbrev serial_or : Option Row → ℕ
serial_or None = 0
serial_or (Some row) = row.serial

-- a request that has ended, with what it says
record Over (dv : Devices) (dd id : ℕ) : Type 0 where
  row : Row
  size : ℕ
  error : Er
  there : row_at dv id ≡ Some row
  descriptor : row.descriptor ≡ dd
  over : row.life ≡ life.Ended size error

over_by_life : (dv : Devices) (dd id : ℕ) (row : Row) → row_at dv id ≡ Some row → row.descriptor ≡ dd → (now : Life) → row.life ≡ now → has_ended now ≡ true → Over dv dd id
over_by_life dv dd id row there own (life.Ended size error) is over = record { row = row; size = size; error = error; there = there; descriptor = own; over = is }
over_by_life dv dd id row there own life.Queued is over = absurd (cc over)
over_by_life dv dd id row there own life.AtDriver is over = absurd (cc over)

over_by_slot : (dv : Devices) (dd id : ℕ) (slot : Option Row) → row_at dv id ≡ slot → has_ended_of dd slot ≡ true → Over dv dd id
over_by_slot dv dd id None there over = absurd (cc over)
over_by_slot dv dd id (Some row) there over =
    let facts = both (row.descriptor == dd) (has_ended row.life) over in
    over_by_life dv dd id row there (is_equal row.descriptor dd facts.0) row.life refl facts.1

-- the same with a serial
over_with : (dv : Devices) (dd serial id : ℕ) (slot : Option Row) → row_at dv id ≡ slot → has_ended_with dd serial slot ≡ true → (Over dv dd id) × ((row : Row) → row_at dv id ≡ Some row → row.serial ≡ serial)
over_with dv dd serial id None there over = absurd (cc over)
over_with dv dd serial id (Some row) there over =
    let first = both (row.serial == serial) (row.descriptor == dd && has_ended row.life) over in
    let facts = both (row.descriptor == dd) (has_ended row.life) first.1 in (
      over_by_life dv dd id row there (is_equal row.descriptor dd facts.0) row.life refl facts.1,
      λ other also. ap (λ (o : Option Row). serial_or o) (sym also ∙ there) ∙ is_equal row.serial serial first.0,
    )

-- an ending that is picked is that of a request of the descriptor which has ended, the very one or the earliest
record Picks (dv : Devices) (dd id : ℕ) (asked_for : Wish) : Type 0 where
  facts : Over dv dd id
  very : (named serial : ℕ) (own : Bool) → asked_for ≡ wish.Ending named serial own → (id ≡ named) × ((row : Row) → row_at dv id ≡ Some row → row.serial ≡ serial)
  earliest : asked_for ≡ wish.AnyEnding → find (λ n. has_ended_of dd (row_at dv n)) dv.ended ≡ Some id

abbrev or_zero : Option ℕ → ℕ
or_zero None = 0
or_zero (Some n) = n

abbrev named_in : Wish → ℕ
named_in (wish.Ending named serial own) = named
named_in _ = 0

abbrev serial_in : Wish → ℕ
serial_in (wish.Ending named serial own) = serial
serial_in _ = 0

abbrev code_or : Option Er → ℤ
code_or None = pos 0
code_or (Some error) = code_of error

some_is : (n id : ℕ) → Some n ≡ Some id → n ≡ id
some_is n id is = ap (λ (o : Option ℕ). or_zero o) is

picked_by : (dv : Devices) (dd id named serial : ℕ) (own test : Bool) → has_ended_with dd serial (row_at dv named) ≡ test → (if test then Some named else None) ≡ Some id → Picks dv dd id (wish.Ending named serial own)
picked_by dv dd id named serial own false over is = absurd (cc is)
picked_by dv dd id named serial own true over is =
    let same : named ≡ id = some_is named id is in
    let facts = subst (λ (n : ℕ). (Over dv dd n) × ((row : Row) → row_at dv n ≡ Some row → row.serial ≡ serial)) same (over_with dv dd serial named (row_at dv named) refl over) in
    record {
      facts = facts.0;
      very = λ other number mine asked_for. (sym same ∙ ap (λ (w : Wish). named_in w) asked_for, λ row there. facts.1 row there ∙ ap (λ (w : Wish). serial_in w) asked_for);
      earliest = λ any. absurd (cc any);
    }

picks : (dv : Devices) (dd id : ℕ) (asked_for : Wish) → picked dv dd asked_for ≡ Some id → Picks dv dd id asked_for
unfolding picked
picks dv dd id wish.Nothing is = absurd (cc is)
picks dv dd id (wish.Acceptance transfer stays) is = absurd (cc is)
picks dv dd id (wish.Ending named serial own) is = picked_by dv dd id named serial own (has_ended_with dd serial (row_at dv named)) refl is
picks dv dd id wish.AnyEnding is = record {
  facts = over_by_slot dv dd id (row_at dv id) refl (found (λ n. has_ended_of dd (row_at dv n)) dv.ended id is);
  very = λ named serial own asked_for. absurd (cc asked_for);
  earliest = λ any. is;
}

-- what is told of it
told_of : (dv : Devices) (own : Bool) (id : ℕ) (row : Row) (size : ℕ) (error : Er) → row_at dv id ≡ Some row → row.life ≡ life.Ended size error → claimed dv own id ≡ claimed_life own id (life.Ended size error)
told_of dv own id row size error there over = ap (λ (slot : Option Row). claimed_row own id slot) there ∙ ap (λ (now : Life). claimed_life own id now) over

claim_of : (dv : Devices) (dd id : ℕ) (own : Bool) (answer : Answer) (after : Devices) → Over dv dd id → answer ≡ claimed dv own id → after ≡ dropped dv id → IsClaim dv dd id own answer after
claim_of dv dd id own answer after facts told gone = record {
  row = facts.row;
  size = facts.size;
  error = facts.error;
  there = facts.there;
  descriptor = facts.descriptor;
  over = facts.over;
  told = told ∙ told_of dv own id facts.row facts.size facts.error facts.there facts.over;
  gone = gone;
}

-- ---- in the call

error_by : (test : Bool) (error e : Er) (rest : Option Er) → is_negative (code_of error) ≡ true → (rest ≡ Some e → is_negative (code_of e) ≡ true) → (if test then rest else Some error) ≡ Some e → is_negative (code_of e) ≡ true
error_by true error e rest first later is = later is
error_by false error e rest first later is = ap (λ (o : Option Er). is_negative (code_or o)) (sym is) ∙ first

abbrev is_error : Check → Bool
is_error check = is_negative (code_of check.error)

-- the error of a call is a number below 0, where that of each of its checks is
negative_error : (checks : List Check) (e : Er) → list_all is_error checks ≡ true → first_error checks ≡ Some e → is_negative (code_of e) ≡ true
negative_error [] e all is = absurd (cc is)
negative_error (check ∷ checks) e all is =
    let facts = both (is_error check) (list_all is_error checks) all in
    error_by check.holds check.error e (first_error checks) facts.0 (negative_error checks e facts.1) is

abbrev answer_in : Outcome → Answer → Answer
answer_in (Returned answer) otherwise = answer
answer_in _ otherwise = otherwise

record Returns (done : DevDone) (answer : Answer) : Type 0 where
  is : done.outcome ≡ Returned answer
  right : is_negative answer.value ≡ false

no_failure : (p : DevParts) (e : Er) (answer : Answer) → is_negative (code_of e) ≡ true → Returns (record { parts = p; outcome = failed e }) answer → ⊥
no_failure p e answer negative returns =
    let same : is_negative (code_of e) ≡ is_negative answer.value = ap (λ (o : Outcome). is_negative (answer_in o answer).value) returns.is in
    cc (negative, same, returns.right)

over_in_time : is_negative (code_of er.TmOut) ≡ true
unfolding code_of
over_in_time = refl

-- the call hands out what it has picked
handed_out : (p : DevParts) (t dd named : ℕ) (timeout : ℤ) (answer : Answer) (asked_for : Wish) → ((named ≡ 0 → ⊥) → (serial : ℕ) × (asked_for ≡ wish.Ending named serial false)) → (named ≡ 0 → asked_for ≡ wish.AnyEnding) →
    (found_one : Option ℕ) → picked p.table dd asked_for ≡ found_one → Returns (calls.ending_waited p t dd timeout asked_for found_one) answer → HandsOut p dd named answer (calls.ending_waited p t dd timeout asked_for found_one).parts
handed_out p t dd named timeout answer asked_for named_one any (Some id) is returns =
    let one : Picks p.table dd id asked_for = picks p.table dd id asked_for is in
    record {
      id = id;
      claim = claim_of p.table dd id false answer (dropped p.table id) one.facts (sym (ap (λ (o : Outcome). answer_in o answer) returns.is)) refl;
      very = λ some. let by_name = named_one some in (one.very named by_name.0 false by_name.1).0;
      earliest = λ none. one.earliest (any none);
      base = refl;
    }
handed_out p t dd named timeout answer asked_for named_one any None is returns = absurd (ended_or_waits (int_eq timeout (pos 0)) returns)
  where
    ended_or_waits : (over : Bool) → Returns (if over then record { parts = p; outcome = failed er.TmOut } else calls.waits p t (ending_object dd) timeout (with_wish p.table t asked_for)) answer → ⊥
    ended_or_waits true back = no_failure p er.TmOut answer over_in_time back
    ended_or_waits false back = absurd (cc back.is)

refused_out : (p : DevParts) (dd named : ℕ) (answer : Answer) (error : Option Er) (effect : DevDone) → ((e : Er) → error ≡ Some e → is_negative (code_of e) ≡ true) →
    (Returns effect answer → HandsOut p dd named answer effect.parts) → Returns (calls.refused_with error p effect) answer → HandsOut p dd named answer (calls.refused_with error p effect).parts
refused_out p dd named answer (Some e) effect negative works returns = absurd (no_failure p e answer (negative e refl) returns)
refused_out p dd named answer None effect negative works returns = works returns

wish_named : (dv : Devices) (id : ℕ) (zero_is : Bool) → (id == 0) ≡ zero_is → (id ≡ 0 → ⊥) → (serial : ℕ) × ((if zero_is then wish.AnyEnding else wish.Ending id (calls.serial_in (row_at dv id)) false) ≡ wish.Ending id serial false)
wish_named dv id true is some = absurd (some (is_equal id 0 is))
wish_named dv id false is some = (calls.serial_in (row_at dv id), refl)

wish_any : (dv : Devices) (id : ℕ) (zero_is : Bool) → (id == 0) ≡ zero_is → id ≡ 0 → (if zero_is then wish.AnyEnding else wish.Ending id (calls.serial_in (row_at dv id)) false) ≡ wish.AnyEnding
wish_any dv id true is none = refl
wish_any dv id false is none = absurd (grind (arith, nat_tests, is, none))

all_errors : (p : DevParts) (who : Who) (descriptor named timeout : ℤ) → list_all is_error (calls.wait_checks p who descriptor named timeout) ≡ true
unfolding code_of
all_errors p who descriptor named timeout = refl

-- `tk_wai_dev` hands out the ending of the request that it named, or of all the earliest
pub wait_hands_out : (p : DevParts) (who : Who) (descriptor named timeout : ℤ) (answer : Answer) →
    (device_call p who (call.WaiDev descriptor named timeout)).outcome ≡ Returned answer → is_negative answer.value ≡ false →
    HandsOut p (natural descriptor) (natural named) answer (device_call p who (call.WaiDev descriptor named timeout)).parts
unfolding device_call calls.wait_ending
wait_hands_out p who descriptor named timeout answer is right =
    let asked_for : Wish = calls.ending_wish p.table (natural named) in
    refused_out p (natural descriptor) (natural named) answer (first_error (calls.wait_checks p who descriptor named timeout))
    (calls.waited p (caller who) (natural descriptor) timeout asked_for)
    (λ e error. negative_error (calls.wait_checks p who descriptor named timeout) e (all_errors p who descriptor named timeout) error)
    (handed_out p (caller who) (natural descriptor) (natural named) timeout answer asked_for
    (wish_named p.table (natural named) (natural named == 0) refl) (wish_any p.table (natural named) (natural named == 0) refl)
    (picked p.table (natural descriptor) asked_for) refl)
    (record { is = is; right = right })

-- ---- in a serving

by_passing : (passes test : ℕ → Bool) (first : ℕ) (ids : List ℕ) (id : ℕ) (kept : Bool) → passes first ≡ kept → (find test (filter passes ids) ≡ Some id → passes id ≡ true) → find test (if kept then first ∷ filter passes ids else filter passes ids) ≡ Some id → passes id ≡ true
by_passing passes test first ids id false is rest found_one = rest found_one
by_passing passes test first ids id true is rest found_one = by_found (test first) found_one
  where
    by_found : (taken : Bool) → (if taken then Some first else find test (filter passes ids)) ≡ Some id → passes id ≡ true
    by_found true same = subst (λ (n : ℕ). passes n ≡ true) (some_is first id same) is
    by_found false same = rest same

filtered_passes : (passes : ℕ → Bool) (test : ℕ → Bool) (ids : List ℕ) (id : ℕ) → find test (filter passes ids) ≡ Some id → passes id ≡ true
filtered_passes passes test [] id is = absurd (cc is)
filtered_passes passes test (first ∷ ids) id is = by_passing passes test first ids id (passes first) refl (filtered_passes passes test ids id) is

abbrev parts_or : Option DevParts → DevParts → DevParts
parts_or None otherwise = otherwise
parts_or (Some parts) otherwise = parts

claimed_serves : (p : DevParts) (dd t : ℕ) → waits_for p.base (ending_object dd) t ≡ true → (first : Option ℕ) → picked p.table dd (wish_of p.table t) ≡ first →
    (q : DevParts) → servings.ending_claimed p t first ≡ Some q → Serves p dd q
claimed_serves p dd t waits None is q served = absurd (cc served)
claimed_serves p dd t waits (Some id) is q served =
    let one : Picks p.table dd id (wish_of p.table t) = picks p.table dd id (wish_of p.table t) is in
    let after : DevParts = record p { base = release p.base t (claimed p.table (is_own (wish_of p.table t)) id); table = dropped p.table id } in
    let same : after ≡ q = ap (λ (o : Option DevParts). parts_or o after) served in
    let claim : IsClaim p.table dd id (is_own (wish_of p.table t)) (claimed p.table (is_own (wish_of p.table t)) id) q.table =
    claim_of p.table dd id (is_own (wish_of p.table t)) (claimed p.table (is_own (wish_of p.table t)) id) q.table one.facts refl (ap (λ (r : DevParts). r.table) (sym same)) in
    record {
      task = t;
      id = id;
      answer = claimed p.table (is_own (wish_of p.table t)) id;
      waits = waits;
      claim = claim;
      very = λ named serial own asked_for. let facts = one.very named serial own asked_for in (facts.0, facts.1 claim.row claim.there);
      earliest = one.earliest;
      released = ap (λ (r : DevParts). r.base) (sym same);
    }

first_serves : (p : DevParts) (dd : ℕ) (first : Option ℕ) → find (λ t. is_some (picked p.table dd (wish_of p.table t))) (fifo_queue p.base (ending_object dd)) ≡ first →
    (q : DevParts) → servings.ending_of_first p dd first ≡ Some q → Serves p dd q
first_serves p dd None is q served = absurd (cc served)
first_serves p dd (Some t) is q served =
    claimed_serves p dd t (filtered_passes (waits_for p.base (ending_object dd)) (λ u. is_some (picked p.table dd (wish_of p.table u))) p.base.since t is) (picked p.table dd (wish_of p.table t)) refl q served

-- an ending that is served is that of the request for which the task waits
pub ending_serves : (p q : DevParts) (dd : ℕ) → servings.serve_ending p dd ≡ Some q → Serves p dd q
unfolding servings.serve_ending
ending_serves p q dd served = first_serves p dd (find (λ t. is_some (picked p.table dd (wish_of p.table t))) (fifo_queue p.base (ending_object dd))) refl q served

or_serves : (p q : DevParts) (dd : ℕ) (serve : ℕ → Option DevParts) (later : Option DevParts) (first : Option DevParts) → serve dd ≡ first → ((later ≡ Some q) → (n : ℕ) × (serve n ≡ Some q)) → option_or first later ≡ Some q → (n : ℕ) × (serve n ≡ Some q)
or_serves p q dd serve later None is rest served = rest served
or_serves p q dd serve later (Some r) is rest served = (dd, is ∙ served)

-- what is served first is served at one of the objects
some_serves : (p q : DevParts) (serve : ℕ → Option DevParts) (ids : List ℕ) → first_serving serve ids ≡ Some q → (n : ℕ) × (serve n ≡ Some q)
unfolding first_serving
some_serves p q serve [] served = absurd (cc served)
some_serves p q serve (id ∷ ids) served = or_serves p q id serve (first_serving serve ids) (serve id) refl (some_serves p q serve ids) served

pub endings_serve : (p q : DevParts) → servings.serve_endings p ≡ Some q → (dd : ℕ) × Serves p dd q
unfolding servings.serve_endings
endings_serve p q served = let at = some_serves p q (servings.serve_ending p) (servings.descriptors p.table) served in (at.0, ending_serves p q at.0 at.1)
