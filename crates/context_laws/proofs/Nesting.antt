-- How deep tasks are in nested services.
use Rattle.std.proofs.Common.{◌≡◌, ℕ, suc, zero, ◌+◌, ◌-◌, ◌<◌, ◌≤◌, Bool, true, false, List, [], ◌∷◌, length, Some, None, refl, cond, ◌∙◌, ap, sym, ℤ, pos, arith}
use Rattle.std.specs.Prelude.{int_le, nat_lt, slice_index, slice_set}
use Rattle.std.proofs.lemmas.Bool.Decides.{nat_tests}
use Rattle.tk_types.specs.declared.answer.Who.{Who}
use Rattle.tk_types.specs.declared.answer.Who.TheVariants as whos
use Rattle.tk_types.specs.declared.answer.Outcome.TheVariants.{Entered}
use Rattle.tk_types.specs.declared.error_code.Er.TheVariants as er
use Rattle.tk_types.specs.declared.calls.ContextCall.{ContextCall}
use Rattle.tk_types.specs.declared.calls.ContextCall.TheVariants as context
use Rattle.kernel_model.specs.declared.marks.Mark.TheVariants.{NeedsTask}
use Rattle.kernel_model.specs.Words.Checks.{Check, ◌otherwise◌, first_error, within, natural, failed}
use Rattle.kernel_model.specs.Tasks.Base.{Base}
use Rattle.kernel_model.specs.Tasks.Calls.{caller}
use Rattle.kernel_model.specs.Tasks.Marks.{allows}
use Rattle.context_model.specs.Contexts.Tables.{Contexts, depth_in, deeper, has_ssy, left, service_of, with_depth}
use Rattle.context_model.specs.Contexts.Calls.{ContextDone, context_call, context_checked, define_handler, disable_dispatch, enable_dispatch, disable_interrupts, enable_interrupts, refer_system, define_service, define_service_checks, refer_service, enter_service, service_checks}
use Rattle.context_laws.proofs.Checked.{context_cases, holds_at}

-- ---- lists of numbers with one written

pub same_place : (xs : List ℕ) (i y : ℕ) → i < length xs → slice_index (slice_set xs i y) i ≡ y
same_place [] i y inside = absurd (omega (arith, inside))
same_place (x ∷ xs) zero y inside = refl
same_place (x ∷ xs) (suc i) y inside = same_place xs i y (omega (arith, inside))

pub other_place : (xs : List ℕ) (i j y : ℕ) → (j ≡ i → ⊥) → slice_index (slice_set xs i y) j ≡ slice_index xs j
other_place [] i j y apart = refl
other_place (x ∷ xs) zero zero y apart = absurd (apart refl)
other_place (x ∷ xs) zero (suc j) y apart = refl
other_place (x ∷ xs) (suc i) zero y apart = refl
other_place (x ∷ xs) (suc i) (suc j) y apart = other_place xs i j y (λ e. apart (ap (λ n. suc n) e))

put_back : (xs : List ℕ) (i y : ℕ) → slice_set (slice_set xs i y) i (slice_index xs i) ≡ xs
put_back [] i y = refl
put_back (x ∷ xs) zero y = refl
put_back (x ∷ xs) (suc i) y = ap (λ rest. x ∷ rest) (put_back xs i y)

first_or : (limit x : ℕ) (xs : List ℕ) → x ≤ limit → ((j : ℕ) → slice_index xs j ≤ limit) → (j : ℕ) → slice_index (x ∷ xs) j ≤ limit
first_or limit x xs first rest zero = first
first_or limit x xs first rest (suc j) = rest j

-- each of them stays at most a number
at_most : (limit : ℕ) (xs : List ℕ) (i y : ℕ) → y ≤ limit → ((j : ℕ) → slice_index xs j ≤ limit) → (j : ℕ) → slice_index (slice_set xs i y) j ≤ limit
at_most limit [] i y less all = all
at_most limit (x ∷ xs) zero y less all = first_or limit y xs less (λ j. all (suc j))
at_most limit (x ∷ xs) (suc i) y less all = first_or limit x (slice_set xs i y) (all zero) (at_most limit xs i y less (λ j. all (suc j)))

-- ---- entering

-- what the caller of a service meets, where it enters it
pub record HasEntered (b : Base) (c : Contexts) (t : ℕ) (number : ℤ) (body : ℕ) (result : ContextDone) : Type 0 where
  pub room : depth_in c t < 8
  pub entered : body ≡ service_of c (natural number)
  pub same_base : result.base ≡ b
  pub deeper_by_one : t < length c.depths → depth_in result.table t ≡ depth_in c t + 1
  pub others : (u : ℕ) → (u ≡ t → ⊥) → depth_in result.table u ≡ depth_in c u
  pub undone : t < length c.depths → left result.table t false ≡ c

abbrev IfEntered : Base → Contexts → ℕ → ℤ → ℕ → ContextDone → Type 0
IfEntered b c t number body result = result.outcome ≡ Entered body → HasEntered b c t number body result

left_again : (c : Contexts) (t : ℕ) → t < length c.depths → left (deeper c t) t false ≡ c
unfolding left
left_again c t inside =
    let depth : depth_in (deeper c t) t ≡ depth_in c t + 1 = same_place c.depths t (depth_in c t + 1) inside in
    let back : depth_in (deeper c t) t - 1 ≡ depth_in c t = omega (arith, depth) in
    ap (λ n. with_depth (deeper c t) t n) back ∙ ap (λ depths. record c { depths = depths }) (put_back c.depths t (depth_in c t + 1))

pub enters : (b : Base) (c : Contexts) (t : ℕ) (number value : ℤ) (body : ℕ) → IfEntered b c t number body (context_call b c (whos.Task t) (context.Svc number value))
unfolding context_call enter_service
enters b c t number value body = context_cases (IfEntered b c t number body) (service_checks b c (whos.Task t) number value) b c
    (record { base = b; table = deeper c t; outcome = Entered (service_of c (natural number)) })
    (λ code is. absurd (cc is))
    (λ none is. record {
      room = (let fewer : nat_lt (depth_in c t) 8 ≡ true = holds_at 4 (service_checks b c (whos.Task t) number value) none in grind (arith, nat_tests, fewer));
      entered = cc (sym is);
      same_base = refl;
      deeper_by_one = λ inside. same_place c.depths t (depth_in c t + 1) inside;
      others = λ u apart. other_place c.depths t u (depth_in c t + 1) apart;
      undone = λ inside. left_again c t inside;
    })

from_zero : (n : ℕ) → int_le (pos 0) (pos n) ≡ true
from_zero n = grind (arith, nat_tests)

refused : (checks : List Check) (b : Base) (c : Contexts) (effect : ContextDone) → first_error checks ≡ Some er.Limit → context_checked checks b c effect ≡ record { base = b; table = c; outcome = failed er.Limit }
refused checks b c effect error = rw error refl

-- a ninth nesting is refused
pub ninth : (b : Base) (c : Contexts) (t number value : ℕ) → has_ssy c number ≡ true → depth_in c t ≡ 8 → (context_call b c (whos.Task t) (context.Svc (pos number) (pos value))).outcome ≡ failed er.Limit
unfolding context_call enter_service
ninth b c t number value is eight =
    let full : nat_lt (depth_in c t) 8 ≡ false = grind (arith, nat_tests, eight) in
    ap (λ (result : ContextDone). result.outcome) (refused (service_checks b c (whos.Task t) (pos number) (pos value)) b c _ (rw (from_zero number, from_zero value, is, full) refl))

-- ---- leaving

pub leaves_one : (c : Contexts) (t : ℕ) → t < length c.depths → depth_in (left c t false) t ≡ depth_in c t - 1
unfolding left
leaves_one c t inside = same_place c.depths t (depth_in c t - 1) inside

pub leaves_all : (c : Contexts) (t : ℕ) → t < length c.depths → depth_in (left c t true) t ≡ 0
unfolding left
leaves_all c t inside = same_place c.depths t 0 inside

pub leaves_others : (c : Contexts) (t u : ℕ) (all : Bool) → (u ≡ t → ⊥) → depth_in (left c t all) u ≡ depth_in c u
unfolding left
leaves_others c t u all apart = other_place c.depths t u (cond all 0 (depth_in c t - 1)) apart

-- ---- at most eight

abbrev AreShallow : Contexts → Type 0
AreShallow c = (t : ℕ) → depth_in c t ≤ 8

shallow_checked : (b : Base) (c : Contexts) (checks : List Check) (effect : ContextDone) → AreShallow c → (first_error checks ≡ None → AreShallow effect.table) → AreShallow (context_checked checks b c effect).table
shallow_checked b c checks effect are works = context_cases (λ result. AreShallow result.table) checks b c effect (λ code. are) works

pub call_keeps_shallow : (b : Base) (c : Contexts) (who : Who) (call : ContextCall) → AreShallow c → AreShallow (context_call b c who call).table
unfolding context_call define_handler disable_dispatch enable_dispatch disable_interrupts enable_interrupts refer_system define_service refer_service enter_service
call_keeps_shallow b c who (context.DefInt number body) are = shallow_checked b c ((within 1 255 number otherwise er.Par) ∷ []) _ are (λ none. are)
call_keeps_shallow b c who context.DisDsp are = shallow_checked b c ((allows b.flags who NeedsTask otherwise er.Ctx) ∷ []) _ are (λ none. are)
call_keeps_shallow b c who context.EnaDsp are = shallow_checked b c ((allows b.flags who NeedsTask otherwise er.Ctx) ∷ []) _ are (λ none. are)
call_keeps_shallow b c who context.Di are = shallow_checked b c ((allows b.flags who NeedsTask otherwise er.Ctx) ∷ []) _ are (λ none. are)
call_keeps_shallow b c who context.Ei are = shallow_checked b c ((allows b.flags who NeedsTask otherwise er.Ctx) ∷ []) _ are (λ none. are)
call_keeps_shallow b c who context.RefSys are = are
call_keeps_shallow b c who (context.DefSsy number body) are = shallow_checked b c (define_service_checks c number body) _ are (λ none. are)
call_keeps_shallow b c who (context.RefSsy number) are = shallow_checked b c ((within 1 255 number otherwise er.Id) ∷ (has_ssy c (natural number) otherwise er.NoExs) ∷ []) _ are (λ none. are)
call_keeps_shallow b c who (context.Svc number value) are = shallow_checked b c (service_checks b c who number value) _ are (λ none.
    let fewer : nat_lt (depth_in c (caller who)) 8 ≡ true = holds_at 4 (service_checks b c who number value) none in
    at_most 8 c.depths (caller who) (depth_in c (caller who) + 1) (grind (arith, nat_tests, fewer)) are)

less_if : (all : Bool) (depth : ℕ) → depth ≤ 8 → cond all 0 (depth - 1) ≤ 8
less_if true depth less = omega arith
less_if false depth less = omega (arith, less)

pub left_keeps_shallow : (c : Contexts) (t : ℕ) (all : Bool) → AreShallow c → AreShallow (left c t all)
unfolding left
left_keeps_shallow c t all are = at_most 8 c.depths t (cond all 0 (depth_in c t - 1)) (less_if all (depth_in c t) (are t)) are
