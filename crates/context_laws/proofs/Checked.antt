-- What a call's checks tell: nothing is changed where it is refused, and each holds where it has its effect.
use Rattle.std.proofs.Common.{◌≡◌, ℕ, suc, zero, Bool, true, false, List, [], ◌∷◌, Option, Some, None, refl, cond}
use Rattle.std.specs.Prelude.{slice_get}
use Rattle.tk_types.specs.declared.error_code.Er.{Er}
use Rattle.kernel_model.specs.Words.Checks.{Check, first_error, failed}
use Rattle.kernel_model.specs.Tasks.Base.{Base}
use Rattle.context_model.specs.Clocks.Tables.{Clocks}
use Rattle.context_model.specs.Clocks.Calls.{TimeDone, time_refused, time_checked}
use Rattle.context_model.specs.Contexts.Tables.{Contexts}
use Rattle.context_model.specs.Contexts.Calls.{ContextDone, context_refused, context_checked}
use Rattle.context_model.specs.Hooks.Tables.{Hooks}
use Rattle.context_model.specs.Hooks.Calls.{HookDone, hook_refused, hook_checked}

time_if : (P : TimeDone → Type 0) (error : Option Er) (b : Base) (c : Clocks) (effect : TimeDone) → ((code : Er) → P (record { base = b; table = c; outcome = failed code })) → (error ≡ None → P effect) → P (time_refused error b c effect)
time_if P (Some error) b c effect refused works = refused error
time_if P None b c effect refused works = works refl

-- a call is refused with some error and leaves base and table, or passes its checks
pub time_cases : (P : TimeDone → Type 0) (checks : List Check) (b : Base) (c : Clocks) (effect : TimeDone) → ((code : Er) → P (record { base = b; table = c; outcome = failed code })) → (first_error checks ≡ None → P effect) → P (time_checked checks b c effect)
time_cases P checks b c effect refused works = time_if P (first_error checks) b c effect refused works

context_if : (P : ContextDone → Type 0) (error : Option Er) (b : Base) (c : Contexts) (effect : ContextDone) → ((code : Er) → P (record { base = b; table = c; outcome = failed code })) → (error ≡ None → P effect) → P (context_refused error b c effect)
context_if P (Some error) b c effect refused works = refused error
context_if P None b c effect refused works = works refl

pub context_cases : (P : ContextDone → Type 0) (checks : List Check) (b : Base) (c : Contexts) (effect : ContextDone) → ((code : Er) → P (record { base = b; table = c; outcome = failed code })) → (first_error checks ≡ None → P effect) → P (context_checked checks b c effect)
context_cases P checks b c effect refused works = context_if P (first_error checks) b c effect refused works

hook_if : (P : HookDone → Type 0) (error : Option Er) (hooks : Hooks) (memory : List ℕ) (effect : HookDone) → ((code : Er) → P (record { hooks = hooks; memory = memory; outcome = failed code })) → (error ≡ None → P effect) → P (hook_refused error hooks memory effect)
hook_if P (Some error) hooks memory effect refused works = refused error
hook_if P None hooks memory effect refused works = works refl

pub hook_cases : (P : HookDone → Type 0) (checks : List Check) (hooks : Hooks) (memory : List ℕ) (effect : HookDone) → ((code : Er) → P (record { hooks = hooks; memory = memory; outcome = failed code })) → (first_error checks ≡ None → P effect) → P (hook_checked checks hooks memory effect)
hook_cases P checks hooks memory effect refused works = hook_if P (first_error checks) hooks memory effect refused works

abbrev pub holds_in : Option Check → Bool
holds_in None = true
holds_in (Some check) = check.holds

both_if : (test : Bool) (error : Er) (rest : Option Er) → cond test rest (Some error) ≡ None → (test ≡ true) × (rest ≡ None)
both_if true error rest none = (refl, none)
both_if false error rest none = absurd (cc none)

-- where none of the checks gives an error, the one in each place holds
pub holds_at : (place : ℕ) (checks : List Check) → first_error checks ≡ None → holds_in (slice_get checks place) ≡ true
holds_at place [] none = refl
holds_at zero (check ∷ checks) none = (both_if check.holds check.error (first_error checks) none).0
holds_at (suc place) (check ∷ checks) none = holds_at place checks (both_if check.holds check.error (first_error checks) none).1
