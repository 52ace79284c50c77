-- What a call's checks tell: each holds where the call has its effect, and nothing is changed where it is refused.
use Rattle.std.proofs.Common.{◌≡◌, ℕ, suc, zero, Bool, true, false, List, [], ◌∷◌, Option, Some, None, refl, cond}
use Rattle.std.specs.Prelude.{slice_get}
use Rattle.tk_types.specs.declared.error_code.Er.{Er}
use Rattle.kernel_model.specs.Words.Checks.{Check, first_error, failed}
use Rattle.kernel_model.specs.Tasks.Base.{Base}
use Rattle.kernel_model.specs.Tasks.Calls.{TaskDone, unless_error, checked}
use Rattle.kernel_model.specs.SemFlags.Tables.{SemFlags}
use Rattle.kernel_model.specs.SemFlags.Calls.{SemFlagDone, refused_with, sem_flag_checked}

unless_cases : (P : TaskDone → Type 0) (error : Option Er) (b : Base) (effect : TaskDone) → ((code : Er) → P (record { base = b; outcome = failed code })) → (error ≡ None → P effect) → P (unless_error error b effect)
unless_cases P (Some error) b effect refused works = refused error
unless_cases P None b effect refused works = works refl

-- a call is refused with some error and leaves the base, or passes its checks
pub checked_cases : (P : TaskDone → Type 0) (checks : List Check) (b : Base) (effect : TaskDone) → ((code : Er) → P (record { base = b; outcome = failed code })) → (first_error checks ≡ None → P effect) → P (checked checks b effect)
checked_cases P checks b effect refused works = unless_cases P (first_error checks) b effect refused works

refused_cases : (P : SemFlagDone → Type 0) (error : Option Er) (b : Base) (s : SemFlags) (effect : SemFlagDone) → ((code : Er) → P (record { base = b; table = s; outcome = failed code })) → (error ≡ None → P effect) → P (refused_with error b s effect)
refused_cases P (Some error) b s effect refused works = refused error
refused_cases P None b s effect refused works = works refl

-- the same of a call on semaphores and event flags, which leaves their tables too
pub sem_flag_cases : (P : SemFlagDone → Type 0) (checks : List Check) (b : Base) (s : SemFlags) (effect : SemFlagDone) → ((code : Er) → P (record { base = b; table = s; outcome = failed code })) → (first_error checks ≡ None → P effect) → P (sem_flag_checked checks b s effect)
sem_flag_cases P checks b s effect refused works = refused_cases P (first_error checks) b s effect refused works

abbrev pub holds_in : Option Check → Bool
holds_in None = true
holds_in (Some check) = check.holds

both_if : (test : Bool) (error : Er) (rest : Option Er) → cond test rest (Some error) ≡ None → (test ≡ true) × (rest ≡ None)
both_if true error rest none = (refl, none)
both_if false error rest none = absurd (cc none)

-- where none of the checks gives an error, the one in each place holds
pub holds_at : (place : ℕ) (checks : List Check) → first_error checks ≡ None → holds_in (slice_get checks place) ≡ true
holds_at place [] none = refl
holds_at zero (check ∷ checks) none = (both_if check.holds check.error (first_error checks) none).0
holds_at (suc place) (check ∷ checks) none = holds_at place checks (both_if check.holds check.error (first_error checks) none).1
