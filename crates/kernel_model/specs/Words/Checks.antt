-- The checks of a call: an ordered list of tests with their errors, of which the first that fails decides.
use Rattle.std.specs.Prelude.{ℕ, Bool, ◌&&◌, ℤ, pos, negsuc, int_le, if◌then◌else◌, List, [], ◌∷◌, ◌++◌, Option, Some, None, length, take, replicate}
use Rattle.tk_types.specs.declared.error_code.Er.{Er}
use Rattle.tk_types.specs.declared.answer.Answer.{Answer}
use Rattle.tk_types.specs.declared.answer.Outcome.{Outcome}
use Rattle.tk_types.specs.declared.answer.Outcome.TheVariants.{Returned}
use Rattle.tk_types.specs.Codes.{code_of}

-- a test, and the error where it fails
pub record Check : Type 0 where
  pub holds : Bool
  pub error : Er

infix 4 ◌otherwise◌
abbrev pub ◌otherwise◌ : Bool → Er → Check
test otherwise error = record { holds = test; error = error }

-- the error of the first test that fails
abbrev pub first_error : List Check → Option Er
first_error [] = None
first_error (check ∷ checks) = if check.holds then first_error checks else Some check.error

-- whether a number lies between two bounds, these included
abbrev pub within : ℕ → ℕ → ℤ → Bool
within low high number = int_le (pos low) number && int_le number (pos high)

-- a number as a natural one; below 0 it counts as 0
abbrev pub natural : ℤ → ℕ
natural (pos number) = number
natural (negsuc number) = 0

-- an answer with a value and at most five fields
abbrev pub answer : ℤ → List ℤ → Answer
answer value fields = record { value = value; fields = take 5 (fields ++ replicate 5 (pos 0)); used = length fields }

-- an answer with a value alone
abbrev pub plain : ℤ → Answer
plain value = answer value []

-- the answer that is an error
abbrev pub failed : Er → Outcome
failed error = Returned (plain (code_of error))

-- the answer of a call that has done its work
abbrev pub done : ℤ → Outcome
done value = Returned (plain value)
