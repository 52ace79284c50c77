-- Which values are lines: each number fits its type, an answer has at most five fields, and the places behind
-- them hold 0.
use Rattle.std.specs.Prelude.{◌<◌, ◌≤◌, ◌^◌, ◌≡◌, ℤ, pos, true, List, [], ◌∷◌, length, drop}
use Rattle.std.specs.Int.{w32}
use Rattle.std.specs.Int.RustNames.{FitsSigned}
use Rattle.std.specs.List.{All}
use Rattle.tk_types.specs.declared.answer.Answer.{Answer}
use Rattle.tk_types.specs.declared.line.Line.{Line}
use Rattle.tk_types.specs.declared.line.Line.TheVariants as lines
use Rattle.tk_types.specs.declared.line.LineEnding.{LineEnding}
use Rattle.tk_types.specs.declared.line.LineEnding.TheVariants as endings
use Rattle.tk_types.specs.declared.line.Hook.{Hook}
use Rattle.tk_types.specs.declared.line.Hook.TheVariants as hooks
use Rattle.tk_types.specs.declared.line.LastLine.{LastLine}
use Rattle.tk_types.specs.declared.line.LastLine.TheVariants as lasts
use Rattle.tk_types.specs.Names.{name_at_most}

-- five places without a field
abbrev pub no_fields : List ℤ
no_fields = pos 0 ∷ pos 0 ∷ pos 0 ∷ pos 0 ∷ pos 0 ∷ []

pub record IsAnswer (answer : Answer) : Type 0 where
  pub value : FitsSigned w32 answer.value
  pub used : answer.used ≤ 5
  pub places : length answer.fields ≡ 5
  pub fields : All (FitsSigned w32) answer.fields
  pub behind : drop answer.used answer.fields ≡ drop answer.used no_fields

abbrev pub IsEnding : LineEnding → Type 0
IsEnding (endings.Done error size) = FitsSigned w32 error × (size < 2 ^ 32)
IsEnding (endings.Cut size) = size < 2 ^ 32

abbrev pub IsHook : Hook → Type 0
IsHook (hooks.Service who call) = who < 2 ^ 8
IsHook (hooks.Dispatch task) = task < 2 ^ 8
IsHook (hooks.Handler handler number) = number < 2 ^ 8

abbrev pub IsEnd : LastLine → Type 0
IsEnd lasts.Idle = Unit {0}
IsEnd lasts.Halt = Unit {0}
IsEnd lasts.Budget = Unit {0}
IsEnd lasts.Starved = Unit {0}
IsEnd (lasts.Unfit entry) = entry < 2 ^ 32

abbrev pub IsLine : Line → Type 0
IsLine (lines.Dispatch n task) = (n < 2 ^ 32) × (task < 2 ^ 8)
IsLine (lines.Returned n who call result) = (n < 2 ^ 32) × (who < 2 ^ 8) × IsAnswer result
IsLine (lines.Blocked n task call) = (n < 2 ^ 32) × (task < 2 ^ 8)
IsLine (lines.Released n task call result) = (n < 2 ^ 32) × (task < 2 ^ 8) × IsAnswer result
IsLine (lines.Tick n time) = (n < 2 ^ 32) × (time < 2 ^ 64)
IsLine (lines.Started n handler number) = (n < 2 ^ 32) × (number < 2 ^ 8)
IsLine (lines.Ending n device request ending) = (n < 2 ^ 32) × (device < 2 ^ 8) × (request < 2 ^ 8) × IsEnding ending
IsLine (lines.Hook n hook) = (n < 2 ^ 32) × IsHook hook
IsLine (lines.SaidName n who name) = (n < 2 ^ 32) × (who < 2 ^ 8) × (name_at_most 16 name ≡ true)
IsLine (lines.SaidNumber n who number) = (n < 2 ^ 32) × (who < 2 ^ 8) × FitsSigned w32 number
IsLine (lines.End n end) = (n < 2 ^ 32) × IsEnd end
