-- The words of the program, and the command that they are.
use Rattle.std.specs.Prelude.{ℕ, ◌≤◌, nat_le, ◌&&◌, if◌then◌else◌, List, [], ◌∷◌, Option, Some, None, codes, bytes_eq, option_map}
use Rattle.tk_types.specs.declared.run.Mode.{Mode}
use Rattle.tk_types.specs.declared.run.Mode.TheVariants.{Free, Sync}
use Rattle.tk_model.specs.Decimals.{natural_at}
use Rattle.tk_text.specs.Sessions.{script_limit, session_limit}
use Rattle.tk_run.specs.declared.command.Command.{Command}
use Rattle.tk_run.specs.declared.command.Command.TheVariants.{Run, Replay, Verify, Check, Generate}
use Rattle.tk_run.specs.declared.command.Options.{Options}

-- the most steps that a run may be given
abbrev pub most_steps : ℕ
most_steps = 1000000

-- the steps of a run whose words name none
abbrev pub default_budget : ℕ
default_budget = 100000

abbrev pub IsBudget : ℕ → Type 0
IsBudget number = (1 ≤ number) × (number ≤ most_steps)

abbrev pub budget_of : Option ℕ → Option ℕ
budget_of None = None
budget_of (Some number) = if nat_le 1 number && nat_le number most_steps then Some number else None

-- the budget that a word spells
unfoldable pub budget_at : List ℕ → Option ℕ
budget_at word = budget_of (natural_at word)

-- the budget of the words behind `run`, `replay` or `verify`: none, or `--budget` and a number
unfoldable pub budget_in : List (List ℕ) → Option ℕ
budget_in [] = Some default_budget
budget_in (option ∷ []) = None
budget_in (option ∷ number ∷ []) = if bytes_eq option (codes "--budget") then budget_at number else None
budget_in (option ∷ number ∷ other ∷ words) = None

abbrev pub options : Mode → ℕ → Options
options mode budget = record { mode = mode; budget = budget }

-- the mode and the budget of the words behind `run`, `replay` or `verify`: `--sync` comes first, where it is there
unfoldable pub options_of : List (List ℕ) → Option Options
options_of [] = Some (options Free default_budget)
options_of (option ∷ words) =
    if bytes_eq option (codes "--sync")
    then option_map (options Sync) (budget_in words)
    else option_map (options Free) (budget_in (option ∷ words))

-- a run, a run that is fed with a journal, and one that a trace is compared with
abbrev pub run_with : Options → Command
run_with options = Run options.mode options.budget

abbrev pub replay_with : Options → Command
replay_with options = Replay options.mode options.budget

abbrev pub verify_with : Options → Command
verify_with options = Verify options.mode options.budget

-- the greatest number of a script that is made
abbrev pub most_number : ℕ
most_number = 65535

abbrev pub number_within : Option ℕ → Option ℕ
number_within None = None
number_within (Some number) = if nat_le number most_number then Some number else None

-- the number of a script that a word spells
unfoldable pub script_number : List ℕ → Option ℕ
script_number word = number_within (natural_at word)

-- the making of the script whose number the words behind `gen` are
unfoldable pub generate_of : List (List ℕ) → Option Command
generate_of [] = None
generate_of (word ∷ []) = option_map Generate (script_number word)
generate_of (word ∷ other ∷ words) = None

-- a command that takes no word more
abbrev pub alone : Command → List (List ℕ) → Option Command
alone command [] = Some command
alone command (word ∷ words) = None

-- the command of the words
unfoldable pub command_of : List (List ℕ) → Option Command
command_of [] = None
command_of (name ∷ words) =
    if bytes_eq name (codes "run") then option_map run_with (options_of words)
    else if bytes_eq name (codes "replay") then option_map replay_with (options_of words)
    else if bytes_eq name (codes "verify") then option_map verify_with (options_of words)
    else if bytes_eq name (codes "gen") then generate_of words
    else if bytes_eq name (codes "check") then alone Check words
    else None

-- what holds of the numbers of a command
abbrev pub IsCommand : Command → Type 0
IsCommand (Run mode budget) = IsBudget budget
IsCommand (Replay mode budget) = IsBudget budget
IsCommand (Verify mode budget) = IsBudget budget
IsCommand Check = Unit {0}
IsCommand (Generate number) = number ≤ most_number

abbrev pub IsOptions : Options → Type 0
IsOptions options = IsBudget options.budget

-- the words are no command, or one that reads nothing
abbrev pub IsUnread : Option Command → Type 0
IsUnread None = Unit {0}
IsUnread (Some (Generate number)) = Unit {0}
IsUnread _ = ⊥

-- the most bytes of a command's input: those of a session, or of a script; to make a script nothing is read
abbrev pub input_limit : Option Command → ℕ
input_limit (Some (Replay mode budget)) = session_limit
input_limit (Some (Verify mode budget)) = session_limit
input_limit _ = script_limit
