-- What the scan of a text gives.
use Rattle.std.specs.Prelude.{◌≡◌, ℕ, ◌-◌, ◌<◌, List, [], length, map, take, slice_index_or, Some, None}
use Rattle.tk_model.specs.Words.{lines_of, numbered_words, line_fault, faults_from, fault_at}
use Rattle.tk_text.specs.Tokens.{read_token, SpansRise}
use Rattle.tk_text.specs.declared.token.TextFault.{TextFault}
use Rattle.tk_text.specs.declared.token.Scanned.{Scanned}
use Rattle.tk_text.specs.declared.token.Scanned.TheVariants.{Tokens, Fault}

-- no line before this one shows a fault by itself, and this one does
abbrev pub IsFirstFault : List ℕ → TextFault → Type 0
IsFirstFault text fault =
    (0 < fault.line) × (faults_from 1 (take (fault.line - 1) (lines_of text)) ≡ None)
    × (line_fault (slice_index_or (lines_of text) (fault.line - 1) []) ≡ Some fault.why)

-- the first line that shows a fault by itself, or where there is none, the words
abbrev pub IsScan : List ℕ → Scanned → Type 0
IsScan text (Tokens tokens) = (fault_at text ≡ None) × (map (read_token text) tokens ≡ numbered_words text) × SpansRise 0 (length text) tokens
IsScan text (Fault fault) = fault_at text ≡ Some (fault.line, fault.why)
