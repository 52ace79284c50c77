-- The first words of statements: how each is spelled, and the kinds of the arguments behind it.
use Rattle.std.specs.Prelude.{ℕ, Option, Some, None, List, [], ◌∷◌, codes, find, bytes_eq, option_map}
use Rattle.tk_types.specs.declared.call_name.ArgumentKind.{ArgumentKind}
use Rattle.tk_types.specs.declared.call_name.ArgumentKind.TheVariants as kinds
use Rattle.tk_types.specs.declared.script.Operation.TheVariants as operations
use Rattle.tk_types.specs.CallNames.{text_of, form_of, named}
use Rattle.tk_model.specs.ScriptText.{operation_word}
use Rattle.tk_raw.specs.declared.head.Head.{Head}
use Rattle.tk_raw.specs.declared.head.Head.TheVariants as heads
use Rattle.tk_raw.specs.declared.head.TheConstants.{OWN_HEADS}

-- the spelling of a first word
unfoldable pub head_text : Head → List ℕ
head_text heads.Set = operation_word operations.Set
head_text heads.Add = operation_word operations.Add
head_text heads.Sub = operation_word operations.Sub
head_text heads.Mul = operation_word operations.Mul
head_text heads.And = operation_word operations.And
head_text heads.Or = operation_word operations.Or
head_text heads.Xor = operation_word operations.Xor
head_text heads.Ldb = codes "ldb"
head_text heads.Stb = codes "stb"
head_text heads.Jump = codes "jump"
head_text heads.Jeq = codes "jeq"
head_text heads.Jne = codes "jne"
head_text heads.Jlt = codes "jlt"
head_text heads.Say = codes "say"
head_text heads.Show = codes "show"
head_text heads.Nop = codes "nop"
head_text heads.Halt = codes "halt"
head_text heads.Return = codes "return"
head_text (heads.Call name) = text_of name

-- the kinds of the arguments behind a first word
unfoldable pub form_of_head : Head → List ArgumentKind
form_of_head heads.Set = kinds.Register ∷ kinds.Value ∷ []
form_of_head heads.Add = kinds.Register ∷ kinds.Value ∷ []
form_of_head heads.Sub = kinds.Register ∷ kinds.Value ∷ []
form_of_head heads.Mul = kinds.Register ∷ kinds.Value ∷ []
form_of_head heads.And = kinds.Register ∷ kinds.Value ∷ []
form_of_head heads.Or = kinds.Register ∷ kinds.Value ∷ []
form_of_head heads.Xor = kinds.Register ∷ kinds.Value ∷ []
form_of_head heads.Ldb = kinds.Register ∷ kinds.Value ∷ []
form_of_head heads.Stb = kinds.Value ∷ kinds.Value ∷ []
form_of_head heads.Jump = kinds.Label ∷ []
form_of_head heads.Jeq = kinds.Register ∷ kinds.Value ∷ kinds.Label ∷ []
form_of_head heads.Jne = kinds.Register ∷ kinds.Value ∷ kinds.Label ∷ []
form_of_head heads.Jlt = kinds.Register ∷ kinds.Value ∷ kinds.Label ∷ []
form_of_head heads.Say = kinds.Text ∷ []
form_of_head heads.Show = kinds.Value ∷ []
form_of_head heads.Nop = []
form_of_head heads.Halt = []
form_of_head heads.Return = kinds.Value ∷ []
form_of_head (heads.Call name) = form_of name

-- the statement of its own that a word spells
unfoldable pub own_head : List ℕ → Option Head
own_head word = find (λ head. bytes_eq (head_text head) word) OWN_HEADS

abbrev pub head_or_call : Option Head → List ℕ → Option Head
head_or_call (Some head) word = Some head
head_or_call None word = option_map heads.Call (named word)

-- the first word that a word spells
unfoldable pub head_named : List ℕ → Option Head
head_named word = head_or_call (own_head word) word
