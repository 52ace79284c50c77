-- Laws of the first words of statements. Each goes through all of them, since a last case is checked for each.
use Rattle.std.specs.Prelude.{Some, None, false, ◌≡◌, refl, bytes_eq, codes}
use Rattle.tk_types.specs.declared.call_name.CallName.{CallName}
use Rattle.tk_types.specs.declared.call_name.CallName.TheVariants.{TkCreTsk}
use Rattle.tk_types.specs.CallNames.{text_of}
use Rattle.tk_types.proofs.CallNameLaws.{named_text_of}
use Rattle.tk_model.specs.ScriptText.{operation_word}
use Rattle.tk_raw.specs.declared.head.Head.{Head}
use Rattle.tk_raw.specs.declared.head.Head.TheVariants as heads
use Rattle.tk_raw.specs.Heads.{head_text, head_named, own_head}

-- no call is spelled like a statement of its own
call_is_not_own : (name : CallName) → own_head (text_of name) ≡ None
unfolding text_of head_text own_head operation_word
call_is_not_own TkCreTsk = refl
call_is_not_own _ = refl

-- the spelling of a first word is read as that word
pub head_named_text : (head : Head) → head_named (head_text head) ≡ Some head
unfolding head_named head_text own_head operation_word
head_named_text (heads.Call name) = rw (call_is_not_own name, named_text_of name) refl
head_named_text heads.Set = refl
head_named_text _ = refl

call_is_not_end : (name : CallName) → bytes_eq (text_of name) (codes "end") ≡ false
unfolding text_of
call_is_not_end TkCreTsk = refl
call_is_not_end _ = refl

call_is_not_label : (name : CallName) → bytes_eq (text_of name) (codes "label") ≡ false
unfolding text_of
call_is_not_label TkCreTsk = refl
call_is_not_label _ = refl

pub head_is_not_end : (head : Head) → bytes_eq (head_text head) (codes "end") ≡ false
unfolding head_text operation_word
head_is_not_end (heads.Call name) = call_is_not_end name
head_is_not_end heads.Set = refl
head_is_not_end _ = refl

pub head_is_not_label : (head : Head) → bytes_eq (head_text head) (codes "label") ≡ false
unfolding head_text operation_word
head_is_not_label (heads.Call name) = call_is_not_label name
head_is_not_label heads.Set = refl
head_is_not_label _ = refl
