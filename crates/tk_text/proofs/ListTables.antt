-- The four lists of words are tables: no word has a bar or a dash, and the words differ.
use Rattle.std.proofs.Common.{◌≡◌, true, map, refl}
use Rattle.tk_types.specs.declared.modes.TheConstants.{ATTRIBUTE_WORDS, FLAG_MODE_WORDS, OPEN_MODE_WORDS, SUSPEND_MODE_WORDS}
use Rattle.tk_model.specs.Lists.{is_table}

pub attributes_are_table : is_table (map (λ word. word.now) ATTRIBUTE_WORDS) ≡ true
unfolding is_table
attributes_are_table = refl

pub flag_modes_are_table : is_table (map (λ word. word.now) FLAG_MODE_WORDS) ≡ true
unfolding is_table
flag_modes_are_table = refl

pub open_modes_are_table : is_table (map (λ word. word.now) OPEN_MODE_WORDS) ≡ true
unfolding is_table
open_modes_are_table = refl

pub suspend_modes_are_table : is_table (map (λ word. word.now) SUSPEND_MODE_WORDS) ≡ true
unfolding is_table
suspend_modes_are_table = refl
