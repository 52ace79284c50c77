-- Whether a word was found, and what is left, say whether the line has this word alone.
use Rattle.std.proofs.Common.{◌≡◌}
use Rattle.std.specs.List.{filter}
use Rattle.std.specs.Option.{option_copied}
use Rattle.tk_model.specs.Words.{is_word, words_of}
use Rattle.tk_text.specs.Sessions.{is_only}
use Rattle.tk_text.specs.Tokens.{parts_left, room_left}
use Rattle.tk_text.proofs.Sessions.{only_left}
use Rattle.tk_text.proofs.session.has_only.Given as goal

abbrev pub invariant-parts : goal.invariant-parts
invariant-parts l = only_left l.found l.word (filter is_word (parts_left 32 (option_copied l.left))) ≡ is_only l.word (words_of l.line)

abbrev pub decreases-parts : goal.decreases-parts
decreases-parts l = room_left (option_copied l.left)
