use Rattle.std.proofs.Common.{sym, ap, ◌∙◌, arith}
use Rattle.priority_map.specs.Flags.{first_set}
use Rattle.priority_map.proofs.Flagged.{found_in_word, none_at_all, none_in_word, none_yet}
use Rattle.priority_map.proofs.map.PriorityMap.highest.Goals as goal

pub words-init : goal.words-init
words-init g c = (none_yet c.self.inside.words, omega arith)

pub returns-then-word-ne0-clause-priority : goal.returns-then-word-ne0-clause-priority
returns-then-word-ne0-clause-priority g c =
    sym (found_in_word c.self.inside.words c.words.index c.look-word.result c.words-test.true c.words.invariant.0 c.look-word.ensures.word (omega (arith, c.if-word-ne0.true)) c.look-word.type_inv) ∙ ap (first_set 0) c.self.view_is

pub words-preserved : goal.words-preserved
words-preserved g c =
    (none_in_word c.self.inside.words c.words.index c.look-word.result c.words.invariant.0 c.look-word.ensures.word (omega (arith, c.if-word-ne0.false)), omega (arith, c.look-word.ensures.one_step, c.words.invariant.1))

pub returns-clause-priority : goal.returns-clause-priority
returns-clause-priority g c = sym (none_at_all c.self.inside.words c.words.index c.words.invariant.0 c.words-test.false) ∙ ap (first_set 0) c.self.view_is
