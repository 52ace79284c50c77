-- The parts with bytes, by what the chain yields.
use Rattle.std.proofs.Common.{ℕ, Ok, rules, tests}
use Rattle.std.proofs.lemmas.Iterator.Consumers.{map_from_collect, YieldsList-at, YieldsList-from_filter}
use Rattle.std.proofs.lemmas.Iterator.Splits.{YieldsList-from_slice_split}
use Rattle.tk_model.specs.Words.{parts_of}
use Rattle.tk_text.proofs.cutting.line_words.Goals as goal

pub returns : goal.returns
unfolding parts_of
returns c = map_from_collect {E = ℕ} (Ok c.in_ok-words.words) c.in_ok-words.ensures.ran (YieldsList-from_filter _ _ (YieldsList-at c.filter.ensures.source (YieldsList-from_slice_split _ _ c.args.line.now c.split.ensures.rest c.split.ensures.done c.split.ensures.closure (λ x r q k. search (rules, tests)))) c.filter.ensures.closure (λ x r q k. search (rules, tests)))
