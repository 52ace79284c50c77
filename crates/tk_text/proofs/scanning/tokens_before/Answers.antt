-- The words and the spans of the first lines.
use Rattle.std.proofs.Common.{ℕ, ap, ◌∙◌, map, subst, sym, length, take}
use Rattle.tk_model.specs.Words.{words_from, lines_of}
use Rattle.tk_text.specs.Tokens.{read_token, SpansRise}
use Rattle.tk_text.proofs.Options.{ok_map}
use Rattle.tk_text.proofs.Spans.{first_words, first_rise}
use Rattle.tk_text.proofs.scanning.tokens_before.Goals as goal

pub returns-clause-words : goal.returns-clause-words
returns-clause-words c =
    ok_map c.first_tokens.result _ _ c.first_tokens.ensures
    (λ tokens is. ap (map (read_token c.args.text.now)) is
    ∙ (first_words c.args.text.now c.saturating_sub.result ∙ ap (λ (most : ℕ). words_from 1 (take most (lines_of c.args.text.now))) c.saturating_sub.ensures))

pub returns-clause-rise : goal.returns-clause-rise
returns-clause-rise c =
    ok_map c.first_tokens.result _ _ c.first_tokens.ensures
    (λ tokens is. subst (SpansRise 0 (length c.args.text.now)) (sym is) (first_rise c.args.text.now c.saturating_sub.result))
