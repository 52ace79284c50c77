-- One line after another.
use Rattle.std.proofs.Common.{◌≡◌, ◌+◌, ◌++◌, ◌∷◌, [], length, ap, sym, ◌∙◌, rules, arith, List}
use Rattle.std.specs.Prelude.{Ok}
use Rattle.tk_types.specs.declared.line.Entry.{Entry}
use Rattle.tk_model.specs.Journal.{journal_of}
use Rattle.tk_model.specs.TextLines.{text_lines}
use Rattle.tk_session.specs.Reading.{with_front}
use Rattle.tk_session.specs.TracedAnswers.{entries_of}
use Rattle.tk_session.specs.TracedReading.{lines_from}
use Rattle.tk_session.proofs.TraceLaws.{trace_end, trace_passed, trace_refused}
use Rattle.tk_session.proofs.trace.read_trace.Goals as goal

pub returns-in_default-read : goal.returns-in_default-read
returns-in_default-read c =
    trace_refused _ _ _ _ _ _ c.first_line.ensures.lines (sym c.in-Ok.ensures ∙ c.in_default-read.is) c.lines.invariant.same

pub lines-preserved : goal.lines-preserved
lines-preserved c =
    let grown : c.put_entry.new.entries.items ≡ c.lines.entries.items ++ journal_of (c.in-Some.line ∷ []) = search rules in
    record {
      same = ap (λ (front : List Entry). with_front front (entries_of (lines_from (c.lines.number + 1) (text_lines c.first_line.result.1.now)))) grown
          ∙ trace_passed _ _ _ _ _ _ _ c.first_line.ensures.lines (sym c.in-Ok.ensures ∙ c.in-Some.is) c.lines.invariant.same;
      room = omega (arith, c.first_line.ensures.shorter, c.lines.invariant.room);
    }

pub returns : goal.returns
returns c =
    let none : length c.lines.left.now ≡ 0 = search rules in
    trace_end _ _ _ _ none c.lines.invariant.same ∙ ap (λ (entries : List Entry). Ok entries) (sym c.from_vec.ensures)
