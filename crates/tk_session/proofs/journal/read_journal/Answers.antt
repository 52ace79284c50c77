-- One line after another.
use Rattle.std.proofs.Common.{◌≡◌, ◌+◌, ◌++◌, ◌∷◌, [], length, ap, sym, ◌∙◌, rules, arith, List}
use Rattle.std.specs.Prelude.{Ok}
use Rattle.tk_types.specs.declared.line.Entry.{Entry}
use Rattle.tk_model.specs.TextLines.{text_lines}
use Rattle.tk_session.specs.Reading.{entries_from, with_front}
use Rattle.tk_session.proofs.EntryLaws.{entries_end, entry_passed, entry_refused}
use Rattle.tk_session.proofs.journal.read_journal.Goals as goal

pub returns-in_default-line_entry : goal.returns-in_default-line_entry
returns-in_default-line_entry c =
    entry_refused _ _ _ _ _ _ c.first_line.ensures.lines (sym c.line_entry.ensures ∙ c.in_default-line_entry.is) c.lines.invariant.same

pub lines-preserved : goal.lines-preserved
lines-preserved c =
    let grown : c.push.new.self.items ≡ c.lines.entries.items ++ c.in-Some.entry ∷ [] = search rules in
    record {
      same = ap (λ (front : List Entry). with_front front (entries_from (c.lines.number + 1) (text_lines c.first_line.result.1.now))) grown
          ∙ entry_passed _ _ _ _ _ _ _ c.first_line.ensures.lines (sym c.line_entry.ensures ∙ c.in-Some.is) c.lines.invariant.same;
      room = omega (arith, c.first_line.ensures.shorter, c.lines.invariant.room);
    }

pub returns : goal.returns
returns c =
    let none : length c.lines.left.now ≡ 0 = search rules in
    entries_end _ _ _ _ none c.lines.invariant.same ∙ ap (λ (entries : List Entry). Ok entries) (sym c.from_vec.ensures)
