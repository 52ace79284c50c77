use Rattle.std.proofs.Common.{◌≡◌, ◌++◌, subst, map, List}
use Rattle.std.specs.Result.{OnOk}
use Rattle.tk_types.specs.declared.script.Stmt.{Stmt}
use Rattle.tk_model.specs.ScriptText.{stmt_words}
use Rattle.tk_script.specs.Words.{lines_text}
use Rattle.tk_script.proofs.Items.{items_go_on, items_end}
use Rattle.tk_script.proofs.print_lines.print_items.Goals as goal

pub labels-preserved : goal.labels-preserved
labels-preserved c =
    items_go_on c.args.bodies.now c.args.labels.now c.args.stmts.now c.labels.from c.labels.label-index c.label-item.result c.labels.out.items c.print_stmts.new.out.items c.print_label.new.out.items _ c.labels-test.true c.label-item.is c.labels.invariant
    (cc (c.in_ok-print_stmts.ensures, c.part.ensures))
    c.in_ok-print_label.ensures

pub returns : goal.returns
returns c =
    let P : List Stmt → Type 0 = λ rest. OnOk c.print_stmts-2.result (c.print_stmts-2.new.out.items ≡ c.labels.out.items ++ lines_text (map (stmt_words c.args.bodies.now c.args.labels.now) rest)) in
    items_end c.print_stmts-2.result c.args.bodies.now c.args.labels.now c.args.stmts.now c.labels.from c.labels.label-index c.labels.out.items c.print_stmts-2.new.out.items _ c.labels-test.false c.labels.invariant
    (subst P c.rest_from.ensures c.print_stmts-2.ensures)
