-- Texts whose lines are right by themselves: what the names in them are looked up as.
use Rattle.std.specs.Prelude.{◌≡◌, refl, ℕ, List, [], ◌∷◌, ◌++◌, codes, Result, Ok, Err}
use Rattle.std.specs.Fmt as F
use Rattle.tk_types.specs.declared.script.Script.{Script}
use Rattle.tk_types.specs.declared.why.Why.TheVariants as whys
use Rattle.tk_types.specs.CallNames as C
use Rattle.tk_types.specs.Names as N
use Rattle.tk_model.specs.Words as W
use Rattle.tk_model.specs.Decimals as D
use Rattle.tk_model.specs.Lists as S
use Rattle.tk_model.specs.ScriptText as T
use Rattle.tk_raw.specs.RawReading.{Refusal}
use Rattle.tk_raw.specs.RawReading as X
use Rattle.tk_raw.specs.Pieces as P
use Rattle.tk_raw.specs.Heads as H
use Rattle.tk_raw.specs.Lines as L
use Rattle.tk_script.specs.Resolving as R
use Rattle.tk_script.specs.Reading.{reading}

abbrev pub refused : Result Script Refusal → List Refusal
refused (Ok script) = []
refused (Err refusal) = refusal ∷ []

-- a script of one body, with these lines in it
abbrev pub one_body : List ℕ → List ℕ
one_body lines = codes "utk 1\nboot main 10\nbody main task\n" ++ lines ++ codes "end\n"

-- one body of kind task, and one for handlers with these lines in it
abbrev pub two_bodies : List ℕ → List ℕ
two_bodies lines = codes "utk 1\nboot main 10\nbody main task\nend\nbody h hand\n" ++ lines ++ codes "end\n"

pub second_pass :
    (refused (reading (one_body (codes "jump x\n"))) ≡ (4, whys.Unknown) ∷ [])
    × (refused (reading (one_body (codes "label y\njump y\n"))) ≡ [])
    × (refused (reading (two_bodies (codes "tk_ext_tsk\n"))) ≡ (6, whys.Kind) ∷ [])
    × (refused (reading (one_body (codes "return 0\n"))) ≡ (4, whys.Kind) ∷ [])
    × (refused (reading (one_body (codes "tk_cre_tsk - work 5 512\n"))) ≡ (4, whys.Unknown) ∷ [])
    × (refused (reading (two_bodies (codes "tk_cre_tsk - h 5 512\n"))) ≡ (6, whys.Kind) ∷ [])
    × (refused (reading (codes "utk 1\nboot work 10\nbody main task\njump x\nend\n")) ≡ (2, whys.Unknown) ∷ [])
    × (refused (reading (codes "utk 1\nboot main 10\nbody main hand\nend\n")) ≡ (2, whys.Kind) ∷ [])
    × (refused (reading (one_body (codes "jump x\nset r16 0\n"))) ≡ (5, whys.Name) ∷ [])
unfolding F.digits X.device_taken X.body_taken X.is_label X.label_taken X.unit_named X.unit_count X.ram_at X.flaky_at X.slow_at X.unit_at X.new_device_name X.device_from X.device_at X.pace_at X.least_step X.irq_from X.irq_at X.boot_from X.boot_at X.kind_named X.new_body_name X.body_from X.body_at X.takes_device X.takes_pace X.takes_irq X.takes_boot X.takes_body X.device_line X.pace_line X.irq_line X.boot_line X.body_line X.outside X.new_label X.label_at X.end_line X.label_line X.stmt_line X.inside X.step X.words_line X.read_line X.is_head X.head_line X.ended X.read_lines X.read_all X.raw_reading P.register_at P.number_between P.name_at P.short_name_at P.value_at P.name_or_dash_at P.piece_at P.pieces_from P.arguments_at P.raw_stmt_at H.head_text H.form_of_head H.own_head H.head_named L.whole_lines L.text_lines L.begins_note W.parts_of W.is_text_byte W.line_fault D.fits_i32 D.number_at D.natural_at S.bits_of S.list_at T.operation_word T.table_of C.text_of C.form_of C.named N.is_name_byte N.name_at_most R.body_place R.body_number R.labels_from R.label_number R.register_of R.operand_of R.name_of R.label_of R.named_arg R.arg_of R.args_from R.compute_of R.load_of R.store_of R.jump_of R.condition_of R.branch_of R.say_of R.show_of R.plain_of R.return_from R.return_of R.may_call R.call_from R.call_of R.stmt_by R.stmts_with R.stmts_from R.body_of R.behind_body R.bodies_with R.bodies_from R.boot_numbers R.boot_of R.resolved reading
second_pass = (refl, refl, refl, refl, refl, refl, refl, refl, refl)
