-- Texts that are refused, and one that isn't.
use Rattle.std.specs.Prelude.{◌≡◌, refl, ℕ, List, [], ◌∷◌, ◌++◌, None, codes, Result, Ok, Err}
use Rattle.tk_types.specs.declared.script.BodyKind.TheVariants.{Task}
use Rattle.tk_types.specs.declared.why.Why.TheVariants as whys
use Rattle.tk_raw.specs.declared.head.Head.TheVariants as heads
use Rattle.tk_raw.specs.declared.raw.Piece.TheVariants as pieces
use Rattle.tk_raw.specs.declared.raw.RawItem.TheVariants as items
use Rattle.tk_raw.specs.declared.raw.RawScript.{RawScript}
use Rattle.tk_raw.specs.RawReading.{Refusal, raw_reading}
use Rattle.std.specs.Fmt as F
use Rattle.tk_raw.specs.RawReading as X
use Rattle.tk_raw.specs.Pieces as P
use Rattle.tk_raw.specs.Heads as H
use Rattle.tk_raw.specs.Lines as L
use Rattle.tk_model.specs.Words as W
use Rattle.tk_model.specs.Decimals as D
use Rattle.tk_model.specs.Lists as S
use Rattle.tk_model.specs.ScriptText as T
use Rattle.tk_types.specs.CallNames as C
use Rattle.tk_types.specs.Names as N

abbrev pub lined : List ℕ → List ℕ
lined line = line ++ 10 ∷ []

abbrev pub refused : Result RawScript Refusal → List Refusal
refused (Ok raw) = []
refused (Err refusal) = refusal ∷ []

pub empty_text : refused (raw_reading []) ≡ (1, whys.Head) ∷ []
unfolding F.digits X.device_taken X.body_taken X.is_label X.label_taken X.unit_named X.unit_count X.ram_at X.flaky_at X.slow_at X.unit_at X.new_device_name X.device_from X.device_at X.pace_at X.least_step X.irq_from X.irq_at X.boot_from X.boot_at X.kind_named X.new_body_name X.body_from X.body_at X.takes_device X.takes_pace X.takes_irq X.takes_boot X.takes_body X.device_line X.pace_line X.irq_line X.boot_line X.body_line X.outside X.new_label X.label_at X.end_line X.label_line X.stmt_line X.inside X.step X.words_line X.read_line X.is_head X.head_line X.ended X.read_lines X.read_all X.raw_reading P.register_at P.number_between P.name_at P.short_name_at P.value_at P.name_or_dash_at P.piece_at P.pieces_from P.arguments_at P.raw_stmt_at H.head_text H.form_of_head H.own_head H.head_named L.whole_lines L.text_lines L.begins_note W.parts_of W.is_text_byte W.line_fault D.fits_i32 D.number_at D.natural_at S.bits_of S.list_at T.operation_word T.table_of C.text_of C.form_of C.named N.is_name_byte N.name_at_most
empty_text = refl

pub second_version : refused (raw_reading (lined (codes "utk 2"))) ≡ (1, whys.Head) ∷ []
unfolding F.digits X.device_taken X.body_taken X.is_label X.label_taken X.unit_named X.unit_count X.ram_at X.flaky_at X.slow_at X.unit_at X.new_device_name X.device_from X.device_at X.pace_at X.least_step X.irq_from X.irq_at X.boot_from X.boot_at X.kind_named X.new_body_name X.body_from X.body_at X.takes_device X.takes_pace X.takes_irq X.takes_boot X.takes_body X.device_line X.pace_line X.irq_line X.boot_line X.body_line X.outside X.new_label X.label_at X.end_line X.label_line X.stmt_line X.inside X.step X.words_line X.read_line X.is_head X.head_line X.ended X.read_lines X.read_all X.raw_reading P.register_at P.number_between P.name_at P.short_name_at P.value_at P.name_or_dash_at P.piece_at P.pieces_from P.arguments_at P.raw_stmt_at H.head_text H.form_of_head H.own_head H.head_named L.whole_lines L.text_lines L.begins_note W.parts_of W.is_text_byte W.line_fault D.fits_i32 D.number_at D.natural_at S.bits_of S.list_at T.operation_word T.table_of C.text_of C.form_of C.named N.is_name_byte N.name_at_most
second_version = refl

pub note_before_head : refused (raw_reading (lined (codes "# note") ++ lined (codes "utk 1"))) ≡ (1, whys.Head) ∷ []
unfolding F.digits X.device_taken X.body_taken X.is_label X.label_taken X.unit_named X.unit_count X.ram_at X.flaky_at X.slow_at X.unit_at X.new_device_name X.device_from X.device_at X.pace_at X.least_step X.irq_from X.irq_at X.boot_from X.boot_at X.kind_named X.new_body_name X.body_from X.body_at X.takes_device X.takes_pace X.takes_irq X.takes_boot X.takes_body X.device_line X.pace_line X.irq_line X.boot_line X.body_line X.outside X.new_label X.label_at X.end_line X.label_line X.stmt_line X.inside X.step X.words_line X.read_line X.is_head X.head_line X.ended X.read_lines X.read_all X.raw_reading P.register_at P.number_between P.name_at P.short_name_at P.value_at P.name_or_dash_at P.piece_at P.pieces_from P.arguments_at P.raw_stmt_at H.head_text H.form_of_head H.own_head H.head_named L.whole_lines L.text_lines L.begins_note W.parts_of W.is_text_byte W.line_fault D.fits_i32 D.number_at D.natural_at S.bits_of S.list_at T.operation_word T.table_of C.text_of C.form_of C.named N.is_name_byte N.name_at_most
note_before_head = refl

pub leading_zero : refused (raw_reading (lined (codes "utk 1") ++ lined (codes "boot main 10") ++ lined (codes "body main task") ++ lined (codes "tk_slp_tsk 01") ++ lined (codes "end"))) ≡ (4, whys.Number) ∷ []
unfolding F.digits X.device_taken X.body_taken X.is_label X.label_taken X.unit_named X.unit_count X.ram_at X.flaky_at X.slow_at X.unit_at X.new_device_name X.device_from X.device_at X.pace_at X.least_step X.irq_from X.irq_at X.boot_from X.boot_at X.kind_named X.new_body_name X.body_from X.body_at X.takes_device X.takes_pace X.takes_irq X.takes_boot X.takes_body X.device_line X.pace_line X.irq_line X.boot_line X.body_line X.outside X.new_label X.label_at X.end_line X.label_line X.stmt_line X.inside X.step X.words_line X.read_line X.is_head X.head_line X.ended X.read_lines X.read_all X.raw_reading P.register_at P.number_between P.name_at P.short_name_at P.value_at P.name_or_dash_at P.piece_at P.pieces_from P.arguments_at P.raw_stmt_at H.head_text H.form_of_head H.own_head H.head_named L.whole_lines L.text_lines L.begins_note W.parts_of W.is_text_byte W.line_fault D.fits_i32 D.number_at D.natural_at S.bits_of S.list_at T.operation_word T.table_of C.text_of C.form_of C.named N.is_name_byte N.name_at_most
leading_zero = refl

pub without_end : refused (raw_reading (lined (codes "utk 1") ++ lined (codes "boot main 10") ++ lined (codes "body main task") ++ lined (codes "tk_ext_tsk"))) ≡ (5, whys.End) ∷ []
unfolding F.digits X.device_taken X.body_taken X.is_label X.label_taken X.unit_named X.unit_count X.ram_at X.flaky_at X.slow_at X.unit_at X.new_device_name X.device_from X.device_at X.pace_at X.least_step X.irq_from X.irq_at X.boot_from X.boot_at X.kind_named X.new_body_name X.body_from X.body_at X.takes_device X.takes_pace X.takes_irq X.takes_boot X.takes_body X.device_line X.pace_line X.irq_line X.boot_line X.body_line X.outside X.new_label X.label_at X.end_line X.label_line X.stmt_line X.inside X.step X.words_line X.read_line X.is_head X.head_line X.ended X.read_lines X.read_all X.raw_reading P.register_at P.number_between P.name_at P.short_name_at P.value_at P.name_or_dash_at P.piece_at P.pieces_from P.arguments_at P.raw_stmt_at H.head_text H.form_of_head H.own_head H.head_named L.whole_lines L.text_lines L.begins_note W.parts_of W.is_text_byte W.line_fault D.fits_i32 D.number_at D.natural_at S.bits_of S.list_at T.operation_word T.table_of C.text_of C.form_of C.named N.is_name_byte N.name_at_most
without_end = refl

pub without_end_and_line_feed : refused (raw_reading (lined (codes "utk 1") ++ lined (codes "boot main 10") ++ lined (codes "body main task") ++ codes "tk_ext_tsk")) ≡ (5, whys.End) ∷ []
unfolding F.digits X.device_taken X.body_taken X.is_label X.label_taken X.unit_named X.unit_count X.ram_at X.flaky_at X.slow_at X.unit_at X.new_device_name X.device_from X.device_at X.pace_at X.least_step X.irq_from X.irq_at X.boot_from X.boot_at X.kind_named X.new_body_name X.body_from X.body_at X.takes_device X.takes_pace X.takes_irq X.takes_boot X.takes_body X.device_line X.pace_line X.irq_line X.boot_line X.body_line X.outside X.new_label X.label_at X.end_line X.label_line X.stmt_line X.inside X.step X.words_line X.read_line X.is_head X.head_line X.ended X.read_lines X.read_all X.raw_reading P.register_at P.number_between P.name_at P.short_name_at P.value_at P.name_or_dash_at P.piece_at P.pieces_from P.arguments_at P.raw_stmt_at H.head_text H.form_of_head H.own_head H.head_named L.whole_lines L.text_lines L.begins_note W.parts_of W.is_text_byte W.line_fault D.fits_i32 D.number_at D.natural_at S.bits_of S.list_at T.operation_word T.table_of C.text_of C.form_of C.named N.is_name_byte N.name_at_most
without_end_and_line_feed = refl

pub without_boot : refused (raw_reading (lined (codes "utk 1"))) ≡ (2, whys.End) ∷ []
unfolding F.digits X.device_taken X.body_taken X.is_label X.label_taken X.unit_named X.unit_count X.ram_at X.flaky_at X.slow_at X.unit_at X.new_device_name X.device_from X.device_at X.pace_at X.least_step X.irq_from X.irq_at X.boot_from X.boot_at X.kind_named X.new_body_name X.body_from X.body_at X.takes_device X.takes_pace X.takes_irq X.takes_boot X.takes_body X.device_line X.pace_line X.irq_line X.boot_line X.body_line X.outside X.new_label X.label_at X.end_line X.label_line X.stmt_line X.inside X.step X.words_line X.read_line X.is_head X.head_line X.ended X.read_lines X.read_all X.raw_reading P.register_at P.number_between P.name_at P.short_name_at P.value_at P.name_or_dash_at P.piece_at P.pieces_from P.arguments_at P.raw_stmt_at H.head_text H.form_of_head H.own_head H.head_named L.whole_lines L.text_lines L.begins_note W.parts_of W.is_text_byte W.line_fault D.fits_i32 D.number_at D.natural_at S.bits_of S.list_at T.operation_word T.table_of C.text_of C.form_of C.named N.is_name_byte N.name_at_most
without_boot = refl

pub without_body : refused (raw_reading (lined (codes "utk 1") ++ lined (codes "boot main 10"))) ≡ (3, whys.End) ∷ []
unfolding F.digits X.device_taken X.body_taken X.is_label X.label_taken X.unit_named X.unit_count X.ram_at X.flaky_at X.slow_at X.unit_at X.new_device_name X.device_from X.device_at X.pace_at X.least_step X.irq_from X.irq_at X.boot_from X.boot_at X.kind_named X.new_body_name X.body_from X.body_at X.takes_device X.takes_pace X.takes_irq X.takes_boot X.takes_body X.device_line X.pace_line X.irq_line X.boot_line X.body_line X.outside X.new_label X.label_at X.end_line X.label_line X.stmt_line X.inside X.step X.words_line X.read_line X.is_head X.head_line X.ended X.read_lines X.read_all X.raw_reading P.register_at P.number_between P.name_at P.short_name_at P.value_at P.name_or_dash_at P.piece_at P.pieces_from P.arguments_at P.raw_stmt_at H.head_text H.form_of_head H.own_head H.head_named L.whole_lines L.text_lines L.begins_note W.parts_of W.is_text_byte W.line_fault D.fits_i32 D.number_at D.natural_at S.bits_of S.list_at T.operation_word T.table_of C.text_of C.form_of C.named N.is_name_byte N.name_at_most
without_body = refl

pub boot_without_priority : refused (raw_reading (lined (codes "utk 1") ++ lined (codes "boot main"))) ≡ (2, whys.Count) ∷ []
unfolding F.digits X.device_taken X.body_taken X.is_label X.label_taken X.unit_named X.unit_count X.ram_at X.flaky_at X.slow_at X.unit_at X.new_device_name X.device_from X.device_at X.pace_at X.least_step X.irq_from X.irq_at X.boot_from X.boot_at X.kind_named X.new_body_name X.body_from X.body_at X.takes_device X.takes_pace X.takes_irq X.takes_boot X.takes_body X.device_line X.pace_line X.irq_line X.boot_line X.body_line X.outside X.new_label X.label_at X.end_line X.label_line X.stmt_line X.inside X.step X.words_line X.read_line X.is_head X.head_line X.ended X.read_lines X.read_all X.raw_reading P.register_at P.number_between P.name_at P.short_name_at P.value_at P.name_or_dash_at P.piece_at P.pieces_from P.arguments_at P.raw_stmt_at H.head_text H.form_of_head H.own_head H.head_named L.whole_lines L.text_lines L.begins_note W.parts_of W.is_text_byte W.line_fault D.fits_i32 D.number_at D.natural_at S.bits_of S.list_at T.operation_word T.table_of C.text_of C.form_of C.named N.is_name_byte N.name_at_most
boot_without_priority = refl

pub name_before_number : refused (raw_reading (lined (codes "utk 1") ++ lined (codes "boot Main 0"))) ≡ (2, whys.Name) ∷ []
unfolding F.digits X.device_taken X.body_taken X.is_label X.label_taken X.unit_named X.unit_count X.ram_at X.flaky_at X.slow_at X.unit_at X.new_device_name X.device_from X.device_at X.pace_at X.least_step X.irq_from X.irq_at X.boot_from X.boot_at X.kind_named X.new_body_name X.body_from X.body_at X.takes_device X.takes_pace X.takes_irq X.takes_boot X.takes_body X.device_line X.pace_line X.irq_line X.boot_line X.body_line X.outside X.new_label X.label_at X.end_line X.label_line X.stmt_line X.inside X.step X.words_line X.read_line X.is_head X.head_line X.ended X.read_lines X.read_all X.raw_reading P.register_at P.number_between P.name_at P.short_name_at P.value_at P.name_or_dash_at P.piece_at P.pieces_from P.arguments_at P.raw_stmt_at H.head_text H.form_of_head H.own_head H.head_named L.whole_lines L.text_lines L.begins_note W.parts_of W.is_text_byte W.line_fault D.fits_i32 D.number_at D.natural_at S.bits_of S.list_at T.operation_word T.table_of C.text_of C.form_of C.named N.is_name_byte N.name_at_most
name_before_number = refl

pub priority_zero : refused (raw_reading (lined (codes "utk 1") ++ lined (codes "boot main 0"))) ≡ (2, whys.Number) ∷ []
unfolding F.digits X.device_taken X.body_taken X.is_label X.label_taken X.unit_named X.unit_count X.ram_at X.flaky_at X.slow_at X.unit_at X.new_device_name X.device_from X.device_at X.pace_at X.least_step X.irq_from X.irq_at X.boot_from X.boot_at X.kind_named X.new_body_name X.body_from X.body_at X.takes_device X.takes_pace X.takes_irq X.takes_boot X.takes_body X.device_line X.pace_line X.irq_line X.boot_line X.body_line X.outside X.new_label X.label_at X.end_line X.label_line X.stmt_line X.inside X.step X.words_line X.read_line X.is_head X.head_line X.ended X.read_lines X.read_all X.raw_reading P.register_at P.number_between P.name_at P.short_name_at P.value_at P.name_or_dash_at P.piece_at P.pieces_from P.arguments_at P.raw_stmt_at H.head_text H.form_of_head H.own_head H.head_named L.whole_lines L.text_lines L.begins_note W.parts_of W.is_text_byte W.line_fault D.fits_i32 D.number_at D.natural_at S.bits_of S.list_at T.operation_word T.table_of C.text_of C.form_of C.named N.is_name_byte N.name_at_most
priority_zero = refl

pub pace_behind_boot : refused (raw_reading (lined (codes "utk 1") ++ lined (codes "boot main 10") ++ lined (codes "pace 5"))) ≡ (3, whys.Order) ∷ []
unfolding F.digits X.device_taken X.body_taken X.is_label X.label_taken X.unit_named X.unit_count X.ram_at X.flaky_at X.slow_at X.unit_at X.new_device_name X.device_from X.device_at X.pace_at X.least_step X.irq_from X.irq_at X.boot_from X.boot_at X.kind_named X.new_body_name X.body_from X.body_at X.takes_device X.takes_pace X.takes_irq X.takes_boot X.takes_body X.device_line X.pace_line X.irq_line X.boot_line X.body_line X.outside X.new_label X.label_at X.end_line X.label_line X.stmt_line X.inside X.step X.words_line X.read_line X.is_head X.head_line X.ended X.read_lines X.read_all X.raw_reading P.register_at P.number_between P.name_at P.short_name_at P.value_at P.name_or_dash_at P.piece_at P.pieces_from P.arguments_at P.raw_stmt_at H.head_text H.form_of_head H.own_head H.head_named L.whole_lines L.text_lines L.begins_note W.parts_of W.is_text_byte W.line_fault D.fits_i32 D.number_at D.natural_at S.bits_of S.list_at T.operation_word T.table_of C.text_of C.form_of C.named N.is_name_byte N.name_at_most
pace_behind_boot = refl

pub device_behind_pace : refused (raw_reading (lined (codes "utk 1") ++ lined (codes "pace 5") ++ lined (codes "device a log"))) ≡ (3, whys.Order) ∷ []
unfolding F.digits X.device_taken X.body_taken X.is_label X.label_taken X.unit_named X.unit_count X.ram_at X.flaky_at X.slow_at X.unit_at X.new_device_name X.device_from X.device_at X.pace_at X.least_step X.irq_from X.irq_at X.boot_from X.boot_at X.kind_named X.new_body_name X.body_from X.body_at X.takes_device X.takes_pace X.takes_irq X.takes_boot X.takes_body X.device_line X.pace_line X.irq_line X.boot_line X.body_line X.outside X.new_label X.label_at X.end_line X.label_line X.stmt_line X.inside X.step X.words_line X.read_line X.is_head X.head_line X.ended X.read_lines X.read_all X.raw_reading P.register_at P.number_between P.name_at P.short_name_at P.value_at P.name_or_dash_at P.piece_at P.pieces_from P.arguments_at P.raw_stmt_at H.head_text H.form_of_head H.own_head H.head_named L.whole_lines L.text_lines L.begins_note W.parts_of W.is_text_byte W.line_fault D.fits_i32 D.number_at D.natural_at S.bits_of S.list_at T.operation_word T.table_of C.text_of C.form_of C.named N.is_name_byte N.name_at_most
device_behind_pace = refl

pub falling_step : refused (raw_reading (lined (codes "utk 1") ++ lined (codes "irq 5 1") ++ lined (codes "irq 4 1"))) ≡ (3, whys.Number) ∷ []
unfolding F.digits X.device_taken X.body_taken X.is_label X.label_taken X.unit_named X.unit_count X.ram_at X.flaky_at X.slow_at X.unit_at X.new_device_name X.device_from X.device_at X.pace_at X.least_step X.irq_from X.irq_at X.boot_from X.boot_at X.kind_named X.new_body_name X.body_from X.body_at X.takes_device X.takes_pace X.takes_irq X.takes_boot X.takes_body X.device_line X.pace_line X.irq_line X.boot_line X.body_line X.outside X.new_label X.label_at X.end_line X.label_line X.stmt_line X.inside X.step X.words_line X.read_line X.is_head X.head_line X.ended X.read_lines X.read_all X.raw_reading P.register_at P.number_between P.name_at P.short_name_at P.value_at P.name_or_dash_at P.piece_at P.pieces_from P.arguments_at P.raw_stmt_at H.head_text H.form_of_head H.own_head H.head_named L.whole_lines L.text_lines L.begins_note W.parts_of W.is_text_byte W.line_fault D.fits_i32 D.number_at D.natural_at S.bits_of S.list_at T.operation_word T.table_of C.text_of C.form_of C.named N.is_name_byte N.name_at_most
falling_step = refl

pub device_without_kind : refused (raw_reading (lined (codes "utk 1") ++ lined (codes "device a"))) ≡ (2, whys.Count) ∷ []
unfolding F.digits X.device_taken X.body_taken X.is_label X.label_taken X.unit_named X.unit_count X.ram_at X.flaky_at X.slow_at X.unit_at X.new_device_name X.device_from X.device_at X.pace_at X.least_step X.irq_from X.irq_at X.boot_from X.boot_at X.kind_named X.new_body_name X.body_from X.body_at X.takes_device X.takes_pace X.takes_irq X.takes_boot X.takes_body X.device_line X.pace_line X.irq_line X.boot_line X.body_line X.outside X.new_label X.label_at X.end_line X.label_line X.stmt_line X.inside X.step X.words_line X.read_line X.is_head X.head_line X.ended X.read_lines X.read_all X.raw_reading P.register_at P.number_between P.name_at P.short_name_at P.value_at P.name_or_dash_at P.piece_at P.pieces_from P.arguments_at P.raw_stmt_at H.head_text H.form_of_head H.own_head H.head_named L.whole_lines L.text_lines L.begins_note W.parts_of W.is_text_byte W.line_fault D.fits_i32 D.number_at D.natural_at S.bits_of S.list_at T.operation_word T.table_of C.text_of C.form_of C.named N.is_name_byte N.name_at_most
device_without_kind = refl

pub kind_of_no_unit : refused (raw_reading (lined (codes "utk 1") ++ lined (codes "device Large rom 1 2 3"))) ≡ (2, whys.Name) ∷ []
unfolding F.digits X.device_taken X.body_taken X.is_label X.label_taken X.unit_named X.unit_count X.ram_at X.flaky_at X.slow_at X.unit_at X.new_device_name X.device_from X.device_at X.pace_at X.least_step X.irq_from X.irq_at X.boot_from X.boot_at X.kind_named X.new_body_name X.body_from X.body_at X.takes_device X.takes_pace X.takes_irq X.takes_boot X.takes_body X.device_line X.pace_line X.irq_line X.boot_line X.body_line X.outside X.new_label X.label_at X.end_line X.label_line X.stmt_line X.inside X.step X.words_line X.read_line X.is_head X.head_line X.ended X.read_lines X.read_all X.raw_reading P.register_at P.number_between P.name_at P.short_name_at P.value_at P.name_or_dash_at P.piece_at P.pieces_from P.arguments_at P.raw_stmt_at H.head_text H.form_of_head H.own_head H.head_named L.whole_lines L.text_lines L.begins_note W.parts_of W.is_text_byte W.line_fault D.fits_i32 D.number_at D.natural_at S.bits_of S.list_at T.operation_word T.table_of C.text_of C.form_of C.named N.is_name_byte N.name_at_most
kind_of_no_unit = refl

pub unit_without_size : refused (raw_reading (lined (codes "utk 1") ++ lined (codes "device a ram"))) ≡ (2, whys.Count) ∷ []
unfolding F.digits X.device_taken X.body_taken X.is_label X.label_taken X.unit_named X.unit_count X.ram_at X.flaky_at X.slow_at X.unit_at X.new_device_name X.device_from X.device_at X.pace_at X.least_step X.irq_from X.irq_at X.boot_from X.boot_at X.kind_named X.new_body_name X.body_from X.body_at X.takes_device X.takes_pace X.takes_irq X.takes_boot X.takes_body X.device_line X.pace_line X.irq_line X.boot_line X.body_line X.outside X.new_label X.label_at X.end_line X.label_line X.stmt_line X.inside X.step X.words_line X.read_line X.is_head X.head_line X.ended X.read_lines X.read_all X.raw_reading P.register_at P.number_between P.name_at P.short_name_at P.value_at P.name_or_dash_at P.piece_at P.pieces_from P.arguments_at P.raw_stmt_at H.head_text H.form_of_head H.own_head H.head_named L.whole_lines L.text_lines L.begins_note W.parts_of W.is_text_byte W.line_fault D.fits_i32 D.number_at D.natural_at S.bits_of S.list_at T.operation_word T.table_of C.text_of C.form_of C.named N.is_name_byte N.name_at_most
unit_without_size = refl

pub device_twice : refused (raw_reading (lined (codes "utk 1") ++ lined (codes "device a log") ++ lined (codes "device a log"))) ≡ (3, whys.Name) ∷ []
unfolding F.digits X.device_taken X.body_taken X.is_label X.label_taken X.unit_named X.unit_count X.ram_at X.flaky_at X.slow_at X.unit_at X.new_device_name X.device_from X.device_at X.pace_at X.least_step X.irq_from X.irq_at X.boot_from X.boot_at X.kind_named X.new_body_name X.body_from X.body_at X.takes_device X.takes_pace X.takes_irq X.takes_boot X.takes_body X.device_line X.pace_line X.irq_line X.boot_line X.body_line X.outside X.new_label X.label_at X.end_line X.label_line X.stmt_line X.inside X.step X.words_line X.read_line X.is_head X.head_line X.ended X.read_lines X.read_all X.raw_reading P.register_at P.number_between P.name_at P.short_name_at P.value_at P.name_or_dash_at P.piece_at P.pieces_from P.arguments_at P.raw_stmt_at H.head_text H.form_of_head H.own_head H.head_named L.whole_lines L.text_lines L.begins_note W.parts_of W.is_text_byte W.line_fault D.fits_i32 D.number_at D.natural_at S.bits_of S.list_at T.operation_word T.table_of C.text_of C.form_of C.named N.is_name_byte N.name_at_most
device_twice = refl

pub long_device_name : refused (raw_reading (lined (codes "utk 1") ++ lined (codes "device ninechars log"))) ≡ (2, whys.Name) ∷ []
unfolding F.digits X.device_taken X.body_taken X.is_label X.label_taken X.unit_named X.unit_count X.ram_at X.flaky_at X.slow_at X.unit_at X.new_device_name X.device_from X.device_at X.pace_at X.least_step X.irq_from X.irq_at X.boot_from X.boot_at X.kind_named X.new_body_name X.body_from X.body_at X.takes_device X.takes_pace X.takes_irq X.takes_boot X.takes_body X.device_line X.pace_line X.irq_line X.boot_line X.body_line X.outside X.new_label X.label_at X.end_line X.label_line X.stmt_line X.inside X.step X.words_line X.read_line X.is_head X.head_line X.ended X.read_lines X.read_all X.raw_reading P.register_at P.number_between P.name_at P.short_name_at P.value_at P.name_or_dash_at P.piece_at P.pieces_from P.arguments_at P.raw_stmt_at H.head_text H.form_of_head H.own_head H.head_named L.whole_lines L.text_lines L.begins_note W.parts_of W.is_text_byte W.line_fault D.fits_i32 D.number_at D.natural_at S.bits_of S.list_at T.operation_word T.table_of C.text_of C.form_of C.named N.is_name_byte N.name_at_most
long_device_name = refl

pub unknown_statement : refused (raw_reading (lined (codes "utk 1") ++ lined (codes "boot main 10") ++ lined (codes "body main task") ++ lined (codes "wait"))) ≡ (4, whys.Word) ∷ []
unfolding F.digits X.device_taken X.body_taken X.is_label X.label_taken X.unit_named X.unit_count X.ram_at X.flaky_at X.slow_at X.unit_at X.new_device_name X.device_from X.device_at X.pace_at X.least_step X.irq_from X.irq_at X.boot_from X.boot_at X.kind_named X.new_body_name X.body_from X.body_at X.takes_device X.takes_pace X.takes_irq X.takes_boot X.takes_body X.device_line X.pace_line X.irq_line X.boot_line X.body_line X.outside X.new_label X.label_at X.end_line X.label_line X.stmt_line X.inside X.step X.words_line X.read_line X.is_head X.head_line X.ended X.read_lines X.read_all X.raw_reading P.register_at P.number_between P.name_at P.short_name_at P.value_at P.name_or_dash_at P.piece_at P.pieces_from P.arguments_at P.raw_stmt_at H.head_text H.form_of_head H.own_head H.head_named L.whole_lines L.text_lines L.begins_note W.parts_of W.is_text_byte W.line_fault D.fits_i32 D.number_at D.natural_at S.bits_of S.list_at T.operation_word T.table_of C.text_of C.form_of C.named N.is_name_byte N.name_at_most
unknown_statement = refl

pub register_sixteen : refused (raw_reading (lined (codes "utk 1") ++ lined (codes "boot main 10") ++ lined (codes "body main task") ++ lined (codes "set r16 7"))) ≡ (4, whys.Name) ∷ []
unfolding F.digits X.device_taken X.body_taken X.is_label X.label_taken X.unit_named X.unit_count X.ram_at X.flaky_at X.slow_at X.unit_at X.new_device_name X.device_from X.device_at X.pace_at X.least_step X.irq_from X.irq_at X.boot_from X.boot_at X.kind_named X.new_body_name X.body_from X.body_at X.takes_device X.takes_pace X.takes_irq X.takes_boot X.takes_body X.device_line X.pace_line X.irq_line X.boot_line X.body_line X.outside X.new_label X.label_at X.end_line X.label_line X.stmt_line X.inside X.step X.words_line X.read_line X.is_head X.head_line X.ended X.read_lines X.read_all X.raw_reading P.register_at P.number_between P.name_at P.short_name_at P.value_at P.name_or_dash_at P.piece_at P.pieces_from P.arguments_at P.raw_stmt_at H.head_text H.form_of_head H.own_head H.head_named L.whole_lines L.text_lines L.begins_note W.parts_of W.is_text_byte W.line_fault D.fits_i32 D.number_at D.natural_at S.bits_of S.list_at T.operation_word T.table_of C.text_of C.form_of C.named N.is_name_byte N.name_at_most
register_sixteen = refl

pub value_register_sixteen : refused (raw_reading (lined (codes "utk 1") ++ lined (codes "boot main 10") ++ lined (codes "body main task") ++ lined (codes "set r15 r16"))) ≡ (4, whys.Number) ∷ []
unfolding F.digits X.device_taken X.body_taken X.is_label X.label_taken X.unit_named X.unit_count X.ram_at X.flaky_at X.slow_at X.unit_at X.new_device_name X.device_from X.device_at X.pace_at X.least_step X.irq_from X.irq_at X.boot_from X.boot_at X.kind_named X.new_body_name X.body_from X.body_at X.takes_device X.takes_pace X.takes_irq X.takes_boot X.takes_body X.device_line X.pace_line X.irq_line X.boot_line X.body_line X.outside X.new_label X.label_at X.end_line X.label_line X.stmt_line X.inside X.step X.words_line X.read_line X.is_head X.head_line X.ended X.read_lines X.read_all X.raw_reading P.register_at P.number_between P.name_at P.short_name_at P.value_at P.name_or_dash_at P.piece_at P.pieces_from P.arguments_at P.raw_stmt_at H.head_text H.form_of_head H.own_head H.head_named L.whole_lines L.text_lines L.begins_note W.parts_of W.is_text_byte W.line_fault D.fits_i32 D.number_at D.natural_at S.bits_of S.list_at T.operation_word T.table_of C.text_of C.form_of C.named N.is_name_byte N.name_at_most
value_register_sixteen = refl

pub dash_for_no_body : refused (raw_reading (lined (codes "utk 1") ++ lined (codes "boot main 10") ++ lined (codes "body main task") ++ lined (codes "tk_def_int 1 -") ++ lined (codes "tk_cre_tsk - - 1 1"))) ≡ (5, whys.Name) ∷ []
unfolding F.digits X.device_taken X.body_taken X.is_label X.label_taken X.unit_named X.unit_count X.ram_at X.flaky_at X.slow_at X.unit_at X.new_device_name X.device_from X.device_at X.pace_at X.least_step X.irq_from X.irq_at X.boot_from X.boot_at X.kind_named X.new_body_name X.body_from X.body_at X.takes_device X.takes_pace X.takes_irq X.takes_boot X.takes_body X.device_line X.pace_line X.irq_line X.boot_line X.body_line X.outside X.new_label X.label_at X.end_line X.label_line X.stmt_line X.inside X.step X.words_line X.read_line X.is_head X.head_line X.ended X.read_lines X.read_all X.raw_reading P.register_at P.number_between P.name_at P.short_name_at P.value_at P.name_or_dash_at P.piece_at P.pieces_from P.arguments_at P.raw_stmt_at H.head_text H.form_of_head H.own_head H.head_named L.whole_lines L.text_lines L.begins_note W.parts_of W.is_text_byte W.line_fault D.fits_i32 D.number_at D.natural_at S.bits_of S.list_at T.operation_word T.table_of C.text_of C.form_of C.named N.is_name_byte N.name_at_most
dash_for_no_body = refl

pub list_out_of_order : refused (raw_reading (lined (codes "utk 1") ++ lined (codes "boot main 10") ++ lined (codes "body main task") ++ lined (codes "tk_cre_sem TA_TPRI|TA_TFIFO 1 1"))) ≡ (4, whys.List) ∷ []
unfolding F.digits X.device_taken X.body_taken X.is_label X.label_taken X.unit_named X.unit_count X.ram_at X.flaky_at X.slow_at X.unit_at X.new_device_name X.device_from X.device_at X.pace_at X.least_step X.irq_from X.irq_at X.boot_from X.boot_at X.kind_named X.new_body_name X.body_from X.body_at X.takes_device X.takes_pace X.takes_irq X.takes_boot X.takes_body X.device_line X.pace_line X.irq_line X.boot_line X.body_line X.outside X.new_label X.label_at X.end_line X.label_line X.stmt_line X.inside X.step X.words_line X.read_line X.is_head X.head_line X.ended X.read_lines X.read_all X.raw_reading P.register_at P.number_between P.name_at P.short_name_at P.value_at P.name_or_dash_at P.piece_at P.pieces_from P.arguments_at P.raw_stmt_at H.head_text H.form_of_head H.own_head H.head_named L.whole_lines L.text_lines L.begins_note W.parts_of W.is_text_byte W.line_fault D.fits_i32 D.number_at D.natural_at S.bits_of S.list_at T.operation_word T.table_of C.text_of C.form_of C.named N.is_name_byte N.name_at_most
list_out_of_order = refl

pub label_twice : refused (raw_reading (lined (codes "utk 1") ++ lined (codes "boot main 10") ++ lined (codes "body main task") ++ lined (codes "label a") ++ lined (codes "label a"))) ≡ (5, whys.Name) ∷ []
unfolding F.digits X.device_taken X.body_taken X.is_label X.label_taken X.unit_named X.unit_count X.ram_at X.flaky_at X.slow_at X.unit_at X.new_device_name X.device_from X.device_at X.pace_at X.least_step X.irq_from X.irq_at X.boot_from X.boot_at X.kind_named X.new_body_name X.body_from X.body_at X.takes_device X.takes_pace X.takes_irq X.takes_boot X.takes_body X.device_line X.pace_line X.irq_line X.boot_line X.body_line X.outside X.new_label X.label_at X.end_line X.label_line X.stmt_line X.inside X.step X.words_line X.read_line X.is_head X.head_line X.ended X.read_lines X.read_all X.raw_reading P.register_at P.number_between P.name_at P.short_name_at P.value_at P.name_or_dash_at P.piece_at P.pieces_from P.arguments_at P.raw_stmt_at H.head_text H.form_of_head H.own_head H.head_named L.whole_lines L.text_lines L.begins_note W.parts_of W.is_text_byte W.line_fault D.fits_i32 D.number_at D.natural_at S.bits_of S.list_at T.operation_word T.table_of C.text_of C.form_of C.named N.is_name_byte N.name_at_most
label_twice = refl

pub end_with_a_word : refused (raw_reading (lined (codes "utk 1") ++ lined (codes "boot main 10") ++ lined (codes "body main task") ++ lined (codes "end 1"))) ≡ (4, whys.Count) ∷ []
unfolding F.digits X.device_taken X.body_taken X.is_label X.label_taken X.unit_named X.unit_count X.ram_at X.flaky_at X.slow_at X.unit_at X.new_device_name X.device_from X.device_at X.pace_at X.least_step X.irq_from X.irq_at X.boot_from X.boot_at X.kind_named X.new_body_name X.body_from X.body_at X.takes_device X.takes_pace X.takes_irq X.takes_boot X.takes_body X.device_line X.pace_line X.irq_line X.boot_line X.body_line X.outside X.new_label X.label_at X.end_line X.label_line X.stmt_line X.inside X.step X.words_line X.read_line X.is_head X.head_line X.ended X.read_lines X.read_all X.raw_reading P.register_at P.number_between P.name_at P.short_name_at P.value_at P.name_or_dash_at P.piece_at P.pieces_from P.arguments_at P.raw_stmt_at H.head_text H.form_of_head H.own_head H.head_named L.whole_lines L.text_lines L.begins_note W.parts_of W.is_text_byte W.line_fault D.fits_i32 D.number_at D.natural_at S.bits_of S.list_at T.operation_word T.table_of C.text_of C.form_of C.named N.is_name_byte N.name_at_most
end_with_a_word = refl

pub plain_form : raw_reading (lined (codes "utk  1") ++ lined (codes "# note") ++ lined [] ++ lined (codes "boot main 10") ++ lined (codes "body main task") ++ lined (codes "  say   hello") ++ lined (codes "end")) ≡ Ok (record { devices = []; pace = None; irqs = []; boot = record { body = codes "main"; priority = 10 }; bodies = record { name = codes "main"; kind = Task; items = items.Stmt (record { head = heads.Say; pieces = pieces.Name (codes "hello") ∷ [] }) ∷ [] } ∷ []; lines = 4 ∷ 5 ∷ 6 ∷ 7 ∷ [] })
unfolding F.digits X.device_taken X.body_taken X.is_label X.label_taken X.unit_named X.unit_count X.ram_at X.flaky_at X.slow_at X.unit_at X.new_device_name X.device_from X.device_at X.pace_at X.least_step X.irq_from X.irq_at X.boot_from X.boot_at X.kind_named X.new_body_name X.body_from X.body_at X.takes_device X.takes_pace X.takes_irq X.takes_boot X.takes_body X.device_line X.pace_line X.irq_line X.boot_line X.body_line X.outside X.new_label X.label_at X.end_line X.label_line X.stmt_line X.inside X.step X.words_line X.read_line X.is_head X.head_line X.ended X.read_lines X.read_all X.raw_reading P.register_at P.number_between P.name_at P.short_name_at P.value_at P.name_or_dash_at P.piece_at P.pieces_from P.arguments_at P.raw_stmt_at H.head_text H.form_of_head H.own_head H.head_named L.whole_lines L.text_lines L.begins_note W.parts_of W.is_text_byte W.line_fault D.fits_i32 D.number_at D.natural_at S.bits_of S.list_at T.operation_word T.table_of C.text_of C.form_of C.named N.is_name_byte N.name_at_most
plain_form = refl
