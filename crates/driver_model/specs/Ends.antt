-- How a request ends, seen from its last block, which knows no more than what stands when it begins.
use Rattle.std.specs.Prelude.{ℕ, ◌==◌, if◌then◌else◌}
use Rattle.tk_types.specs.declared.error_code.Er.{Er}
use Rattle.tk_types.specs.declared.error_code.Er.TheVariants as er
use Rattle.tk_types.specs.declared.script.Kind.{Kind}
use Rattle.device_model.specs.declared.messages.Request.{Request}
use Rattle.device_model.specs.Units.Stores.{Store}
use Rattle.device_model.specs.Units.Function.{available, cause_of}
use Rattle.device_model.specs.Units.Blocks.{count_at}

-- the size that a request answers, seen from where so many bytes were moved
abbrev pub size_at : Kind → Store → Request → ℕ → ℕ
size_at kind store request moved =
    if request.size == 0 then available kind store.bytes request else count_at kind store request moved

-- and its error
abbrev pub error_at : Kind → Store → Request → ℕ → Er
error_at kind store request moved =
    if request.size == 0 then er.Ok else (if count_at kind store request moved == 0 then cause_of kind store request else er.Ok)
