-- What a block answers: that more is to be done, or how the request has ended. A block knows no more than what stands when
-- it begins.
use Rattle.std.specs.Prelude.{ℕ, ◌*◌, if◌then◌else◌}
use Rattle.tk_types.specs.declared.script.Kind.{Kind}
use Rattle.device_model.specs.declared.messages.Request.{Request}
use Rattle.device_model.specs.Units.Stores.{Store}
use Rattle.device_model.specs.Units.Function.{block_size}
use Rattle.device_model.specs.Units.Blocks.{is_last}
use Rattle.driver_model.specs.Ends.{error_at, size_at}
use Rattle.dev_units.specs.declared.block_end.BlockEnd.{BlockEnd}
use Rattle.dev_units.specs.declared.block_end.BlockEnd.TheVariants.{Ended, More}

-- what the block with that number answers
abbrev pub block_end : Kind → Store → Request → ℕ → BlockEnd
block_end kind store request number =
    if is_last kind store request number
    then Ended (size_at kind store request (block_size * number)) (error_at kind store request (block_size * number))
    else More
