-- How far a request has come, by what its unit does with it as a whole.
use Rattle.std.specs.Prelude.{ℕ, ◌≡◌, ◌*◌, true, List, [], if◌then◌else◌}
use Rattle.tk_types.specs.declared.error_code.Er.{Er}
use Rattle.tk_types.specs.declared.error_code.Er.TheVariants as er
use Rattle.tk_types.specs.declared.script.Kind.{Kind}
use Rattle.device_model.specs.declared.messages.Request.{Request}
use Rattle.device_model.specs.Units.Stores.{Store}
use Rattle.device_model.specs.Units.Function.{Served, block_size, cut, may_cut, unit}
use Rattle.device_model.specs.Units.Blocks.{Partial, blocks}
use Rattle.dev_units.specs.declared.block_end.BlockEnd.{BlockEnd}
use Rattle.dev_units.specs.declared.block_end.BlockEnd.TheVariants.{Ended, More}

-- the bytes that a request has brought, of those that lie there: a write brings none
abbrev pub brought : Request → List ℕ → List ℕ
brought request items = if request.write then [] else items

abbrev pub partial : Store → List ℕ → Partial
partial store content = record { store = store; content = content }

abbrev pub ended_with : Store → ℕ → Er → List ℕ → Served
ended_with store size error content = record { store = store; size = size; error = error; content = content }

-- a request that found its unit with the first store was begun, and so many blocks of it were done: that is its cut there,
-- and it may be cut off there
pub record IsUnderWay (kind : Kind) (found : Store) (request : Request) (done : ℕ) (store : Store) (content : List ℕ) : Type 0 where
  pub served : partial store content ≡ blocks kind found request done
  pub cut : ended_with store (block_size * done) er.Abort content ≡ cut kind found request (block_size * done)
  pub may_cut : may_cut kind found request (block_size * done) ≡ true

-- after a block the request is under way, or what its unit does with it is done whole
abbrev pub CameTo : Kind → Store → Request → ℕ → BlockEnd → Store → List ℕ → Type 0
CameTo kind found request done More store content = IsUnderWay kind found request done store content
CameTo kind found request done (Ended size error) store content = ended_with store size error content ≡ unit kind found request
