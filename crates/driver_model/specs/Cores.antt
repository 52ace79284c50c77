-- A driver without threads: what it keeps, and what each message, each turn and the giving out of an ending make of that.
use Rattle.std.specs.Prelude.{ℕ, ◌+◌, ◌*◌, ◌==◌, Bool, true, false, not, ◌&&◌, nat_lt, if◌then◌else◌, List, [], Option, Some, None}
use Rattle.std.specs.Option.{is_some, option_map}
use Rattle.tk_types.specs.declared.error_code.Er.TheVariants as er
use Rattle.tk_types.specs.declared.line.How.TheVariants.{Done, Cut}
use Rattle.tk_types.specs.declared.script.Kind.{Kind}
use Rattle.tk_types.specs.declared.script.Kind.TheVariants as kinds
use Rattle.device_model.specs.declared.messages.Ending.{Ending}
use Rattle.device_model.specs.declared.messages.Message.{Message}
use Rattle.device_model.specs.declared.messages.Message.TheVariants as message
use Rattle.device_model.specs.declared.messages.Request.{Request}
use Rattle.device_model.specs.Units.Stores.{Store, store_start}
use Rattle.device_model.specs.Units.Function.{Served, begin, block_size}
use Rattle.device_model.specs.Units.Blocks.{Partial, block, count_at, is_last}
use Rattle.device_model.specs.Devices.Endings.{ending_of}
use Rattle.driver_model.specs.Ends.{error_at, size_at}

pub record Core : Type 0 where
  pub device : ℕ
  pub kind : Kind
  pub store : Store  -- what its unit holds
  pub given : Option Request  -- the request that it works on
  pub blocks : ℕ  -- blocks of that request that are done
  pub turns : ℕ  -- empty turns since the last of them
  pub content : List ℕ  -- bytes of that request that were read
  pub ready : Option Ending  -- an ending that hasn't gone out
  pub stopped : Bool  -- whether it has taken a Stop
  pub taken : ℕ  -- messages that it has taken

-- a driver begins without a request
abbrev pub core_start : ℕ → Kind → Core
core_start d kind = record {
  device = d;
  kind = kind;
  store = store_start kind;
  given = None;
  blocks = 0;
  turns = 0;
  content = [];
  ready = None;
  stopped = false;
  taken = 0;
}

-- whether a driver has neither a request nor an ending that is ready
abbrev pub is_idle : Core → Bool
is_idle core = not (is_some core.given) && not (is_some core.ready)

-- ---- messages

abbrev pub may_begin : Message → Core → Bool
may_begin (message.Serve d request) core = is_idle core
may_begin _ core = true

-- whether a driver takes a message: none after a Stop, and a request only where it is idle
unfoldable pub can_take : Core → Message → Bool
can_take core m = not core.stopped && may_begin m core

-- a request is begun
abbrev pub begun : Core → Request → Core
begun core request = record core { store = begin core.store request; given = Some request; blocks = 0; turns = 0; content = [] }

-- the request is over, with an ending that is ready
abbrev pub readied : Core → Store → Ending → Core
readied core store ending = record core { store = store; given = None; blocks = 0; turns = 0; content = []; ready = Some ending }

-- what was done of a request that is cut off before its next block
abbrev pub cut_served : Core → Served
cut_served core = record { store = core.store; size = block_size * core.blocks; error = er.Abort; content = core.content }

abbrev pub cut_off : Core → Request → Core
cut_off core request = readied core core.store (ending_of core.device request (Cut (block_size * core.blocks)) (cut_served core))

-- a request is aborted only while its driver works on it
abbrev pub aborted : ℕ → Core → Option Request → Core
aborted number core None = core
aborted number core (Some request) = if request.number == number then cut_off core request else core

abbrev pub heard : Core → Message → Core
heard core (message.Serve d request) = begun core request
heard core (message.Abort d number) = aborted number core core.given
heard core (message.Stop d) = record core { stopped = true }

-- a message is taken. A Serve begins its request. An Abort cuts off the request that it names, where the driver works on
-- that, and else does nothing. A Stop leaves a request and an ending where they are
unfoldable pub after_message : Core → Message → Core
after_message core m = let now : Core = heard core m in record now { taken = core.taken + 1 }

-- ---- turns

-- how many empty turns the driver of a unit makes before each block
abbrev pub empty_turns : Kind → ℕ
empty_turns (kinds.Slow size turns) = turns
empty_turns _ = 0

-- whether the next turn is an empty one; a request without blocks has none
abbrev pub is_empty_turn : Core → Request → Bool
is_empty_turn core request =
    nat_lt core.turns (empty_turns core.kind) && not (count_at core.kind core.store request (block_size * core.blocks) == 0)

abbrev pub next_block : Core → Request → Partial
next_block core request = block core.kind (record { store = core.store; content = core.content }) request core.blocks

-- what was done of a request with its last block
abbrev pub done_served : Core → Request → Partial → Served
done_served core request last = record {
  store = last.store;
  size = size_at core.kind core.store request (block_size * core.blocks);
  error = error_at core.kind core.store request (block_size * core.blocks);
  content = last.content;
}

abbrev pub done : Core → Request → Partial → Core
done core request last = readied core last.store (ending_of core.device request Done (done_served core request last))

abbrev pub went_on : Core → Partial → Core
went_on core next = record core { store = next.store; blocks = core.blocks + 1; turns = 0; content = next.content }

abbrev pub worked : Core → Request → Core
worked core request =
    if is_last core.kind core.store request core.blocks
    then done core request (next_block core request)
    else went_on core (next_block core request)

abbrev pub turned : Core → Option Request → Core
turned core None = core
turned core (Some request) = if is_empty_turn core request then record core { turns = core.turns + 1 } else worked core request

-- whether a driver has a turn to make: it works on a request, and wasn't stopped
abbrev pub has_work : Core → Bool
has_work core = not core.stopped && is_some core.given

-- a turn: an empty one, or the next block of the request. The last block makes its ending ready. A request that moves
-- nothing has one block, which makes its ending ready
unfoldable pub after_block : Core → Core
after_block core = if core.stopped then core else turned core core.given

-- ---- endings

-- the ending that a driver gives out, with the number of messages that it has taken by then: none after a Stop
unfoldable pub ending_out : Core → Option Ending
ending_out core = if core.stopped then None else option_map (λ (e : Ending). record e { taken = core.taken }) core.ready

-- it has gone out
unfoldable pub after_ending : Core → Core
after_ending core = if core.stopped then core else record core { ready = None }
