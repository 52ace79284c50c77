-- What a unit does with a request: the store that it leaves, how many bytes are moved, the error, and the bytes read. One
-- rule for all kinds; they differ in what there is to move, in whether a write appends, and in which request fails.
use Rattle.std.specs.Prelude.{◌≡◌, ◌≤◌, true, false, ℕ, ◌+◌, ◌-◌, ◌%◌, ◌==◌, Bool, ◌&&◌, ◌||◌, nat_lt, if◌then◌else◌, min, List, [], ◌++◌, length, take, drop}
use Rattle.tk_types.specs.declared.error_code.Er.{Er}
use Rattle.tk_types.specs.declared.error_code.Er.TheVariants as er
use Rattle.tk_types.specs.declared.script.Kind.{Kind}
use Rattle.device_model.specs.declared.messages.Request.{Request}
use Rattle.device_model.specs.Units.Stores.{Store, log_limit, is_log, is_spoilt, write_at}

-- what came of a request
pub record Served : Type 0 where
  pub store : Store
  pub size : ℕ
  pub error : Er
  pub content : List ℕ  -- the bytes that were read

-- a write has as many bytes as its size; a read has none, and room for so many
pub record IsWhole (request : Request) : Type 0 where
  pub size : request.write ≡ true → length request.bytes.items ≡ request.size
  pub none : request.write ≡ false → request.bytes.items ≡ []
  pub room : request.write ≡ false → request.size ≤ request.bytes.room

-- a request of some size counts once it is begun
abbrev pub begin : Store → Request → Store
begin store request = if request.size == 0 then store else record store { begun = store.begun + 1 }

-- a write to a log goes behind its last byte, wherever it starts
abbrev pub appends : Kind → Request → Bool
appends kind request = is_log kind && request.write

-- how much there is to move: the bytes from the start on, or the room of a log
abbrev pub available : Kind → List ℕ → Request → ℕ
available kind bytes request =
    if appends kind request then log_limit - length bytes else length bytes - request.start

-- how many bytes a request moves that was begun
abbrev pub count_of : Kind → Store → Request → ℕ
count_of kind begun request =
    if request.size == 0 then 0 else (if is_spoilt kind begun.begun then 0 else min request.size (available kind begun.bytes request))

-- the bytes of a store once these were written
abbrev pub written : Kind → List ℕ → Request → List ℕ → List ℕ
written kind bytes request new = if is_log kind then bytes ++ new else write_at bytes request.start new

-- the store once a request's first bytes were moved, so many
abbrev pub moved : Kind → Store → Request → ℕ → Store
moved kind begun request count =
    if request.write then record begun { bytes = written kind begun.bytes request (take count request.bytes.items) } else begun

-- the bytes that a request reads, of so many
abbrev pub content_of : Store → Request → ℕ → List ℕ
content_of begun request count = if request.write then [] else take count (drop request.start begun.bytes)

-- the size that a request answers: one of size 0 answers what there is to move
abbrev pub size_of : Kind → Store → Request → ℕ
size_of kind begun request = if request.size == 0 then available kind begun.bytes request else count_of kind begun request

-- why nothing was moved: the unit failed, a log is full, or nothing stands at the start
abbrev pub cause_of : Kind → Store → Request → Er
cause_of kind begun request = if is_spoilt kind begun.begun || appends kind request then er.Io else er.Par

abbrev pub error_of : Kind → Store → Request → Er
error_of kind begun request =
    if request.size == 0 then er.Ok else (if count_of kind begun request == 0 then cause_of kind begun request else er.Ok)

-- a request that was begun, moved as far as it goes
abbrev pub served_begun : Kind → Store → Request → Served
served_begun kind begun request = record {
  store = moved kind begun request (count_of kind begun request);
  size = size_of kind begun request;
  error = error_of kind begun request;
  content = content_of begun request (count_of kind begun request);
}

-- what a unit does with a request
unfoldable pub unit : Kind → Store → Request → Served
unit kind store request = served_begun kind (begin store request) request

-- a request that was begun, of which only the first bytes were moved
abbrev pub cut_begun : Kind → Store → Request → ℕ → Served
cut_begun kind begun request count = record {
  store = moved kind begun request count;
  size = count;
  error = er.Abort;
  content = content_of begun request count;
}

-- the same of a request that is cut off after so many bytes
unfoldable pub cut : Kind → Store → Request → ℕ → Served
cut kind store request count = cut_begun kind (begin store request) request count

-- how many bytes a block has at most
abbrev pub block_size : ℕ
block_size = 64

-- where a request may be cut off: at its beginning, or between two blocks before its end
unfoldable pub may_cut : Kind → Store → Request → ℕ → Bool
may_cut kind store request count =
    count == 0 || (count % block_size == 0 && nat_lt count (count_of kind (begin store request) request))
