-- What contracts see of the streams in memory, and what a call answers and leaves there.
use Rattle.std.specs.Prelude.{ℕ, ◌+◌, ◌-◌, ◌^◌, min, Bool, ◌||◌, ◌&&◌, nat_eq, nat_lt, if◌then◌else◌, List, [], ◌∷◌, ◌++◌, length, take, drop, Option, None, Some, Result, Ok, Err}
use Rattle.std.specs.List.{list_any}
use Rattle.tk_ports.specs.declared.ports.Failed.{Failed}

-- a source: what it has left, how many reads there were, the numbers of those that fail, and how many failed
pub record SourceView : Type 0 where
  pub left : List ℕ
  pub calls : ℕ
  pub fails : List ℕ
  pub faults : ℕ

-- a sink: what it holds, how many bytes more it takes, how many writes there were, the numbers of those that fail, and how many failed
pub record SinkView : Type 0 where
  pub held : List ℕ
  pub room : ℕ
  pub calls : ℕ
  pub fails : List ℕ
  pub faults : ℕ

-- a count and one more, which stays at the greatest u64
abbrev pub one_more : ℕ → ℕ
one_more count = min (count + 1) (2 ^ 64 - 1)

-- whether the list has the number of the call after so many calls
abbrev pub is_listed : List ℕ → ℕ → Bool
is_listed fails calls = list_any (λ number. nat_eq number (one_more calls)) fails

-- how often there was a call, as long as the count tells it
abbrev pub told_calls : ℕ → Option ℕ
told_calls calls = if nat_lt calls (2 ^ 64 - 1) then Some calls else None

-- how many bytes a sink with this room takes for sure: all that fit, if no call is listed
abbrev pub sure_room : List ℕ → ℕ → ℕ
sure_room [] room = room
sure_room (number ∷ fails) room = 0

-- how many bytes a read that doesn't fail takes, with so many places to fill
abbrev pub read_count : SourceView → ℕ → ℕ
read_count source places = min places (length source.left)

-- what a read answers
abbrev pub read_answer : SourceView → ℕ → Result ℕ Failed
read_answer source places = if is_listed source.fails source.calls then Err (record {}) else Ok (read_count source places)

-- the source after a read
abbrev pub after_read : SourceView → ℕ → SourceView
after_read source places =
    if is_listed source.fails source.calls
    then record source { calls = one_more source.calls; faults = one_more source.faults }
    else record source { calls = one_more source.calls; left = drop (read_count source places) source.left }

-- the places after a read
abbrev pub filled_places : SourceView → List ℕ → List ℕ
filled_places source places =
    if is_listed source.fails source.calls
    then places
    else take (read_count source (length places)) source.left ++ drop (read_count source (length places)) places

-- whether there is no room for anything of a piece of this size
abbrev pub is_full : ℕ → ℕ → Bool
is_full room size = nat_eq room 0 && nat_lt 0 size

-- whether a write of so many bytes fails
abbrev pub is_refused : SinkView → ℕ → Bool
is_refused sink size = is_listed sink.fails sink.calls || is_full sink.room size

-- how many bytes a write that doesn't fail takes
abbrev pub write_count : SinkView → ℕ → ℕ
write_count sink size = min sink.room size

-- what a write answers
abbrev pub write_answer : SinkView → ℕ → Result ℕ Failed
write_answer sink size = if is_refused sink size then Err (record {}) else Ok (write_count sink size)

-- the sink after a write
abbrev pub after_write : SinkView → List ℕ → SinkView
after_write sink piece =
    if is_refused sink (length piece)
    then record sink { calls = one_more sink.calls; faults = one_more sink.faults }
    else record sink {
      calls = one_more sink.calls;
      held = sink.held ++ take (write_count sink (length piece)) piece;
      room = sink.room - write_count sink (length piece);
    }
