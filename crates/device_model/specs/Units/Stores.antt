-- The store of a device's unit, and what depends on its kind.
use Rattle.std.specs.Prelude.{ℕ, ◌+◌, ◌%◌, ◌==◌, Bool, true, false, List, [], ◌++◌, length, take, drop, replicate}
use Rattle.tk_types.specs.declared.script.Kind.{Kind}
use Rattle.tk_types.specs.declared.script.Kind.TheVariants.{Ram, Log, Flaky, Slow}

pub record Store : Type 0 where
  pub bytes : List ℕ  -- what the unit holds
  pub begun : ℕ  -- requests of some size that the unit has begun

-- the most bytes of a log
abbrev pub log_limit : ℕ
log_limit = 65536

-- a unit begins with zeros, but a log is empty
abbrev pub first_bytes : Kind → List ℕ
first_bytes (Ram size) = replicate size 0
first_bytes Log = []
first_bytes (Flaky size each) = replicate size 0
first_bytes (Slow size turns) = replicate size 0

abbrev pub store_start : Kind → Store
store_start kind = record { bytes = first_bytes kind; begun = 0 }

abbrev pub is_log : Kind → Bool
is_log Log = true
is_log _ = false

-- whether the last request that a unit has begun fails: of a flaky one each so-manieth does
abbrev pub is_spoilt : Kind → ℕ → Bool
is_spoilt (Flaky size each) begun = begun % each == 0
is_spoilt _ begun = false

-- bytes take the place of those that stand there
abbrev pub write_at : List ℕ → ℕ → List ℕ → List ℕ
write_at bytes start new = take start bytes ++ (new ++ drop (start + length new) bytes)
