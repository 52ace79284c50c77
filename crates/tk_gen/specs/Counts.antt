-- How many lines of a trace are of each kind that a summary tells of.
use Rattle.std.specs.Prelude.{ℕ, ◌≡◌, ◌<◌, ◌+◌, ◌^◌, Bool, true, false, List, count_by}
use Rattle.tk_types.specs.declared.answer.Answer.{Answer}
use Rattle.tk_types.specs.declared.call_name.CallName.{CallName}
use Rattle.tk_types.specs.declared.line.Hook.{Hook}
use Rattle.tk_types.specs.declared.line.Line.{Line}
use Rattle.tk_types.specs.declared.line.Line.TheVariants as lines
use Rattle.tk_gen.specs.declared.counts.Counts.{Counts}

-- a call returned
abbrev pub is_call : Line → Bool
is_call (lines.Returned n who call answer) = true
is_call _ = false

-- a task began to wait
abbrev pub is_wait : Line → Bool
is_wait (lines.Blocked n task call) = true
is_wait _ = false

-- a tick passed
abbrev pub is_tick : Line → Bool
is_tick (lines.Tick n time) = true
is_tick _ = false

-- a request ended
abbrev pub is_ending : Line → Bool
is_ending (lines.Ending n device request ending) = true
is_ending _ = false

abbrev pub nothing_counted : Counts
nothing_counted = record { calls = 0; waits = 0; ticks = 0; endings = 0 }

-- the counts once these lines came
abbrev pub counted_on : Counts → List Line → Counts
counted_on before new = record {
  calls = before.calls + count_by is_call new;
  waits = before.waits + count_by is_wait new;
  ticks = before.ticks + count_by is_tick new;
  endings = before.endings + count_by is_ending new;
}

-- each count has 32 bits, also once it is so much more
pub record HasRoom (more : ℕ) (counts : Counts) : Type 0 where
  pub calls : counts.calls + more < 2 ^ 32
  pub waits : counts.waits + more < 2 ^ 32
  pub ticks : counts.ticks + more < 2 ^ 32
  pub endings : counts.endings + more < 2 ^ 32

abbrev pub Fits : Counts → Type 0
Fits counts = HasRoom 0 counts

-- a kind of lines that isn't told of ended waits, dispatches, hooks, nor of the end
pub record IsPlain (p : Line → Bool) : Type 0 where
  pub released : (n task : ℕ) (call : CallName) (answer : Answer) → p (lines.Released n task call answer) ≡ false
  pub dispatch : (n task : ℕ) → p (lines.Dispatch n task) ≡ false
  pub hook : (n : ℕ) (hook : Hook) → p (lines.Hook n hook) ≡ false
