-- What a serving does to the base: waits for objects that serve end, or one moves from the acceptance of a request to its
-- ending, and simulated memory is given back. So what holds through these holds through any serving.
use Rattle.std.proofs.Common.{◌≡◌, ℕ, ◌+◌, ◌≤◌, true, arith}
use Rattle.tk_types.specs.declared.answer.Answer.{Answer}
use Rattle.tk_types.specs.declared.task.Order.TheVariants.{Fifo}
use Rattle.kernel_model.specs.Tasks.Base.{Base, give_bytes, move_wait, release, waits_for}
use Rattle.device_model.specs.Devices.Requests.{acceptance_object, ending_object}
use Rattle.call_lemmas.proofs.Serving.{waits_for_waits}
use Rattle.machine_lemmas.specs.Weights.{weight, weight_of}
use Rattle.machine_lemmas.proofs.Weights.{move_lighter, release_lighter}

-- what something of the base has to survive to survive any serving, where waits may move to the endings of some descriptors
pub record Survives (may : ℕ → Type 0) (P : Base → Type 0) : Type 0 where
  pub released : (b : Base) (t object : ℕ) (answer : Answer) → 64 ≤ object → waits_for b object t ≡ true → P b → P (release b t answer)
  pub moved : (b : Base) (t d dd : ℕ) → 1 ≤ d → d ≤ 8 → may dd → waits_for b (acceptance_object d) t ≡ true → P b → P (move_wait b t (ending_object dd) Fifo)
  pub given : (b : Base) (n : ℕ) → P b → P (give_bytes b n)

-- no wait may move
abbrev pub no_moves : ℕ → Type 0
no_moves dd = ⊥

-- a base comes from another by ends of waits, or is that one
pub record IsChange (b c : Base) : Type 1 where
  pub keeps : (P : Base → Type 0) → Survives no_moves P → P b → P c

-- a base comes from another by servings, the first of which ends or moves a wait
pub record IsEnding (may : ℕ → Type 0) (b c : Base) : Type 1 where
  pub keeps : (P : Base → Type 0) → Survives may P → P b → P c
  pub lighter : weight c + 1 ≤ weight b

-- what survives moves survives without them
pub without_moves : {may : ℕ → Type 0} → (P : Base → Type 0) → Survives may P → Survives no_moves P
without_moves P survives = record {
  released = survives.released;
  moved = λ b t d dd least most moves waits has. absurd moves;
  given = survives.given;
}

-- any wait may move
abbrev pub any_moves : ℕ → Type 0
any_moves dd = Unit {0}

-- what survives any move survives those that may be
pub of_any : (may : ℕ → Type 0) (P : Base → Type 0) → Survives any_moves P → Survives may P
of_any may P survives = record {
  released = survives.released;
  moved = λ b t d dd least most moves waits has. survives.moved b t d dd least most tt waits has;
  given = survives.given;
}

-- a serving that moves no wait is one among those that may
pub may_move : (may : ℕ → Type 0) (b c : Base) → IsEnding no_moves b c → IsEnding may b c
may_move may b c is = record { keeps = λ P survives has. is.keeps P (without_moves P survives) has; lighter = is.lighter }

-- ---- changes

pub unchanged : (b : Base) → IsChange b b
unchanged b = record { keeps = λ P survives has. has }

pub change_then : (b c d : Base) → IsChange b c → IsChange c d → IsChange b d
change_then b c d first then = record { keeps = λ P survives has. then.keeps P survives (first.keeps P survives has) }

pub releasing : (b : Base) (t object : ℕ) (answer : Answer) → 64 ≤ object → waits_for b object t ≡ true → IsChange b (release b t answer)
releasing b t object answer above waits = record { keeps = λ P survives has. survives.released b t object answer above waits has }

pub giving : (b : Base) (n : ℕ) → IsChange b (give_bytes b n)
giving b n = record { keeps = λ P survives has. survives.given b n has }

-- no change makes the waits heavier
ending_weight : (dd : ℕ) → weight_of (ending_object dd) ≡ 1
ending_weight dd = grind arith

acceptance_weight : (d : ℕ) → 1 ≤ d → d ≤ 8 → weight_of (acceptance_object d) ≡ 2
acceptance_weight d least most = grind (arith, least, most)

no_heavier : (n : ℕ) → Survives no_moves (λ b. weight b ≤ n)
no_heavier n = record {
  released = λ b t object answer above waits most. let lighter = release_lighter b t answer (waits_for_waits b t object waits) in omega (arith, lighter, most);
  moved = λ b t d dd least greatest moves waits most. absurd moves;
  given = λ b n most. most;
}

pub change_weighs : (b c : Base) → IsChange b c → weight c ≤ weight b
change_weighs b c change = change.keeps (λ d. weight d ≤ weight b) (no_heavier (weight b)) (omega arith)

-- ---- servings

-- the end of a wait, and what comes behind it
pub ends_then : {may : ℕ → Type 0} → (b c : Base) (t object : ℕ) (answer : Answer) → 64 ≤ object → waits_for b object t ≡ true → IsChange (release b t answer) c → IsEnding may b c
ends_then b c t object answer above waits change = record {
  keeps = λ P survives has. change.keeps P (without_moves P survives) (survives.released b t object answer above waits has);
  lighter = let first = release_lighter b t answer (waits_for_waits b t object waits) in let rest = change_weighs (release b t answer) c change in omega (arith, first, rest);
}

-- the end of one wait
pub one_ends : {may : ℕ → Type 0} → (b : Base) (t object : ℕ) (answer : Answer) → 64 ≤ object → waits_for b object t ≡ true → IsEnding may b (release b t answer)
one_ends b t object answer above waits = ends_then b (release b t answer) t object answer above waits (unchanged (release b t answer))

-- the move of a wait from an acceptance to an ending
pub one_moves : {may : ℕ → Type 0} → (b : Base) (t d dd : ℕ) → 1 ≤ d → d ≤ 8 → may dd → waits_for b (acceptance_object d) t ≡ true → IsEnding may b (move_wait b t (ending_object dd) Fifo)
one_moves b t d dd least most moves waits = record {
  keeps = λ P survives has. survives.moved b t d dd least most moves waits has;
  lighter =
      let one = ending_weight dd in
      let two = acceptance_weight d least most in
      move_lighter b t (acceptance_object d) (ending_object dd) Fifo waits (omega (arith, one, two));
}
