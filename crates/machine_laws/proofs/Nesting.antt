-- Services nest eight deep at most in every state that a machine comes to.
use Rattle.std.proofs.Common.{◌≡◌, ℕ, zero, suc, ◌≤◌, List, refl, arith}
use Rattle.std.specs.Prelude.{replicate, slice_index}
use Rattle.tk_types.specs.declared.run.Mode.{Mode}
use Rattle.tk_types.specs.declared.script.Script.{Script}
use Rattle.kernel_model.specs.Bodies.Statements.{IsRunnable}
use Rattle.context_model.specs.Contexts.Tables.{Contexts, contexts_start, depth_in}
use Rattle.context_laws.proofs.Nesting.{call_keeps_shallow, left_keeps_shallow}
use Rattle.machine_model.specs.Runs.Reached.{Move, state_after}
use Rattle.machine_lemmas.proofs.ContextsKept.{IsContextProof, reached_contexts}

abbrev AreShallow : Contexts → Type 0
AreShallow c = (t : ℕ) → depth_in c t ≤ 8

in_none : (n t : ℕ) → slice_index (replicate {A = ℕ} n 0) t ≡ 0
in_none zero t = refl
in_none (suc n) zero = refl
in_none (suc n) (suc t) = in_none n t

start_shallow : AreShallow contexts_start
start_shallow t = let none = in_none 256 t in omega (arith, none)

shallow_kept : IsContextProof AreShallow
shallow_kept = record {
  calls = λ b c who call shallow. call_keeps_shallow b c who call shallow;
  leaves = λ c t all shallow. left_keeps_shallow c t all shallow;
}

pub reached_shallow : (script : Script) (mode : Mode) (budget : ℕ) (moves : List Move) → IsRunnable script → (t : ℕ) → depth_in (state_after script mode budget moves).objects.contexts t ≤ 8
reached_shallow script mode budget moves runnable = reached_contexts AreShallow shallow_kept start_shallow script mode budget moves runnable
