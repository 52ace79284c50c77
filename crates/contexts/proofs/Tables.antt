-- How deep tasks are in services.
use Rattle.std.proofs.Common.{◌≡◌, ℕ, zero, suc, ◌+◌, ◌≤◌, List, [], ◌∷◌, refl, ap, sym, subst, arith, length, replicate}
use Rattle.std.specs.Prelude.{slice_index, slice_set}
use Rattle.contexts.specs.Tables.{AreShallow, AreTables}

none_deep : (n task : ℕ) → slice_index (replicate n 0) task ≤ 8
none_deep zero task = omega arith
none_deep (suc n) zero = omega arith
none_deep (suc n) (suc task) = none_deep n task

first_or : (depth : ℕ) (depths : List ℕ) → depth ≤ 8 → ((task : ℕ) → slice_index depths task ≤ 8) → (task : ℕ) → slice_index (depth ∷ depths) task ≤ 8
first_or depth depths first rest zero = first
first_or depth depths first rest (suc task) = rest task

few_written : (depths : List ℕ) (task depth : ℕ) → depth ≤ 8 → ((t : ℕ) → slice_index depths t ≤ 8) → (t : ℕ) → slice_index (slice_set depths task depth) t ≤ 8
few_written [] task depth less all = all
few_written (x ∷ xs) zero depth less all = first_or depth xs less (λ t. all (suc t))
few_written (x ∷ xs) (suc task) depth less all = first_or x (slice_set xs task depth) (all zero) (few_written xs task depth less (λ t. all (suc t)))

-- one of them becomes another that is eight at most
pub shallow_written : (depths : List ℕ) (task depth : ℕ) → depth ≤ 8 → AreShallow depths → AreShallow (slice_set depths task depth)
shallow_written depths task depth less are = record { few = few_written depths task depth less are.few }

-- all fit at the start
pub fit_at_start : (handlers services depths : List ℕ) → handlers ≡ replicate 256 0 → services ≡ replicate 256 0 → depths ≡ replicate 256 0 → AreTables handlers services depths
fit_at_start handlers services depths no_handlers no_services no_depths = record {
  all_handlers = ap length no_handlers;
  all_services = ap length no_services;
  all_depths = ap length no_depths;
  shallow = subst AreShallow (sym no_depths) (record { few = none_deep 256 });
}
