-- Where those who wait for a mutex that somebody owns wait on while another one is served, a ready task's priority by definition
-- stays just as it is.
use Rattle.std.proofs.Common.{◌≡◌, ℕ, ◌≤◌, ◌⊎◌, inl, inr, Bool, true, false, refl, ◌∙◌, ap, sym, arith}
use Rattle.std.specs.Bool.{◌==◌}
use Rattle.std.proofs.lemmas.Bool.Decides.{nat_tests}
use Rattle.kernel_model.specs.Tasks.Base.{task_at, waits_for}
use Rattle.object_model.specs.Mutexes.Priority.{current_of, is_alive, next_in_chain}
use Rattle.object_model.specs.Mutexes.Tables.{mutex_object, owner_in, owner_of}
use Rattle.mutex_laws.specs.Chains.{WaitsForHeir}
use Rattle.mutex_laws.proofs.Heirs.{heir_is_next, next_is_heir}
use Rattle.machine_model.specs.States.Objects.{Parts}
use Rattle.place_lemmas.proofs.Fewer.{EndsShort, LendsLess, current_less}
use Rattle.place_lemmas.proofs.Sinks.{Lags, Passes, ready_lives}

-- whoever waits for a mutex that somebody owns waits on
abbrev pub OwnedHold : Parts → Parts → Type 0
OwnedHold p q = (u id : ℕ) → 1 ≤ id → id ≤ 64 → waits_for p.base (mutex_object id) u ≡ true → (owner_of p.objects.mutexes id ≡ 0 → ⊥) → waits_for q.base (mutex_object id) u ≡ true

next_still : (t u : ℕ) (p q : Parts) → Lags t p → Passes t p q → OwnedHold p q → (next_in_chain p.base p.objects.mutexes u ≡ 0 → ⊥) → next_in_chain p.base p.objects.mutexes u ≡ next_in_chain q.base q.objects.mutexes u
next_still t u p q lags passes holds some =
    let heir : WaitsForHeir p.base p.objects.mutexes u (next_in_chain p.base p.objects.mutexes u) = next_is_heir p.base p.objects.mutexes u (next_in_chain p.base p.objects.mutexes u) lags.none some refl in
    let owned : owner_of p.objects.mutexes heir.id ≡ 0 → ⊥ = λ none. some (sym heir.owns ∙ sym (ap owner_in heir.there) ∙ none) in
    sym (heir_is_next q.base q.objects.mutexes u (next_in_chain p.base p.objects.mutexes u) (record {
      id = heir.id;
      row = heir.row;
      waits = holds u heir.id heir.in_range.0 heir.in_range.1 heir.waits owned;
      in_range = heir.in_range;
      there = passes.owned heir.id owned ∙ heir.there;
      inherits = heir.inherits;
      owns = heir.owns;
    }))

next_if : (t u : ℕ) (p q : Parts) (none : Bool) → (next_in_chain p.base p.objects.mutexes u == 0) ≡ none → Lags t p → Passes t p q → OwnedHold p q →
    (next_in_chain p.base p.objects.mutexes u ≡ next_in_chain q.base q.objects.mutexes u) ⊎ EndsShort (next_in_chain p.base p.objects.mutexes) t u
next_if t u p q true at lags passes holds = inr (inl (grind (arith, nat_tests, at)))
next_if t u p q false at lags passes holds = inl (next_still t u p q lags passes holds (λ e. grind (arith, nat_tests, at, e)))

lends_still : (t : ℕ) (p q : Parts) → Lags t p → Passes t p q → OwnedHold p q → LendsLess q.base p.base q.objects.mutexes p.objects.mutexes t
lends_still t p q lags passes holds =
    let before : is_alive (task_at p.base t) ≡ true = ready_lives (task_at p.base t) lags.ready in
    record {
      lives = ap is_alive passes.row ∙ before;
      lives_still = before;
      alive = λ u is. passes.same.lives u ∙ is;
      nexts = λ u. next_if t u p q (next_in_chain p.base p.objects.mutexes u == 0) refl lags passes holds;
      itself = passes.owns t lags.least;
      others = λ u one lends. passes.owns u one;
    }

pub served_alike : (t : ℕ) (p q : Parts) → Lags t p → Passes t p q → OwnedHold p q → current_of q.base q.objects.mutexes t ≡ current_of p.base p.objects.mutexes t
served_alike t p q lags passes holds =
    let up = passes.defined in
    let down = current_less q.base p.base q.objects.mutexes p.objects.mutexes t (lends_still t p q lags passes holds) (sym passes.same.ids) in
    omega (arith, up, down)
