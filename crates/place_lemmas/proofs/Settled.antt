-- A task that is ready, the first of its equals, and whose priority is that of its definition, stays so through settling.
use Rattle.std.proofs.Common.{◌≡◌, ℕ, zero, suc, ◌≤◌, Bool, true, false, Option, Some, None, refl, cond, ◌-◌, ◌∙◌, ap, sym}
use Rattle.std.specs.Prelude.{slice_set}
use Rattle.tk_types.specs.declared.run.Mode.{Mode}
use Rattle.tk_types.specs.declared.run.Mode.TheVariants as modes
use Rattle.tk_types.specs.declared.task.Order.{Order}
use Rattle.tk_types.specs.declared.task.Order.TheVariants.{Fifo}
use Rattle.tk_types.specs.declared.task.Phase.TheVariants.{Waiting}
use Rattle.tk_types.specs.declared.task.Task.{Task}
use Rattle.kernel_model.specs.LawWords.Precedence.{KeepsPlace}
use Rattle.kernel_model.specs.Words.Orders.{entry}
use Rattle.kernel_model.specs.Tasks.Base.{Base, current, current_in, drop_wait, is_ready, is_waiting_phase, may_run, move_wait, task_at, with_task}
use Rattle.kernel_lemmas.proofs.Places.{WasReady, stays}
use Rattle.kernel_lemmas.proofs.Releases.{release_keeps_place, release_ready}
use Rattle.kernel_lemmas.proofs.Tables.{entry_cases, entry_each, entry_other, entry_same}
use Rattle.object_model.specs.Mutexes.Tables.{Mutexes}
use Rattle.object_model.specs.Mutexes.Priority.{current_of}
use Rattle.mutex_laws.proofs.Resettled.{resettled_place, resettled_rows, row_with}
use Rattle.machine_model.specs.States.Objects.{Parts, serve_object}
use Rattle.machine_model.specs.Events.Settle.{handed, refreshed, served_within, settle}
use Rattle.machine_lemmas.proofs.Changes.{Survives}
use Rattle.machine_lemmas.proofs.KnownDevices.{IsWished}
use Rattle.place_lemmas.proofs.Owned.{Passes, ready_apart, served_passes}
use Rattle.machine_lemmas.proofs.Servings.{FewDevices, serving}
use Rattle.machine_lemmas.proofs.Settling.{few_served, next_served}

-- ---- in the base

-- a task has a row, and is the first of its equals
pub record HasPlace (row : Option Task) (t : ℕ) (b : Base) : Type 0 where
  pub is : task_at b t ≡ row
  pub place : KeepsPlace b t

-- so it is in every base with the same rows and the same order
pub place_seen : (row : Option Task) (t : ℕ) (b c : Base) → c.tasks ≡ b.tasks → c.order ≡ b.order → HasPlace row t b → HasPlace row t c
place_seen row t b c rows order has =
    let same : (u : ℕ) → task_at c u ≡ task_at b u = λ u. ap (λ tasks. entry tasks u) rows in
    record {
      is = same t ∙ has.is;
      place = stays b c t has.place order (λ u now. (ap may_run (sym (same u)) ∙ now, ap current_in (same u))) (ap current_in (same t));
    }

moved_if : (b : Base) (t v object : ℕ) (order : Order) (k : Task) (waits : Bool) → HasPlace (task_at b t) t b → (v ≡ t → ⊥) →
    HasPlace (task_at b t) t (cond waits (with_task (drop_wait b v) v (record k { phase = Waiting object; queue = order })) b)
moved_if b t v object order k false has apart = has
moved_if b t v object order k true has apart =
    let row : task_at (with_task (drop_wait b v) v (record k { phase = Waiting object; queue = order })) t ≡ task_at b t = entry_other b.tasks v t (Some (record k { phase = Waiting object; queue = order })) (λ e. apart (sym e)) in
    record {
      is = row;
      place = stays b _ t has.place refl (unready_row b v k object order) (ap current_in row);
    }
  where
    unready_row : (b : Base) (v : ℕ) (k : Task) (object : ℕ) (order : Order) (u : ℕ) → may_run (entry (slice_set b.tasks v (Some (record k { phase = Waiting object; queue = order }))) u) ≡ true →
        (may_run (task_at b u) ≡ true) × (current_in (entry (slice_set b.tasks v (Some (record k { phase = Waiting object; queue = order }))) u) ≡ current_in (task_at b u))
    unready_row b v k object order =
        entry_each (λ u now. WasReady (task_at b u) now) b.tasks v (Some (record k { phase = Waiting object; queue = order }))
        (entry_same (WasReady (task_at b v)) b.tasks v (Some (record k { phase = Waiting object; queue = order })) (λ now. absurd (cc now)) (λ none. absurd (cc none)))
        (λ u differs now. (now, refl))

-- the move of another task's wait leaves it so
moved_place : (b : Base) (t v object : ℕ) (order : Order) → HasPlace (task_at b t) t b → (v ≡ t → ⊥) → HasPlace (task_at b t) t (move_wait b v object order)
moved_place b t v object order has apart = entry_cases (HasPlace (task_at b t) t) (task_at b v) b _ has (λ k at. moved_if b t v object order k (is_waiting_phase k.phase) has apart)

at_row : (row : Option Task) (t : ℕ) (b c : Base) → HasPlace row t b → (HasPlace (task_at b t) t b → HasPlace (task_at b t) t c) → HasPlace row t c
at_row row t b c has step = let then = step (record { is = refl; place = has.place }) in record { is = then.is ∙ has.is; place = then.place }

-- it survives every serving
pub place_survives : (row : Option Task) (t : ℕ) → may_run row ≡ true → (may : ℕ → Type 0) → Survives may (HasPlace row t)
place_survives row t ready may = record {
  released = λ b v object answer above waits has.
      let now : is_ready b t ≡ true = ap may_run has.is ∙ ready in
      record { is = release_ready b t v answer now ∙ has.is; place = release_keeps_place b t v answer has.place now };
  moved = λ b v d dd least most moves waits has.
      at_row row t b _ has (λ here. moved_place b t v _ Fifo here (ready_apart b t v _ (ap may_run has.is ∙ ready) waits));
  given = λ b n has. place_seen row t b (record b { bytes = b.bytes - n }) refl refl has;
}

-- ---- in all parts

-- what is said of the mutexes passes on while others are served, and gives the task's priority by definition
pub record Settles (row : Option Task) (t : ℕ) (Q : Mutexes → Type 0) : Type 0 where
  pub least : 1 ≤ t
  pub ready : may_run row ≡ true
  pub passes : Passes t Q
  pub priority : (b : Base) (m : Mutexes) → task_at b t ≡ row → Q m → current_of b m t ≡ current_in row

-- the task in its place, and what is said of the mutexes
pub record IsInPlace (row : Option Task) (t : ℕ) (Q : Mutexes → Type 0) (p : Parts) : Type 0 where
  pub base : HasPlace row t p.base
  pub mutexes : Q p.objects.mutexes

same_current : (n : ℕ) (o : Option Task) → current_in o ≡ n → row_with n o ≡ o
same_current n None is = refl
same_current n (Some k) is = ap (λ p. Some (record k { current = p })) (sym is)

-- changed priorities are taken over
refreshed_place : (row : Option Task) (t : ℕ) (Q : Mutexes → Type 0) (p : Parts) → Settles row t Q → IsInPlace row t Q p → IsInPlace row t Q (refreshed p)
refreshed_place row t Q p settles has =
    let fresh : current_of p.base p.objects.mutexes t ≡ current_in row = settles.priority p.base p.objects.mutexes has.base.is has.mutexes in
    let same : current p.base t ≡ current_of p.base p.objects.mutexes t = ap current_in has.base.is ∙ sym fresh in
    record {
      base = record {
        is = resettled_rows p.base p.objects.mutexes t settles.least ∙ same_current (current_of p.base p.objects.mutexes t) (task_at p.base t) same ∙ has.base.is;
        place = resettled_place p.base p.objects.mutexes t has.base.place same;
      };
      mutexes = has.mutexes;
    }

-- somebody is served
served_place : (row : Option Task) (t : ℕ) (Q : Mutexes → Type 0) (p q : Parts) → Settles row t Q → FewDevices p → serve_object p ≡ Some q → IsInPlace row t Q p →
    IsInPlace row t Q q
served_place row t Q p q settles few is has = record {
  base = (serving p q few is).ends.keeps (HasPlace row t) (place_survives row t settles.ready (IsWished p.objects.devices)) has.base;
  mutexes = served_passes Q t p q settles.passes (ap may_run has.base.is ∙ settles.ready) is has.mutexes;
}

next_place : (row : Option Task) (t : ℕ) (Q : Mutexes → Type 0) (left : ℕ) (p : Parts) (next : Option Parts) → Settles row t Q → serve_object p ≡ next → FewDevices p →
    IsInPlace row t Q p →
    ((q : Parts) → FewDevices q → IsInPlace row t Q q → IsInPlace row t Q (served_within left q)) → IsInPlace row t Q (next_served left p next)
next_place row t Q left p None settles is few has rest = has
next_place row t Q left p (Some q) settles is few has rest =
    rest (refreshed q) (few_served p q few is) (refreshed_place row t Q q settles (served_place row t Q p q settles few is has))

within_place : (row : Option Task) (t : ℕ) (Q : Mutexes → Type 0) (left : ℕ) (p : Parts) → Settles row t Q → FewDevices p → IsInPlace row t Q p →
    IsInPlace row t Q (served_within left p)
unfolding served_within
within_place row t Q zero p settles few has = has
within_place row t Q (suc left) p settles few has = next_place row t Q left p (serve_object p) settles refl few has (λ q few has. within_place row t Q left q settles few has)

handed_place : (row : Option Task) (t : ℕ) (Q : Mutexes → Type 0) (mode : Mode) (p : Parts) → IsInPlace row t Q p → IsInPlace row t Q (handed mode p)
handed_place row t Q modes.Sync p has = has
handed_place row t Q modes.Free p has = record { base = has.base; mutexes = has.mutexes }

-- all settles
pub settled_place : (row : Option Task) (t : ℕ) (Q : Mutexes → Type 0) (mode : Mode) (p : Parts) → Settles row t Q → FewDevices p → IsInPlace row t Q p →
    IsInPlace row t Q (settle mode p)
unfolding settle
settled_place row t Q mode p settles few has =
    handed_place row t Q mode (served_within 512 (refreshed p)) (within_place row t Q 512 (refreshed p) settles few (refreshed_place row t Q p settles has))
