-- What a call may do to the base that neither starts, ends nor suspends a task, nor changes a priority: its caller begins a wait
-- at last, others' waits end, bytes are taken and given, what is set for a time changes, and flags do. What passes through these
-- passes through every call on mailboxes, message buffers, pools, time, handlers, interrupts and devices.
use Rattle.std.proofs.Common.{◌≡◌, ℕ, zero, suc, Bool, true, false, cond, length, List, [], ◌∷◌, Option, Some, ℤ, pos, negsuc, refl, ◌∙◌, ap, sym, arith}
use Rattle.std.specs.Bool.{◌==◌}
use Rattle.std.specs.Prelude.{filter}
use Rattle.std.proofs.lemmas.Bool.Decides.{nat_tests}
use Rattle.tk_types.specs.declared.answer.Answer.{Answer}
use Rattle.tk_types.specs.declared.error_code.Er.TheVariants as er
use Rattle.tk_types.specs.declared.task.DueEvent.{DueEvent}
use Rattle.tk_types.specs.declared.task.Event.{Event}
use Rattle.tk_types.specs.declared.task.Flags.{Flags}
use Rattle.tk_types.specs.declared.task.Order.{Order}
use Rattle.tk_types.specs.declared.task.Phase.TheVariants.{Waiting}
use Rattle.tk_types.specs.declared.task.Task.{Task}
use Rattle.tk_types.specs.Codes.{code_of}
use Rattle.kernel_model.specs.Words.Checks.{plain}
use Rattle.kernel_model.specs.Tasks.Base.{Base, add_event, current_in, give_bytes, has_room, is_ready, make_wait, may_run, queue, release, set_flags, take_bytes, task_at}
use Rattle.kernel_model.specs.SemFlags.Calls.{end_first, end_waits, first_ended}
use Rattle.kernel_lemmas.proofs.Moves.{wait_keeps}
use Rattle.kernel_lemmas.proofs.Releases.{release_keeps_place, release_ready}
use Rattle.kernel_lemmas.proofs.Tables.{entry_cases, entry_other, entry_split, entry_there}
use Rattle.place_lemmas.proofs.Settled.{HasPlace, place_seen}

-- one word passes through all but the wait of the caller, after which another one holds, as it does where there is none
pub record IsPassed (P R : Base → Type 0) : Type 0 where
  pub ends : (b : Base) → P b → R b
  pub waits : (b : Base) (t object : ℕ) (order : Order) (timeout : ℤ) → P b → R (make_wait b t object order timeout)
  pub released : (b : Base) (t : ℕ) (answer : Answer) → P b → P (release b t answer)
  pub taken : (b : Base) (n : ℕ) → P b → P (take_bytes b n)
  pub given : (b : Base) (n : ℕ) → P b → P (give_bytes b n)
  pub added : (b : Base) (time : ℕ) (what : Event) → P b → P (add_event b time what)
  pub passed : (b : Base) (passes : DueEvent → Bool) → P b → P (record b { events = filter passes b.events })
  pub flagged : (b : Base) (flags : Flags) → P b → P (set_flags b flags)

first_keeps : (P R : Base → Type 0) → IsPassed P R → (ids : List ℕ) (b : Base) → P b → P (first_ended ids b)
first_keeps P R is [] b has = has
first_keeps P R is (t ∷ ids) b has = is.released b t (plain (code_of er.Dlt)) has

ends_keep : (P R : Base → Type 0) → IsPassed P R → (left : ℕ) (order : Order) (object : ℕ) (b : Base) → P b → P (end_first left order object b)
unfolding end_first
ends_keep P R is zero order object b has = has
ends_keep P R is (suc left) order object b has = ends_keep P R is left order object (first_ended (queue order b object) b) (first_keeps P R is (queue order b object) b has)

-- the ends of all waits for an object that is deleted
pub end_waits_keeps : (P R : Base → Type 0) → IsPassed P R → (order : Order) (object : ℕ) (b : Base) → P b → P (end_waits order object b)
end_waits_keeps P R is order object b has = ends_keep P R is (length (queue order b object)) order object b has

-- ---- a task in its place

-- the task has its row and its place, where it is ready still
abbrev pub PlaceIfReady : Option Task → ℕ → Base → Type 0
PlaceIfReady row t b = is_ready b t ≡ true → HasPlace row t b

waits_unready : (b : Base) (t object : ℕ) (order : Order) (timeout : ℤ) → is_ready b t ≡ true → is_ready (make_wait b t object order timeout) t ≡ true → ⊥
waits_unready b t object order (pos n) ready = entry_split (λ c. is_ready c t ≡ true → ⊥) (task_at b t) b _ (λ none now. let idle = ap may_run none in cc (idle, now))
    (λ k at now. absurd (cc (sym now ∙ ap may_run (entry_there b.tasks t k (Some (record k { phase = Waiting object; queue = order })) at))))
waits_unready b t object order (negsuc n) ready = entry_split (λ c. is_ready c t ≡ true → ⊥) (task_at b t) b _ (λ none now. let idle = ap may_run none in cc (idle, now))
    (λ k at now. absurd (cc (sym now ∙ ap may_run (entry_there b.tasks t k (Some (record k { phase = Waiting object; queue = order })) at))))

waits_other : (b : Base) (t u object : ℕ) (order : Order) (timeout : ℤ) → (t ≡ u → ⊥) → task_at (make_wait b u object order timeout) t ≡ task_at b t
waits_other b t u object order (pos n) apart = entry_cases (λ c. task_at c t ≡ task_at b t) (task_at b u) b _ refl (λ k at. entry_other b.tasks u t _ apart)
waits_other b t u object order (negsuc n) apart = entry_cases (λ c. task_at c t ≡ task_at b t) (task_at b u) b _ refl (λ k at. entry_other b.tasks u t _ apart)

waits_if : (row : Option Task) (t : ℕ) (b : Base) (u object : ℕ) (order : Order) (timeout : ℤ) (same : Bool) → (t == u) ≡ same → may_run row ≡ true → HasPlace row t b →
    PlaceIfReady row t (make_wait b u object order timeout)
waits_if row t b u object order timeout true at ready has now =
    let e : t ≡ u = grind (arith, nat_tests, at) in
    absurd (waits_unready b u object order timeout (ap (is_ready b) (sym e) ∙ ap may_run has.is ∙ ready) (ap (is_ready (make_wait b u object order timeout)) (sym e) ∙ now))
waits_if row t b u object order timeout false at ready has now =
    let same : task_at (make_wait b u object order timeout) t ≡ task_at b t = waits_other b t u object order timeout (λ e. grind (arith, nat_tests, at, e)) in
    record { is = same ∙ has.is; place = wait_keeps b t u object order timeout has.place now (ap current_in same) }

taken_place : (row : Option Task) (t : ℕ) (b : Base) (bytes : ℕ) (room : Bool) → HasPlace row t b → HasPlace row t (cond room (record b { bytes = bytes }) b)
taken_place row t b bytes true has = place_seen row t b (record b { bytes = bytes }) refl refl has
taken_place row t b bytes false has = has

-- a task in its place passes so, and where the caller's wait was its own, it isn't ready
pub place_passes : (row : Option Task) (t : ℕ) → may_run row ≡ true → IsPassed (HasPlace row t) (PlaceIfReady row t)
place_passes row t ready = record {
  ends = λ b has now. has;
  waits = λ b u object order timeout has. waits_if row t b u object order timeout (t == u) refl ready has;
  released = λ b u answer has.
      let now = ap may_run has.is ∙ ready in
      record { is = release_ready b t u answer now ∙ has.is; place = release_keeps_place b t u answer has.place now };
  taken = λ b n has. taken_place row t b _ (has_room b n) has;
  given = λ b n has. place_seen row t b (give_bytes b n) refl refl has;
  added = λ b time what has. place_seen row t b (add_event b time what) refl refl has;
  passed = λ b passes has. place_seen row t b (record b { events = filter passes b.events }) refl refl has;
  flagged = λ b flags has. place_seen row t b (set_flags b flags) refl refl has;
}
