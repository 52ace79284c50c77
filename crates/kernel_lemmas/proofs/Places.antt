-- A task that is the first of its equals stays so when another one takes the last place, is taken out, or stops being
-- ready.
use Rattle.std.proofs.Common.{◌≡◌, ℕ, ◌<◌, Bool, true, false, not, List, [], ◌∷◌, ◌++◌, Option, refl, cond, ◌∙◌, ap, sym, subst, arith}
use Rattle.std.specs.Prelude.{slice_set}
use Rattle.std.specs.Bool.{◌==◌}
use Rattle.std.proofs.lemmas.Bool.Decides.{nat_tests}
use Rattle.tk_types.specs.declared.task.Task.{Task}
use Rattle.kernel_model.specs.Words.Orders.{entry, without, to_back}
use Rattle.kernel_model.specs.Tasks.Base.{Base, task_at, is_ready, may_run, current, current_in}
use Rattle.kernel_model.specs.LawWords.Precedence.{AllLower, KeepsPlace}
use Rattle.kernel_lemmas.proofs.Tables.{entry_other, entry_same, entry_each}

-- ---- orders

kept_if : (t : ℕ) (rest : List ℕ) (b : Bool) → b ≡ false → cond (not b) (t ∷ rest) rest ≡ t ∷ rest
kept_if t rest false e = refl
kept_if t rest true e = absurd (cc e)

differs_test : (t v : ℕ) → (v ≡ t → ⊥) → (t == v) ≡ false
differs_test t v differs = grind (arith, nat_tests, differs)

without_if : (u : ℕ) (from front rest : List ℕ) (b : Bool) → from ≡ front ++ rest → cond (not b) (u ∷ from) from ≡ cond (not b) (u ∷ front) front ++ rest
without_if u from front rest true same = same
without_if u from front rest false same = ap (λ ids. u ∷ ids) same

-- a task stands as it stood when another one is taken out
without_stands : (t v : ℕ) (before behind : List ℕ) → (v ≡ t → ⊥) → without v (before ++ t ∷ behind) ≡ without v before ++ t ∷ without v behind
without_stands t v [] behind differs = kept_if t (without v behind) (t == v) (differs_test t v differs)
without_stands t v (u ∷ before) behind differs =
    without_if u (without v (before ++ t ∷ behind)) (without v before) (t ∷ without v behind) (u == v) (without_stands t v before behind differs)

behind_stands : (t v : ℕ) (front rest : List ℕ) → (front ++ t ∷ rest) ++ v ∷ [] ≡ front ++ t ∷ (rest ++ v ∷ [])
behind_stands t v [] rest = refl
behind_stands t v (u ∷ front) rest = ap (λ ids. u ∷ ids) (behind_stands t v front rest)

-- ---- who is ready

-- a row that is ready was ready before, with the priority that it has
abbrev pub WasReady : Option Task → Option Task → Type 0
WasReady was o = may_run o ≡ true → (may_run was ≡ true) × (current_in o ≡ current_in was)

lower_each : (b c : Base) (p : ℕ) (ts : List ℕ) → ((u : ℕ) → WasReady (task_at b u) (task_at c u)) → AllLower (is_ready b) (current b) p ts → AllLower (is_ready c) (current c) p ts
lower_each b c p [] same all = tt
lower_each b c p (u ∷ ts) same all = ((λ ready. let was = same u ready in subst (λ (q : ℕ). p < q) (sym was.1) (all.0 was.0)), lower_each b c p ts same all.1)

lower_if : (b c : Base) (p u v : ℕ) (rest : List ℕ) (test : Bool) → (u == v) ≡ test → ((w : ℕ) → (w ≡ v → ⊥) → task_at c w ≡ task_at b w) → (is_ready b u ≡ true → p < current b u) → AllLower (is_ready c) (current c) p rest → AllLower (is_ready c) (current c) p (cond (not test) (u ∷ rest) rest)
lower_if b c p u v rest true is others lower all = all
lower_if b c p u v rest false is others lower all =
    let same : task_at c u ≡ task_at b u = others u (λ e. grind (arith, nat_tests, is, e)) in
    ((λ ready. subst (λ (o : Option Task). p < current_in o) (sym same) (lower (ap may_run (sym same) ∙ ready))), all)

lower_without : (b c : Base) (p v : ℕ) (ts : List ℕ) → ((w : ℕ) → (w ≡ v → ⊥) → task_at c w ≡ task_at b w) → AllLower (is_ready b) (current b) p ts → AllLower (is_ready c) (current c) p (without v ts)
lower_without b c p v [] others all = tt
lower_without b c p v (u ∷ ts) others all = lower_if b c p u v (without v ts) (u == v) refl others all.0 (lower_without b c p v ts others all.1)

-- ---- bases

-- the order stays
pub stays : (b c : Base) (t : ℕ) → KeepsPlace b t → c.order ≡ b.order → ((u : ℕ) → WasReady (task_at b u) (task_at c u)) → current c t ≡ current b t → KeepsPlace c t
stays b c t is same_order same priority = record {
  before = is.before;
  behind = is.behind;
  stands = same_order ∙ is.stands;
  ahead = subst (λ (q : ℕ). AllLower (is_ready c) (current c) q is.before) (sym priority) (lower_each b c (current b t) is.before same is.ahead);
}

ahead_without : (b c : Base) (t v : ℕ) (before : List ℕ) → (v ≡ t → ⊥) → ((u : ℕ) → (u ≡ v → ⊥) → task_at c u ≡ task_at b u) → AllLower (is_ready b) (current b) (current b t) before → AllLower (is_ready c) (current c) (current c t) (without v before)
ahead_without b c t v before differs others all =
    subst (λ (q : ℕ). AllLower (is_ready c) (current c) q (without v before)) (ap current_in (sym (others t (λ e. differs (sym e))))) (lower_without b c (current b t) v before others all)

-- another task is taken out
pub passes_out : (b c : Base) (t v : ℕ) → KeepsPlace b t → (v ≡ t → ⊥) → c.order ≡ without v b.order → ((u : ℕ) → (u ≡ v → ⊥) → task_at c u ≡ task_at b u) → KeepsPlace c t
passes_out b c t v is differs out others = record {
  before = without v is.before;
  behind = without v is.behind;
  stands = out ∙ ap (λ ids. without v ids) is.stands ∙ without_stands t v is.before is.behind differs;
  ahead = ahead_without b c t v is.before differs others is.ahead;
}

-- another task goes to the back
pub passes_back : (b c : Base) (t v : ℕ) → KeepsPlace b t → (v ≡ t → ⊥) → c.order ≡ to_back v b.order → ((u : ℕ) → (u ≡ v → ⊥) → task_at c u ≡ task_at b u) → KeepsPlace c t
passes_back b c t v is differs at_back others = record {
  before = without v is.before;
  behind = without v is.behind ++ v ∷ [];
  stands = at_back ∙ ap (λ ids. to_back v ids) is.stands ∙ ap (λ ids. ids ++ v ∷ []) (without_stands t v is.before is.behind differs) ∙ behind_stands t v (without v is.before) (without v is.behind);
  ahead = ahead_without b c t v is.before differs others is.ahead;
}

-- ---- moves that write one row

-- what holds of a base after a move, of a task that is ready then with the priority that it had
abbrev pub Keeps : Base → ℕ → Base → Type 0
Keeps b t c = is_ready c t ≡ true → current c t ≡ current b t → KeepsPlace c t

others_stand : (b c : Base) (v : ℕ) (o : Option Task) → c.tasks ≡ slice_set b.tasks v o → (u : ℕ) → (u ≡ v → ⊥) → task_at c u ≡ task_at b u
others_stand b c v o written u apart = ap (λ tasks. entry tasks u) written ∙ entry_other b.tasks v u o apart

-- a row is written that isn't ready, or that was ready with its priority, and the order stays
pub keeps_order : (b c : Base) (t v : ℕ) (o : Option Task) → KeepsPlace b t → WasReady (task_at b v) o → c.tasks ≡ slice_set b.tasks v o → c.order ≡ b.order → Keeps b t c
keeps_order b c t v o is was written same_order ready priority =
    stays b c t is same_order
    (subst (λ (tasks : List (Option Task)). (u : ℕ) → WasReady (task_at b u) (entry tasks u)) (sym written)
    (entry_each (λ u now. WasReady (task_at b u) now) b.tasks v o (entry_same (WasReady (task_at b v)) b.tasks v o was (λ none. absurd (cc none))) (λ u apart now. (now, refl))))
    priority

-- the task whose row is written isn't this one, or this one isn't ready then
abbrev pub IsApart : ℕ → ℕ → Base → Type 0
IsApart t v c = v ≡ t → is_ready c t ≡ true → ⊥

-- a row is written, and its task goes to the back
pub keeps_back : (b c : Base) (t v : ℕ) (o : Option Task) → KeepsPlace b t → IsApart t v c → c.tasks ≡ slice_set b.tasks v o → c.order ≡ to_back v b.order → Keeps b t c
keeps_back b c t v o is apart written at_back ready priority = passes_back b c t v is (λ e. apart e ready) at_back (others_stand b c v o written)

-- a row is written, and its task is taken out
keeps_out : (b c : Base) (t v : ℕ) (o : Option Task) → KeepsPlace b t → IsApart t v c → c.tasks ≡ slice_set b.tasks v o → c.order ≡ without v b.order → Keeps b t c
keeps_out b c t v o is apart written out ready priority = passes_out b c t v is (λ e. apart e ready) out (others_stand b c v o written)

-- a row that isn't ready is written
unready : (b c : Base) (t v : ℕ) (o : Option Task) → (may_run o ≡ true → ⊥) → c.tasks ≡ slice_set b.tasks v o → IsApart t v c
unready b c t v o never written same ready =
    entry_same (λ now. may_run now ≡ true → ⊥) b.tasks v o never (λ none. absurd (cc none))
    (ap (λ u. may_run (entry (slice_set b.tasks v o) u)) same ∙ ap (λ tasks. may_run (entry tasks t)) (sym written) ∙ ready)

-- the same of a task that isn't ready then, whichever it is
pub unready_back : (b c : Base) (t v : ℕ) (o : Option Task) → KeepsPlace b t → (may_run o ≡ true → ⊥) → c.tasks ≡ slice_set b.tasks v o → c.order ≡ to_back v b.order → Keeps b t c
unready_back b c t v o is never written at_back = keeps_back b c t v o is (unready b c t v o never written) written at_back

pub unready_out : (b c : Base) (t v : ℕ) (o : Option Task) → KeepsPlace b t → (may_run o ≡ true → ⊥) → c.tasks ≡ slice_set b.tasks v o → c.order ≡ without v b.order → Keeps b t c
unready_out b c t v o is never written out = keeps_out b c t v o is (unready b c t v o never written) written out
