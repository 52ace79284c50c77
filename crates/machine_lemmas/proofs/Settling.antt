-- What holds through settling; and that after it nobody can be served, and each priority is that of its definition.
use Rattle.std.proofs.Common.{◌≡◌, ℕ, zero, suc, ◌≤◌, length, Bool, true, false, cond, List, [], ◌∷◌, Option, Some, None, refl, ◌∙◌, ap, sym, subst, arith}
use Rattle.std.specs.Prelude.{drop, fold}
use Rattle.std.specs.Bool.{◌==◌}
use Rattle.tk_types.specs.declared.run.Mode.{Mode}
use Rattle.tk_types.specs.declared.run.Mode.TheVariants as modes
use Rattle.kernel_model.specs.Words.Orders.{taken_from}
use Rattle.kernel_model.specs.Tasks.Base.{Base, current, set_current}
use Rattle.object_model.specs.Mutexes.Tables.{Mutexes}
use Rattle.object_model.specs.Mutexes.Priority.{current_of, refresh, resettle}
use Rattle.machine_model.specs.States.Objects.{Parts, serve_object}
use Rattle.machine_model.specs.Events.Rest.{AreUpToDate}
use Rattle.machine_model.specs.Events.Settle.{handed, refreshed, served_within, settle}
use Rattle.mutex_laws.proofs.Resettled.{resettled_current, resettled_same}
use Rattle.machine_lemmas.specs.Weights.{weight}
use Rattle.machine_lemmas.proofs.Handing.{hand_over_many}
use Rattle.machine_lemmas.proofs.Servings.{FewDevices, serving}
use Rattle.machine_lemmas.proofs.Weights.{current_weighs, weight_most}

-- ---- what holds through settling

-- it holds after the change of a priority
abbrev pub Refreshed : (Parts → Type 0) → Type 0
Refreshed P = (p : Parts) (t priority : ℕ) → P p → P (record p { base = set_current p.base t priority })

-- after a serving
abbrev pub Served : (Parts → Type 0) → Type 0
Served P = (p q : Parts) → FewDevices p → serve_object p ≡ Some q → P p → P q

-- and after requests went to drivers
abbrev pub Handed : (Parts → Type 0) → Type 0
Handed P = (mode : Mode) (p : Parts) → P p → P (handed mode p)

refresh_if : (P : Parts → Type 0) (p : Parts) (c : Base) (same : Bool) → P p → P (record p { base = c }) → P (record p { base = cond same p.base c })
refresh_if P p c true has changed = has
refresh_if P p c false has changed = changed

each_keeps : (P : Parts → Type 0) → Refreshed P → (m : Mutexes) (ids : List ℕ) (p : Parts) → P p → P (record p { base = fold (refresh m) p.base ids })
each_keeps P step m [] p has = has
each_keeps P step m (t ∷ ids) p has =
    each_keeps P step m ids (record p { base = refresh m p.base t }) (refresh_if P p (set_current p.base t (current_of p.base m t)) (current p.base t == current_of p.base m t) has (step p t (current_of p.base m t) has))

pub refreshed_keeps : (P : Parts → Type 0) → Refreshed P → (p : Parts) → P p → P (refreshed p)
unfolding resettle
refreshed_keeps P step p has = each_keeps P step p.objects.mutexes (taken_from 1 (drop 1 p.base.tasks)) p has

-- what comes of a serving, or of none
abbrev pub next_served : ℕ → Parts → Option Parts → Parts
next_served left p next = elim next as (λ _. Parts) [ None ↦ p | Some served ↦ served_within left (refreshed served) ]

next_keeps : (P : Parts → Type 0) (left : ℕ) (p : Parts) (next : Option Parts) → serve_object p ≡ next → FewDevices p → P p →
    ((q : Parts) → FewDevices q → P q → P (served_within left q)) → ((q : Parts) → serve_object p ≡ Some q → P (refreshed q)) → P (next_served left p next)
next_keeps P left p None is few has rest serve = has
next_keeps P left p (Some q) is few has rest serve = rest (refreshed q) (few_served p q few is) (serve q is)
  where
    few_served : (p q : Parts) → FewDevices p → serve_object p ≡ Some q → FewDevices q
    few_served p q few is = subst (λ n. n ≤ 9) (sym (ap length (serving p q few is).links)) few

pub served_keeps : (P : Parts → Type 0) → Refreshed P → Served P → (left : ℕ) (p : Parts) → FewDevices p → P p → P (served_within left p)
unfolding served_within
served_keeps P refresh serve zero p few has = has
served_keeps P refresh serve (suc left) p few has =
    next_keeps P left p (serve_object p) refl few has (served_keeps P refresh serve left) (λ q is. refreshed_keeps P refresh q (serve p q few is has))

pub settle_keeps : (P : Parts → Type 0) → Refreshed P → Served P → Handed P → (mode : Mode) (p : Parts) → FewDevices p → P p → P (settle mode p)
unfolding settle
settle_keeps P refresh serve hand mode p few has =
    hand mode (served_within 512 (refreshed p)) (served_keeps P refresh serve 512 (refreshed p) few (refreshed_keeps P refresh p has))

-- ---- devices stay few

pub few_served : (p q : Parts) → FewDevices p → serve_object p ≡ Some q → FewDevices q
few_served p q few is = subst (λ n. n ≤ 9) (sym (ap length (serving p q few is).links)) few

pub few_handed : (mode : Mode) (p : Parts) → FewDevices p → FewDevices (handed mode p)
few_handed modes.Sync p few = few
few_handed modes.Free p few = subst (λ n. n ≤ 9) (sym (hand_over_many p.base p.objects.devices)) few

pub few_settled : (mode : Mode) (p : Parts) → FewDevices p → FewDevices (settle mode p)
few_settled mode p few = settle_keeps FewDevices (λ p t priority has. has) (λ p q few is has. few_served p q few is) few_handed mode p few few

-- ---- nobody is left to serve

abbrev pub IsUnserved : Parts → Type 0
IsUnserved p = serve_object p ≡ None

refreshed_weighs : (p : Parts) → weight (refreshed p).base ≡ weight p.base
refreshed_weighs p = refreshed_keeps (λ q. weight q.base ≡ weight p.base) (λ q t priority same. current_weighs q.base t priority ∙ same) p refl

-- where no task waits nobody can be served
pub none_waiting : (p : Parts) (next : Option Parts) → serve_object p ≡ next → FewDevices p → weight p.base ≤ 0 → IsUnserved p
none_waiting p None is few none = is
none_waiting p (Some q) is few none = let lighter = (serving p q few is).ends.lighter in absurd (omega (arith, lighter, none))

unserved_next : (left : ℕ) (p : Parts) (next : Option Parts) → serve_object p ≡ next → FewDevices p → weight p.base ≤ suc left →
    ((q : Parts) → FewDevices q → weight q.base ≤ left → IsUnserved (served_within left q)) → IsUnserved (next_served left p next)
unserved_next left p None is few most rest = is
unserved_next left p (Some q) is few most rest =
    let lighter = (serving p q few is).ends.lighter in
    let same = refreshed_weighs q in
    rest (refreshed q) (few_served p q few is) (omega (arith, lighter, same, most))

-- with as many servings as all waits weigh none is left that can be served
served_unserved : (left : ℕ) (p : Parts) → FewDevices p → weight p.base ≤ left → IsUnserved (served_within left p)
unfolding served_within
served_unserved zero p few most = none_waiting p (serve_object p) refl few most
served_unserved (suc left) p few most = unserved_next left p (serve_object p) refl few most (served_unserved left)

-- so twice as many as there are slots of tasks are enough
pub enough_servings : (p : Parts) → FewDevices p → length p.base.tasks ≤ 256 → IsUnserved (served_within 512 (refreshed p))
enough_servings p few slots =
    let most = weight_most p.base in
    let same = refreshed_weighs p in
    served_unserved 512 (refreshed p) few (omega (arith, most, same, slots))

-- ---- the priorities

pub refreshed_current : (p : Parts) → AreUpToDate (refreshed p).base p.objects.mutexes
refreshed_current p = record { each = λ t least. resettled_current p.base p.objects.mutexes t least }

abbrev pub IsUpToDate : Parts → Type 0
IsUpToDate p = AreUpToDate p.base p.objects.mutexes

current_next : (left : ℕ) (p : Parts) (next : Option Parts) → IsUpToDate p → ((q : Parts) → IsUpToDate q → IsUpToDate (served_within left q)) → IsUpToDate (next_served left p next)
current_next left p None is rest = is
current_next left p (Some q) is rest = rest (refreshed q) (refreshed_current q)

served_current : (left : ℕ) (p : Parts) → IsUpToDate p → IsUpToDate (served_within left p)
unfolding served_within
served_current zero p is = is
served_current (suc left) p is = current_next left p (serve_object p) is (served_current left)

handed_current : (mode : Mode) (p : Parts) → IsUpToDate p → IsUpToDate (handed mode p)
handed_current modes.Sync p is = is
handed_current modes.Free p is = is

-- once all has settled, each task's current priority is that of its definition
pub settle_current : (mode : Mode) (p : Parts) → IsUpToDate (settle mode p)
unfolding settle
settle_current mode p = handed_current mode (served_within 512 (refreshed p)) (served_current 512 (refreshed p) (refreshed_current p))

-- ---- settling of what has settled

served_none : (left : ℕ) (p : Parts) → IsUnserved p → served_within left p ≡ p
unfolding served_within
served_none zero p none = refl
served_none (suc left) p none = ap (λ next. next_served left p next) none

refreshed_none : (p : Parts) → IsUpToDate p → refreshed p ≡ p
refreshed_none p is = ap (λ base. record p { base = base }) (resettled_same p.base p.objects.mutexes (λ t least. is.each t least))

-- where nobody can be served, each priority is that of its definition and no request can go to a driver, settling changes nothing
pub settled_none : (mode : Mode) (p : Parts) → IsUpToDate p → IsUnserved p → handed mode p ≡ p → settle mode p ≡ p
unfolding settle
settled_none mode p is none given = ap (λ q. handed mode (served_within 512 q)) (refreshed_none p is) ∙ ap (handed mode) (served_none 512 p none) ∙ given
