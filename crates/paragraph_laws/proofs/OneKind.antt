-- Where one kind of objects alone can serve anybody, what is served first is what it serves; and which kinds can't, once a task
-- has joined the waiters of an object of another kind.
use Rattle.std.proofs.Common.{◌≡◌, ℕ, zero, suc, ◌+◌, ◌-◌, ◌≤◌, List, [], ◌∷◌, Option, Some, None, refl, ◌∙◌, ap, arith}
use Rattle.kernel_model.specs.Tasks.Base.{Base}
use Rattle.kernel_model.specs.SemFlags.Tables.{serve_sem_flag}
use Rattle.object_model.specs.Mutexes.Tables.{serve_mutexes}
use Rattle.object_model.specs.Mails.Tables.{MailParts, Mails}
use Rattle.object_model.specs.Mails.Boxes.{serve_mailboxes}
use Rattle.object_model.specs.Mails.Buffers.{serve_buffers}
use Rattle.object_model.specs.Pools.Tables.{PoolParts}
use Rattle.object_model.specs.Pools.Fixed.{serve_fixed_pools}
use Rattle.object_model.specs.Pools.Variable.{serve_variable_pools}
use Rattle.device_model.specs.Devices.Endings.{DevParts}
use Rattle.device_model.specs.Devices.Servings.{serve_acceptances, serve_endings, serve_closes, serve_suspension}
use Rattle.machine_model.specs.States.Objects.{Parts, dev_parts, first_serving, kinds, mail_parts, pool_parts, serve_object}
use Rattle.machine_lemmas.proofs.HandingServes.{AllKinds, each_kind, no_kind, unmapped}
use Rattle.table_lemmas.specs.Short.{AreShort}
use Rattle.paragraph_laws.proofs.Joined.{AwayFrom}
use Rattle.paragraph_laws.proofs.Still.{acceptances_still, boxes_still, buffers_still, closes_still, endings_still, fixed_pools_still, mutexes_still, sem_flags_still, suspension_still, variable_pools_still}

-- ---- one kind alone

-- all kinds but that in one place serve nobody
unfoldable pub NoneBut : ℕ → List (Parts → Option Parts) → Parts → Type 0
NoneBut place [] p = Unit {0}
NoneBut zero (kind ∷ later) p = AllKinds later p
NoneBut (suc place) (kind ∷ later) p = (kind p ≡ None) × NoneBut place later p

-- what the kind in a place serves
abbrev pub serving_at : ℕ → List (Parts → Option Parts) → Parts → Option Parts
serving_at place [] p = None
serving_at zero (kind ∷ later) p = kind p
serving_at (suc place) (kind ∷ later) p = serving_at place later p

first_alone : (here later : Option Parts) → later ≡ None → elim here as (λ _. Option Parts) [ Some served ↦ Some served | None ↦ later ] ≡ here
first_alone None later none = none
first_alone (Some served) later none = refl

-- so what is served first is what that kind serves
pub only_kind : (place : ℕ) (ks : List (Parts → Option Parts)) (p : Parts) → NoneBut place ks p → first_serving ks p ≡ serving_at place ks p
unfolding first_serving NoneBut
only_kind place [] p none = refl
only_kind zero (kind ∷ later) p none = first_alone (kind p) (first_serving later p) (no_kind later p none)
only_kind (suc place) (kind ∷ later) p none =
    ap (λ here. elim here as (λ _. Option Parts) [ Some served ↦ Some served | None ↦ first_serving later p ]) none.0 ∙ only_kind place later p none.1

-- ---- the kinds of other objects

-- none of the numbers behind a first one is this
abbrev pub IsApart : ℕ → ℕ → Type 0
IsApart from object = (id : ℕ) → 1 ≤ id → id ≤ 64 → from + id ≡ object → ⊥

-- each kind serves nobody, by itself
pub record NoneOf (p : Parts) : Type 0 where
  pub sem_flags : serve_sem_flag p.base p.objects.sem_flags ≡ None
  pub boxes : serve_mailboxes (mail_parts p) ≡ None
  pub mutexes : serve_mutexes p.base p.objects.mutexes ≡ None
  pub buffers : serve_buffers (mail_parts p) ≡ None
  pub fixed : serve_fixed_pools (pool_parts p) ≡ None
  pub variable : serve_variable_pools (pool_parts p) ≡ None
  pub acceptances : serve_acceptances (dev_parts p) ≡ None
  pub endings : serve_endings (dev_parts p) ≡ None
  pub closes : serve_closes (dev_parts p) ≡ None
  pub suspension : serve_suspension (dev_parts p) ≡ None

-- where nobody can be served no kind serves anybody
pub none_of : (p : Parts) → serve_object p ≡ None → NoneOf p
unfolding serve_object AllKinds
none_of p is =
    let all = each_kind kinds p is in
    record {
      sem_flags = unmapped _ _ all.0;
      boxes = unmapped _ _ all.1.0;
      mutexes = unmapped _ _ all.1.1.0;
      buffers = unmapped _ _ all.1.1.1.0;
      fixed = unmapped _ _ all.1.1.1.1.0;
      variable = unmapped _ _ all.1.1.1.1.1.0;
      acceptances = unmapped _ _ all.1.1.1.1.1.1.0;
      endings = unmapped _ _ all.1.1.1.1.1.1.1.0;
      closes = unmapped _ _ all.1.1.1.1.1.1.1.1.0;
      suspension = unmapped _ _ all.1.1.1.1.1.1.1.1.1.0;
    }

-- semaphores and flags serve nobody, once a task has joined the waiters of another object
pub sem_flags_beside : (p : Parts) (c : Base) (object : ℕ) → AreShort p.objects → AwayFrom p.base c object → IsApart 63 object → IsApart 127 object → NoneOf p →
    serve_sem_flag c p.objects.sem_flags ≡ None
sem_flags_beside p c object short away sems flags none =
    let few = short.sems in
    let few_flags = short.flags in
    sem_flags_still p.base c p.objects.sem_flags
    (λ id in_it. away (63 + id) (sems id in_it.0 (let low = in_it.1 in omega (arith, low, few))))
    (λ id in_it. away (127 + id) (flags id in_it.0 (let low = in_it.1 in omega (arith, low, few_flags)))) none.sem_flags

-- nor do mutexes
pub mutexes_beside : (p : Parts) (c : Base) (object : ℕ) → AreShort p.objects → AwayFrom p.base c object → IsApart 255 object → NoneOf p →
    serve_mutexes c p.objects.mutexes ≡ None
mutexes_beside p c object short away apart none =
    let few = short.mutexes in
    mutexes_still p.base c p.objects.mutexes (λ id in_it. away (255 + id) (apart id in_it.0 (let low = in_it.1 in omega (arith, low, few)))) none.mutexes

-- nor do mailboxes
pub boxes_beside : (p : Parts) (q : MailParts) (object : ℕ) → q.table.boxes ≡ p.objects.mails.boxes → AreShort p.objects → AwayFrom p.base q.base object → IsApart 191 object →
    NoneOf p → serve_mailboxes q ≡ None
boxes_beside p q object same short away apart none =
    let few = short.boxes in
    boxes_still (mail_parts p) q same (λ id in_it. away (191 + id) (apart id in_it.0 (let low = in_it.1 in omega (arith, low, few)))) none.boxes

-- nor do message buffers
pub buffers_beside : (p : Parts) (q : MailParts) (object : ℕ) → q.table.buffers ≡ p.objects.mails.buffers → q.table.sending ≡ p.objects.mails.sending → AreShort p.objects →
    AwayFrom p.base q.base object →
    IsApart 319 object → IsApart 383 object → NoneOf p → serve_buffers q ≡ None
buffers_beside p q object same sending short away sends receives none =
    let few = short.buffers in
    buffers_still (mail_parts p) q same sending
    (λ id in_it. away (319 + id) (sends id in_it.0 (let low = in_it.1 in omega (arith, low, few))))
    (λ id in_it. away (383 + id) (receives id in_it.0 (let low = in_it.1 in omega (arith, low, few)))) none.buffers

-- nor do fixed pools
pub fixed_beside : (p : Parts) (q : PoolParts) (object : ℕ) → q.table.fixed ≡ p.objects.pools.fixed → AreShort p.objects → AwayFrom p.base q.base object → IsApart 447 object →
    NoneOf p → serve_fixed_pools q ≡ None
fixed_beside p q object same short away apart none =
    let few = short.fixed in
    fixed_pools_still (pool_parts p) q same (λ id in_it. away (447 + id) (apart id in_it.0 (let low = in_it.1 in omega (arith, low, few)))) none.fixed

-- nor do variable pools
pub variable_beside : (p : Parts) (q : PoolParts) (object : ℕ) → q.table.variable ≡ p.objects.pools.variable → q.table.sizes ≡ p.objects.pools.sizes → AreShort p.objects →
    AwayFrom p.base q.base object →
    IsApart 511 object → NoneOf p → serve_variable_pools q ≡ None
variable_beside p q object same sizes short away apart none =
    let few = short.variable in
    variable_pools_still (pool_parts p) q same sizes (λ id in_it. away (511 + id) (apart id in_it.0 (let low = in_it.1 in omega (arith, low, few)))) none.variable

-- the kinds of devices, which have the last numbers
abbrev pub DevicesNone : DevParts → Type 0
DevicesNone q = (serve_acceptances q ≡ None) × ((serve_endings q ≡ None) × ((serve_closes q ≡ None) × (serve_suspension q ≡ None)))

-- nor do these
pub devices_beside : (p : Parts) (c : Base) (mails : Mails) (object : ℕ) → AwayFrom p.base c object → object ≤ 575 → NoneOf p →
    DevicesNone (record (dev_parts p) { base = c; mails = mails })
devices_beside p c mails object away low none =
    let q : MailParts = record { base = c; table = mails; memory = p.memory } in (
      acceptances_still (dev_parts p) q (λ d one. away (575 + d) (λ e. omega (arith, one, e, low))) none.acceptances,
      (
        endings_still (dev_parts p) q (λ dd one. away (584 + (dd - 1)) (λ e. omega (arith, e, low))) none.endings,
        (
          closes_still (dev_parts p) q (λ dd one. away (616 + (dd - 1)) (λ e. omega (arith, e, low))) none.closes,
          suspension_still (dev_parts p) q (away 648 (λ e. omega (arith, e, low))) none.suspension,
        ),
      ),
    )
