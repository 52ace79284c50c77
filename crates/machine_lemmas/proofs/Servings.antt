-- What a serving is: the wait of one task ends, or moves from the acceptance of a request to its ending, so that less is left
-- to serve; the queues keep their orders. What holds through any of these, and through the change of any priority, holds
-- through settling.
use Rattle.std.proofs.Common.{◌≡◌, ℕ, ◌≤◌, length, List, [], ◌∷◌, Option, Some, None, refl, ◌∙◌, ap, subst}
use Rattle.std.specs.Prelude.{nat_lt}
use Rattle.std.specs.Option.{option_map}
use Rattle.tk_types.specs.declared.task.Order.{Order}
use Rattle.tk_types.specs.declared.task.Order.TheVariants.{Fifo}
use Rattle.kernel_model.specs.SemFlags.Tables.{SemFlagParts}
use Rattle.kernel_model.specs.SemFlags.Orders.{sem_flag_order}
use Rattle.object_model.specs.Mutexes.Tables.{MutexParts}
use Rattle.object_model.specs.Mutexes.Orders.{mutex_order}
use Rattle.object_model.specs.Mails.Tables.{MailParts}
use Rattle.object_model.specs.Mails.Orders.{mail_order}
use Rattle.object_model.specs.Pools.Tables.{PoolParts}
use Rattle.object_model.specs.Pools.Orders.{pool_order}
use Rattle.device_model.specs.Devices.Endings.{DevParts}
use Rattle.machine_model.specs.States.Objects.{Objects, Parts, dev_parts, first_serving, kinds, mail_parts, pool_parts, serve_object, with_devices, with_mails, with_mutexes, with_pools, with_sem_flags}
use Rattle.machine_model.specs.States.Waits.{order_for, or_order}
use Rattle.machine_lemmas.proofs.Changes.{IsEnding, may_move}
use Rattle.machine_lemmas.proofs.KnownDevices.{AreKnown, IsWished}
use Rattle.machine_lemmas.proofs.DeviceServings.{IsDevServing, acceptances_serving, closes_serving, endings_serving, suspension_serving}
use Rattle.machine_lemmas.proofs.Finding.{choice_same}
use Rattle.machine_lemmas.proofs.ObjectServings.{IsMailServing, IsMutexServing, IsPoolServing, IsSemFlagServing, boxes_serving, buffers_serving, fixed_pools_serving, mutexes_serving, sem_flag_serving, variable_pools_serving}

-- a wait ends or moves; queues keep their orders, and devices their number
pub record IsServing (p q : Parts) : Type 1 where
  pub ends : IsEnding (IsWished p.objects.devices) p.base q.base
  pub known : AreKnown p.objects.devices → AreKnown q.objects.devices
  pub orders : (object : ℕ) → order_for q.objects object ≡ order_for p.objects object
  pub links : q.objects.devices.links ≡ p.objects.devices.links

-- ---- each kind

or_same : (a b c d : Option Order) → a ≡ c → b ≡ d → or_order a b ≡ or_order c d
or_same a b c d one two = ap (λ (order : Option Order). or_order order b) one ∙ ap (or_order c) two

-- the orders of all objects are those of the families
orders_of : (o now : Objects) → ((object : ℕ) → sem_flag_order now.sem_flags object ≡ sem_flag_order o.sem_flags object) → ((object : ℕ) → mutex_order now.mutexes object ≡ mutex_order o.mutexes object) →
    ((object : ℕ) → mail_order now.mails object ≡ mail_order o.mails object) → ((object : ℕ) → pool_order now.pools object ≡ pool_order o.pools object) → (object : ℕ) → order_for now object ≡ order_for o object
orders_of o now sems mutexes mails pools object =
    choice_same (nat_lt object 2) (Some Fifo) _ (Some Fifo) _ refl
    (or_same _ _ _ _ (sems object) (or_same _ _ _ _ (mutexes object) (or_same _ _ _ _ (mails object) (or_same _ _ _ _ (pools object) refl))))

same_order : {A : Type 0} → (order : A → ℕ → Option Order) (a : A) (object : ℕ) → order a object ≡ order a object
same_order order a object = refl

-- a family's serving, as one of all parts
mapped : {A : Type 0} → (p q : Parts) (put : A → Parts) (served : Option A) → option_map put served ≡ Some q → ((left : A) → served ≡ Some left → IsServing p (put left)) → IsServing p q
mapped p q put None is serving = absurd (cc is)
mapped p q put (Some left) is serving = let e : put left ≡ q = cc is in subst (IsServing p) e (serving left refl)

of_sem_flags : (p : Parts) (left : SemFlagParts) → IsSemFlagServing p.base p.objects.sem_flags left → IsServing p (with_sem_flags p left)
of_sem_flags p left is = record {
  ends = may_move (IsWished p.objects.devices) p.base left.base is.ends;
  known = λ known. known;
  orders = orders_of p.objects (with_sem_flags p left).objects is.orders (same_order mutex_order p.objects.mutexes) (same_order mail_order p.objects.mails) (same_order pool_order p.objects.pools);
  links = refl;
}

of_mutexes : (p : Parts) (left : MutexParts) → IsMutexServing p.base p.objects.mutexes left → IsServing p (with_mutexes p left)
of_mutexes p left is = record {
  ends = may_move (IsWished p.objects.devices) p.base left.base is.ends;
  known = λ known. known;
  orders = orders_of p.objects (with_mutexes p left).objects (same_order sem_flag_order p.objects.sem_flags) is.orders (same_order mail_order p.objects.mails) (same_order pool_order p.objects.pools);
  links = refl;
}

of_mails : (p : Parts) (left : MailParts) → IsMailServing (mail_parts p) left → IsServing p (with_mails p left)
of_mails p left is = record {
  ends = may_move (IsWished p.objects.devices) p.base left.base is.ends;
  known = λ known. known;
  orders = orders_of p.objects (with_mails p left).objects (same_order sem_flag_order p.objects.sem_flags) (same_order mutex_order p.objects.mutexes) is.orders (same_order pool_order p.objects.pools);
  links = refl;
}

of_pools : (p : Parts) (left : PoolParts) → IsPoolServing (pool_parts p) left → IsServing p (with_pools p left)
of_pools p left is = record {
  ends = may_move (IsWished p.objects.devices) p.base left.base is.ends;
  known = λ known. known;
  orders = orders_of p.objects (with_pools p left).objects (same_order sem_flag_order p.objects.sem_flags) (same_order mutex_order p.objects.mutexes) (same_order mail_order p.objects.mails) is.orders;
  links = refl;
}

of_devices : (p : Parts) (left : DevParts) → IsDevServing (dev_parts p) left → IsServing p (with_devices p left)
of_devices p left is = record {
  ends = is.ends;
  known = is.known;
  orders = orders_of p.objects (with_devices p left).objects (same_order sem_flag_order p.objects.sem_flags) (same_order mutex_order p.objects.mutexes) is.orders (same_order pool_order p.objects.pools);
  links = is.links;
}

-- ---- the first object that can serve

-- each serving of these is one
Each : List (Parts → Option Parts) → Parts → Parts → Type 1
Each [] p q = Unit {1}
Each (kind ∷ later) p q = (kind p ≡ Some q → IsServing p q) × Each later p q

first_of_two : (p q : Parts) (here : Option Parts) (later : List (Parts → Option Parts)) → elim here as (λ _. Option Parts) [ Some served ↦ Some served | None ↦ first_serving later p ] ≡ Some q →
    (here ≡ Some q → IsServing p q) → (first_serving later p ≡ Some q → IsServing p q) → IsServing p q
first_of_two p q (Some served) later is by rest = by is
first_of_two p q None later is by rest = rest is

first_serves : (ks : List (Parts → Option Parts)) (p q : Parts) → first_serving ks p ≡ Some q → Each ks p q → IsServing p q
unfolding first_serving Each
first_serves [] p q is each = absurd (cc is)
first_serves (kind ∷ later) p q is each = first_of_two p q (kind p) later is each.0 (λ rest. first_serves later p q rest each.1)

-- at most eight devices
abbrev pub FewDevices : Parts → Type 0
FewDevices p = length p.objects.devices.links ≤ 9

-- what is served first is served
pub serving : (p q : Parts) → FewDevices p → serve_object p ≡ Some q → IsServing p q
unfolding serve_object Each
serving p q few is = first_serves kinds p q is (
  λ found. mapped p q (with_sem_flags p) _ found (λ left at. of_sem_flags p left (sem_flag_serving p.base p.objects.sem_flags left at)),
  (
    λ found. mapped p q (with_mails p) _ found (λ left at. of_mails p left (boxes_serving (mail_parts p) left at)),
    (
      λ found. mapped p q (with_mutexes p) _ found (λ left at. of_mutexes p left (mutexes_serving p.base p.objects.mutexes left at)),
      (
        λ found. mapped p q (with_mails p) _ found (λ left at. of_mails p left (buffers_serving (mail_parts p) left at)),
        (
          λ found. mapped p q (with_pools p) _ found (λ left at. of_pools p left (fixed_pools_serving (pool_parts p) left at)),
          (
            λ found. mapped p q (with_pools p) _ found (λ left at. of_pools p left (variable_pools_serving (pool_parts p) left at)),
            (
              λ found. mapped p q (with_devices p) _ found (λ left at. of_devices p left (acceptances_serving (dev_parts p) left few at)),
              (
                λ found. mapped p q (with_devices p) _ found (λ left at. of_devices p left (endings_serving (dev_parts p) left at)),
                (
                  λ found. mapped p q (with_devices p) _ found (λ left at. of_devices p left (closes_serving (dev_parts p) left at)),
                  (
                    λ found. mapped p q (with_devices p) _ found (λ left at. of_devices p left (suspension_serving (dev_parts p) left at)),
                    tt,
                  ),
                ),
              ),
            ),
          ),
        ),
      ),
    ),
  ),
)
