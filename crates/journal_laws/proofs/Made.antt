-- What each move on devices keeps, every event keeps.
use Rattle.std.proofs.Common.{◌≡◌, ◌≤◌, length, Option, Some, None, refl, subst}
use Rattle.std.specs.Option.{option_map}
use Rattle.tk_types.specs.declared.run.Mode.{Mode}
use Rattle.tk_types.specs.declared.run.Mode.TheVariants as modes
use Rattle.kernel_model.specs.SemFlags.Tables.{serve_sem_flag}
use Rattle.object_model.specs.Mails.Boxes.{serve_mailboxes}
use Rattle.object_model.specs.Mails.Buffers.{serve_buffers}
use Rattle.object_model.specs.Mutexes.Tables.{serve_mutexes}
use Rattle.object_model.specs.Pools.Fixed.{serve_fixed_pools}
use Rattle.object_model.specs.Pools.Variable.{serve_variable_pools}
use Rattle.device_model.specs.Devices.Endings.{DevParts, arrive}
use Rattle.device_model.specs.Devices.Handing.{emptied}
use Rattle.device_model.specs.Devices.MoveProofs.{IsArrivalProof, IsMoveProof}
use Rattle.device_model.specs.Devices.Tables.{Devices}
use Rattle.device_lemmas.proofs.Walk.{Kept, acceptances_keep, arrival_keeps, calls_keep, closes_keep, endings_keep, hand_first_keeps, hand_over_keeps, suspension_keeps}
use Rattle.machine_model.specs.States.Objects.{Parts, dev_parts, first_serving, mail_parts, pool_parts, serve_object, with_devices, with_mails, with_mutexes, with_pools, with_sem_flags}
use Rattle.machine_model.specs.Events.Settle.{handed}
use Rattle.machine_lemmas.proofs.FewDevices.{emptied_few, few_arrivals, few_moves}
use Rattle.machine_lemmas.proofs.Servings.{FewDevices}
use Rattle.machine_lemmas.proofs.Settling.{few_handed, few_served}
use Rattle.machine_lemmas.proofs.Walk.{IsKept}

-- a word on the devices, of which there are at most eight
pub record IsSaid (P : Devices → Type 0) (p : Parts) : Type 0 where
  pub few : FewDevices p
  pub so : P p.objects.devices

-- what is to be known of it
pub record IsOfMoves (P : Devices → Type 0) : Type 0 where
  pub moves : IsMoveProof P
  pub arrivals : IsArrivalProof P
  pub takes : (dv : Devices) → P dv → P (emptied dv)

-- ---- a serving

abbrev IfSaid : (Devices → Type 0) → Option Parts → Type 0
IfSaid P None = Unit {0}
IfSaid P (Some q) = P q.objects.devices

mapped_said : (P : Devices → Type 0) {A : Type 0} → (put : A → Parts) (served : Option A) → ((left : A) → P (put left).objects.devices) → IfSaid P (option_map put served)
mapped_said P put None each = tt
mapped_said P put (Some left) each = each left

devices_said : (P : Devices → Type 0) (p : Parts) (served : Option DevParts) → Kept P served → IfSaid P (option_map (with_devices p) served)
devices_said P p None kept = tt
devices_said P p (Some q) kept = kept

two_said : (P : Devices → Type 0) (here next : Option Parts) → IfSaid P here → IfSaid P next → IfSaid P (elim here as (λ _. Option Parts) [ Some served ↦ Some served | None ↦ next ])
two_said P (Some served) next first later = first
two_said P None next first later = later

serving_said : (P : Devices → Type 0) → IsMoveProof P → (p : Parts) → P p.objects.devices → IfSaid P (serve_object p)
unfolding serve_object first_serving
serving_said P moves p so =
    let d : DevParts = dev_parts p in
    two_said P _ _ (mapped_said P (with_sem_flags p) (serve_sem_flag p.base p.objects.sem_flags) (λ left. so))
    (two_said P _ _ (mapped_said P (with_mails p) (serve_mailboxes (mail_parts p)) (λ left. so))
    (two_said P _ _ (mapped_said P (with_mutexes p) (serve_mutexes p.base p.objects.mutexes) (λ left. so))
    (two_said P _ _ (mapped_said P (with_mails p) (serve_buffers (mail_parts p)) (λ left. so))
    (two_said P _ _ (mapped_said P (with_pools p) (serve_fixed_pools (pool_parts p)) (λ left. so))
    (two_said P _ _ (mapped_said P (with_pools p) (serve_variable_pools (pool_parts p)) (λ left. so))
    (two_said P _ _ (devices_said P p _ (acceptances_keep P moves d so))
    (two_said P _ _ (devices_said P p _ (endings_keep P moves d so))
    (two_said P _ _ (devices_said P p _ (closes_keep P moves d so))
    (two_said P _ None (devices_said P p _ (suspension_keeps P d so)) tt)))))))))

served_said : (P : Devices → Type 0) (q : Parts) (served : Option Parts) → served ≡ Some q → IfSaid P served → P q.objects.devices
served_said P q None is said = absurd (cc is)
served_said P q (Some left) is said = let e : left ≡ q = cc is in subst (λ (it : Parts). P it.objects.devices) e said

arrived_said : (P : Devices → Type 0) (q : DevParts) (found : Option DevParts) → found ≡ Some q → Kept P found → P q.table
arrived_said P q None is kept = absurd (cc is)
arrived_said P q (Some left) is kept = let e : left ≡ q = cc is in subst (λ (it : DevParts). P it.table) e kept

handed_said : (P : Devices → Type 0) → IsMoveProof P → (mode : Mode) (p : Parts) → IsSaid P p → IsSaid P (handed mode p)
handed_said P moves modes.Sync p said = said
handed_said P moves modes.Free p said = record { few = few_handed modes.Free p said.few; so = hand_over_keeps P moves p.base p.objects.devices said.so }

same_said : (P : Devices → Type 0) (p q : Parts) → q.objects.devices ≡ p.objects.devices → IsSaid P p → IsSaid P q
same_said P p q same said = record { few = subst (λ (dv : Devices). length dv.links ≤ 9) (same_back same) said.few; so = subst P (same_back same) said.so }
  where
    same_back : q.objects.devices ≡ p.objects.devices → p.objects.devices ≡ q.objects.devices
    same_back is = cc is

pub said_is_kept : (P : Devices → Type 0) → IsOfMoves P → IsKept (IsSaid P)
said_is_kept P of_moves = record {
  few = λ p said. said.few;
  task_calls = λ p who c said. same_said P p _ refl said;
  sem_flag_calls = λ p who c said. same_said P p _ refl said;
  mutex_calls = λ p who c said. same_said P p _ refl said;
  mail_calls = λ p who c said. same_said P p _ refl said;
  pool_calls = λ p who c said. same_said P p _ refl said;
  time_calls = λ p c said. same_said P p _ refl said;
  context_calls = λ p who c said. same_said P p _ refl said;
  device_calls = λ p who c said. record {
    few = calls_keep (λ dv. length dv.links ≤ 9) few_moves (dev_parts p) who c said.few;
    so = calls_keep P of_moves.moves (dev_parts p) who c said.so;
  };
  left = λ p t all said. same_said P p _ refl said;
  freed = λ p t m is said. same_said P p _ refl said;
  deleted = λ p t said. same_said P p _ refl said;
  refreshed = λ p t priority said. same_said P p _ refl said;
  served = λ p q few is said. record { few = few_served p q few is; so = served_said P q (serve_object p) is (serving_said P of_moves.moves p said.so) };
  handed = handed_said P of_moves.moves;
  handed_first = λ p said. record {
    few = hand_first_keeps (λ dv. length dv.links ≤ 9) few_moves p.objects.devices said.few;
    so = hand_first_keeps P of_moves.moves p.objects.devices said.so;
  };
  messages = λ p said. record { few = emptied_few p.objects.devices said.few; so = of_moves.takes p.objects.devices said.so };
  arrived = λ p e q is said. record {
    few = arrived_said (λ dv. length dv.links ≤ 9) q (arrive (dev_parts p) e) is (arrival_keeps (λ dv. length dv.links ≤ 9) few_moves few_arrivals (dev_parts p) e said.few);
    so = arrived_said P q (arrive (dev_parts p) e) is (arrival_keeps P of_moves.moves of_moves.arrivals (dev_parts p) e said.so);
  };
  released = λ p t answer said. same_said P p _ refl said;
  again = λ p what said. same_said P p _ refl said;
  taken = λ p said. same_said P p _ refl said;
  advanced = λ p said. same_said P p _ refl said;
  flagged = λ p flags said. same_said P p _ refl said;
  turned = λ p cur said. same_said P p _ refl said;
  emptied = λ p said. same_said P p _ refl said;
  written = λ p memory said. same_said P p _ refl said;
}
