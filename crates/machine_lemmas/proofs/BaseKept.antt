-- What every move of the base keeps, every event keeps: it is enough to look at the moves.
use Rattle.std.proofs.Common.{◌≡◌, ℕ, suc, ◌≤◌, length, List, [], ◌∷◌, Option, Some, None, refl, ap, subst, arith}
use Rattle.std.specs.Prelude.{map}
use Rattle.tk_types.specs.declared.run.Mode.TheVariants as modes
use Rattle.tk_types.specs.declared.script.Script.{Script}
use Rattle.kernel_model.specs.Tasks.Base.{Base}
use Rattle.kernel_model.specs.Bodies.Statements.{IsRunnable}
use Rattle.device_model.specs.declared.messages.Ending.{Ending}
use Rattle.device_model.specs.Devices.Endings.{DevParts, arrive}
use Rattle.device_model.specs.Devices.Tables.{devices_start, link_start}
use Rattle.machine_model.specs.States.Objects.{Parts, dev_parts, mail_parts, pool_parts}
use Rattle.machine_model.specs.States.State.{parts_of, state_start}
use Rattle.machine_model.specs.Events.Settle.{handed}
use Rattle.device_lemmas.proofs.Walk as devices
use Rattle.call_walk.proofs.BaseMoves.{IsBaseProof, IsStillProof, still}
use Rattle.call_walk.proofs.ContextCalls.{context_calls_keep}
use Rattle.call_walk.proofs.DeviceCalls.{arrive_keeps, device_calls_keep}
use Rattle.call_walk.proofs.MailCalls.{mail_calls_keep}
use Rattle.call_walk.proofs.MutexCalls.{mutex_calls_keep}
use Rattle.call_walk.proofs.PoolCalls.{pool_calls_keep}
use Rattle.call_walk.proofs.SemFlagCalls.{sem_flag_calls_keep}
use Rattle.call_walk.proofs.Slots.{slots_kept}
use Rattle.call_walk.proofs.TaskCalls.{task_calls_keep}
use Rattle.call_walk.proofs.TimeCalls.{again_keeps, time_calls_keep}
use Rattle.machine_lemmas.proofs.Changes.{Survives}
use Rattle.machine_lemmas.proofs.FewDevices.{emptied_few, few_arrivals, few_moves}
use Rattle.machine_lemmas.proofs.KnownDevices.{IsWished}
use Rattle.machine_lemmas.proofs.Servings.{FewDevices, serving}
use Rattle.machine_lemmas.proofs.Settling.{few_handed, few_served}
use Rattle.machine_lemmas.proofs.Walk.{IsKept}

-- of the base, and of devices that stay few
pub record BaseHas (P : Base → Type 0) (p : Parts) : Type 0 where
  pub base : P p.base
  pub few : FewDevices p

-- what these moves keep servings keep
pub survives : (P : Base → Type 0) → IsStillProof P → (may : ℕ → Type 0) → Survives may P
survives P moves may = record {
  released = λ b t object answer above waits has. moves.released b t answer has;
  moved = λ b t d dd least most moved waits has. moves.moved b t _ _ has;
  given = λ b n has. moves.given b n has;
}

has_handed : (P : Base → Type 0) → (mode : _) (p : Parts) → BaseHas P p → BaseHas P (handed mode p)
has_handed P modes.Sync p has = has
has_handed P modes.Free p has = record { base = has.base; few = few_handed modes.Free p has.few }

few_arrived : (p : Parts) (e : Ending) (q : DevParts) (found : Option DevParts) → found ≡ Some q → devices.Kept (λ dv. length dv.links ≤ 9) found → length q.table.links ≤ 9
few_arrived p e q None is few = absurd (cc is)
few_arrived p e q (Some r) is few = let same : r ≡ q = cc is in subst (λ (it : DevParts). length it.table.links ≤ 9) same few

pub base_kept : (P : Base → Type 0) → IsBaseProof P → IsKept (BaseHas P)
base_kept P moves = record {
  few = λ p has. has.few;
  task_calls = λ p who c has. record { base = task_calls_keep P (still P moves) p.base p.objects.mutexes who c has.base; few = has.few };
  sem_flag_calls = λ p who c has. record { base = sem_flag_calls_keep P (still P moves) p.base p.objects.sem_flags who c has.base; few = has.few };
  mutex_calls = λ p who c has. record { base = mutex_calls_keep P (still P moves) p.base p.objects.mutexes who c has.base; few = has.few };
  mail_calls = λ p who c has. record { base = mail_calls_keep P (still P moves) (mail_parts p) who c has.base; few = has.few };
  pool_calls = λ p who c has. record { base = pool_calls_keep P (still P moves) (pool_parts p) who c has.base; few = has.few };
  time_calls = λ p c has. record { base = time_calls_keep P moves p.base p.objects.clocks c has.base; few = has.few };
  context_calls = λ p who c has. record { base = context_calls_keep P (still P moves) p.base p.objects.contexts who c has.base; few = has.few };
  device_calls = λ p who c has. record {
    base = device_calls_keep P (still P moves) (dev_parts p) who c has.base;
    few = devices.calls_keep (λ dv. length dv.links ≤ 9) few_moves (dev_parts p) who c has.few;
  };
  left = λ p t all has. record { base = has.base; few = has.few };
  freed = λ p t m is has. record { base = has.base; few = has.few };
  deleted = λ p t has. record { base = moves.deleted p.base t has.base; few = has.few };
  refreshed = λ p t priority has. record { base = moves.refreshed p.base t priority has.base; few = has.few };
  served = λ p q few is has. record { base = (serving p q few is).ends.keeps P (survives P (still P moves) (IsWished p.objects.devices)) has.base; few = few_served p q few is };
  handed = has_handed P;
  handed_first = λ p has. record { base = has.base; few = devices.hand_first_keeps (λ dv. length dv.links ≤ 9) few_moves p.objects.devices has.few };
  messages = λ p has. record { base = has.base; few = emptied_few p.objects.devices has.few };
  arrived = λ p e q is has. record {
    base = arrive_keeps P (dev_parts p) e q is has.base;
    few = few_arrived p e q (arrive (dev_parts p) e) is (devices.arrival_keeps (λ dv. length dv.links ≤ 9) few_moves few_arrivals (dev_parts p) e has.few);
  };
  released = λ p t answer has. record { base = moves.released p.base t answer has.base; few = has.few };
  again = λ p what has. record { base = again_keeps P moves p.base p.objects.clocks what has.base; few = has.few };
  taken = λ p has. record { base = moves.due p.base has.base; few = has.few };
  advanced = λ p has. record { base = moves.advanced p.base has.base; few = has.few };
  flagged = λ p flags has. record { base = moves.flagged p.base flags has.base; few = has.few };
  turned = λ p cur has. record { base = moves.turned p.base cur has.base; few = has.few };
  emptied = λ p has. record { base = moves.emptied p.base has.base; few = has.few };
  written = λ p memory has. record { base = has.base; few = has.few };
}

-- ---- the slots of tasks

abbrev pub HasSlots : Parts → Type 0
HasSlots = BaseHas (λ b. length b.tasks ≡ 256)

pub slots_are_kept : IsKept HasSlots
slots_are_kept = base_kept (λ b. length b.tasks ≡ 256) (slots_kept 256)

mapped_length : {A B : Type 0} → (f : A → B) (xs : List A) → length (map f xs) ≡ length xs
mapped_length f [] = refl
mapped_length f (x ∷ xs) = ap (λ n. suc n) (mapped_length f xs)

pub start_slots : (script : Script) → IsRunnable script → HasSlots (parts_of (state_start script))
unfolding state_start devices_start
start_slots script runnable = record {
  base = refl;
  few = let devices : length script.devices ≤ 8 = runnable.few_devices in let same = mapped_length link_start script.devices in omega (arith, devices, same);
}
