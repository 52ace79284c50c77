-- What holds of the devices in every state of a run, so that an ending that is needed is there.
use Rattle.std.proofs.Common.{◌≡◌, ◌≤◌, length, Option, Some, None, refl, sym, subst}
use Rattle.std.specs.Option.{option_map}
use Rattle.tk_types.specs.declared.run.Mode.{Mode}
use Rattle.tk_types.specs.declared.run.Mode.TheVariants as modes
use Rattle.tk_types.specs.declared.script.Script.{Script}
use Rattle.kernel_model.specs.Bodies.Statements.{IsRunnable}
use Rattle.kernel_model.specs.SemFlags.Tables.{serve_sem_flag}
use Rattle.object_model.specs.Mails.Boxes.{serve_mailboxes}
use Rattle.object_model.specs.Mails.Buffers.{serve_buffers}
use Rattle.object_model.specs.Mutexes.Tables.{serve_mutexes}
use Rattle.object_model.specs.Pools.Fixed.{serve_fixed_pools}
use Rattle.object_model.specs.Pools.Variable.{serve_variable_pools}
use Rattle.device_model.specs.Devices.Endings.{DevParts, arrive}
use Rattle.device_model.specs.Devices.Servings.{serve_suspension}
use Rattle.device_model.specs.Devices.Tables.{Devices}
use Rattle.device_lemmas.proofs.Walk as devices
use Rattle.device_laws.specs.Moves.{Leads}
use Rattle.device_laws.specs.Requests.{AreTied}
use Rattle.device_laws.proofs.Leading.{arriving, leading, no_moves}
use Rattle.device_laws.proofs.Ties.{emptied_tied, stay_tied, tied_at_first}
use Rattle.machine_model.specs.States.Objects.{Parts, dev_parts, first_serving, mail_parts, pool_parts, serve_object, with_devices, with_mails, with_mutexes, with_pools, with_sem_flags}
use Rattle.machine_model.specs.States.State.{parts_of, state_start}
use Rattle.machine_model.specs.Events.Settle.{handed}
use Rattle.machine_lemmas.proofs.BaseKept.{start_slots}
use Rattle.machine_lemmas.proofs.FewDevices.{emptied_few, few_arrivals, few_moves}
use Rattle.machine_lemmas.proofs.Servings.{FewDevices}
use Rattle.machine_lemmas.proofs.Settling.{few_handed, few_served}
use Rattle.machine_lemmas.proofs.Walk.{IsKept}
use Rattle.journal_laws.proofs.Linked.{AreLinked, KeptLinked, acceptances_linked, arrives_linked, calls_linked, closes_linked, emptied_linked, endings_linked, hand_first_linked, hand_over_linked, start_linked}

pub record AreFit (dv : Devices) : Type 0 where
  pub linked : AreLinked dv
  pub tied : AreTied dv

pub record HasDrivers (p : Parts) : Type 0 where
  pub few : FewDevices p
  pub fit : AreFit p.objects.devices

led : (dv now : Devices) → Leads dv now → AreTied dv → AreTied now
led dv now leads tied = subst AreTied leads.leads (stay_tied leads.moves dv tied)

-- ---- a serving

abbrev IfFit : Option Parts → Type 0
IfFit None = Unit {0}
IfFit (Some q) = AreFit q.objects.devices

mapped_fit : {A : Type 0} → (put : A → Parts) (served : Option A) → ((left : A) → AreFit (put left).objects.devices) → IfFit (option_map put served)
mapped_fit put None each = tt
mapped_fit put (Some left) each = each left

devices_fit : (p : Parts) (served : Option DevParts) → KeptLinked served → devices.Kept (Leads p.objects.devices) served → AreTied p.objects.devices → IfFit (option_map (with_devices p) served)
devices_fit p None linked leads tied = tt
devices_fit p (Some q) linked leads tied = record { linked = linked; tied = led p.objects.devices q.table leads tied }

two_fit : (here next : Option Parts) → IfFit here → IfFit next → IfFit (elim here as (λ _. Option Parts) [ Some served ↦ Some served | None ↦ next ])
two_fit (Some served) next first later = first
two_fit None next first later = later

serving_fit : (p : Parts) → AreFit p.objects.devices → IfFit (serve_object p)
unfolding serve_object first_serving
serving_fit p fit =
    let d : DevParts = dev_parts p in
    let moves = leading p.objects.devices in
    let none = no_moves p.objects.devices in
    two_fit _ _ (mapped_fit (with_sem_flags p) (serve_sem_flag p.base p.objects.sem_flags) (λ left. fit))
    (two_fit _ _ (mapped_fit (with_mails p) (serve_mailboxes (mail_parts p)) (λ left. fit))
    (two_fit _ _ (mapped_fit (with_mutexes p) (serve_mutexes p.base p.objects.mutexes) (λ left. fit))
    (two_fit _ _ (mapped_fit (with_mails p) (serve_buffers (mail_parts p)) (λ left. fit))
    (two_fit _ _ (mapped_fit (with_pools p) (serve_fixed_pools (pool_parts p)) (λ left. fit))
    (two_fit _ _ (mapped_fit (with_pools p) (serve_variable_pools (pool_parts p)) (λ left. fit))
    (two_fit _ _ (devices_fit p _ (acceptances_linked d fit.linked) (devices.acceptances_keep (Leads p.objects.devices) moves d none) fit.tied)
    (two_fit _ _ (devices_fit p _ (endings_linked d fit.linked) (devices.endings_keep (Leads p.objects.devices) moves d none) fit.tied)
    (two_fit _ _ (devices_fit p _ (closes_linked d fit.linked) (devices.closes_keep (Leads p.objects.devices) moves d none) fit.tied)
    (two_fit _ None (devices_fit p _ (suspension_linked d (serve_suspension d) (devices.suspension_keeps AreLinked d fit.linked)) (devices.suspension_keeps (Leads p.objects.devices) d none) fit.tied) tt)))))))))
  where
    suspension_linked : (d : DevParts) (served : Option DevParts) → devices.Kept AreLinked served → KeptLinked served
    suspension_linked d None kept = tt
    suspension_linked d (Some q) kept = kept

served_there : (q : Parts) (served : Option Parts) → served ≡ Some q → IfFit served → AreFit q.objects.devices
served_there q None is fit = absurd (cc is)
served_there q (Some left) is fit = let e : left ≡ q = cc is in subst (λ (it : Parts). AreFit it.objects.devices) e fit

-- ---- endings

arrived_there : (P : Devices → Type 0) (q : DevParts) (found : Option DevParts) → found ≡ Some q → devices.Kept P found → P q.table
arrived_there P q None is kept = absurd (cc is)
arrived_there P q (Some left) is kept = let e : left ≡ q = cc is in subst (λ (it : DevParts). P it.table) e kept

linked_there : (q : DevParts) (found : Option DevParts) → found ≡ Some q → KeptLinked found → AreLinked q.table
linked_there q None is kept = absurd (cc is)
linked_there q (Some left) is kept = let e : left ≡ q = cc is in subst (λ (it : DevParts). AreLinked it.table) e kept

handed_drivers : (mode : Mode) (p : Parts) → HasDrivers p → HasDrivers (handed mode p)
handed_drivers modes.Sync p has = has
handed_drivers modes.Free p has = record {
  few = few_handed modes.Free p has.few;
  fit = record {
    linked = hand_over_linked p.base p.objects.devices has.fit.linked;
    tied = led p.objects.devices _ (devices.hand_over_keeps (Leads p.objects.devices) (leading p.objects.devices) p.base p.objects.devices (no_moves p.objects.devices)) has.fit.tied;
  };
}

same_drivers : (p q : Parts) → q.objects.devices ≡ p.objects.devices → HasDrivers p → HasDrivers q
same_drivers p q same has = record { few = subst (λ (dv : Devices). length dv.links ≤ 9) (sym same) has.few; fit = subst AreFit (sym same) has.fit }

pub drivers_are_kept : IsKept HasDrivers
drivers_are_kept = record {
  few = λ p has. has.few;
  task_calls = λ p who c has. same_drivers p _ refl has;
  sem_flag_calls = λ p who c has. same_drivers p _ refl has;
  mutex_calls = λ p who c has. same_drivers p _ refl has;
  mail_calls = λ p who c has. same_drivers p _ refl has;
  pool_calls = λ p who c has. same_drivers p _ refl has;
  time_calls = λ p c has. same_drivers p _ refl has;
  context_calls = λ p who c has. same_drivers p _ refl has;
  device_calls = λ p who c has. record {
    few = devices.calls_keep (λ dv. length dv.links ≤ 9) few_moves (dev_parts p) who c has.few;
    fit = record {
      linked = calls_linked (dev_parts p) who c has.fit.linked;
      tied = led p.objects.devices _ (devices.calls_keep (Leads p.objects.devices) (leading p.objects.devices) (dev_parts p) who c (no_moves p.objects.devices)) has.fit.tied;
    };
  };
  left = λ p t all has. same_drivers p _ refl has;
  freed = λ p t m is has. same_drivers p _ refl has;
  deleted = λ p t has. same_drivers p _ refl has;
  refreshed = λ p t priority has. same_drivers p _ refl has;
  served = λ p q few is has. record { few = few_served p q few is; fit = served_there q (serve_object p) is (serving_fit p has.fit) };
  handed = handed_drivers;
  handed_first = λ p has. record {
    few = devices.hand_first_keeps (λ dv. length dv.links ≤ 9) few_moves p.objects.devices has.few;
    fit = record {
      linked = hand_first_linked p.objects.devices has.fit.linked;
      tied = led p.objects.devices _ (devices.hand_first_keeps (Leads p.objects.devices) (leading p.objects.devices) p.objects.devices (no_moves p.objects.devices)) has.fit.tied;
    };
  };
  messages = λ p has. record {
    few = emptied_few p.objects.devices has.few;
    fit = record { linked = emptied_linked p.objects.devices has.fit.linked; tied = emptied_tied p.objects.devices has.fit.tied };
  };
  arrived = λ p e q is has. record {
    few = arrived_there (λ dv. length dv.links ≤ 9) q (arrive (dev_parts p) e) is (devices.arrival_keeps (λ dv. length dv.links ≤ 9) few_moves few_arrivals (dev_parts p) e has.few);
    fit = record {
      linked = linked_there q (arrive (dev_parts p) e) is (arrives_linked (dev_parts p) e has.fit.linked);
      tied = led p.objects.devices q.table
          (arrived_there (Leads p.objects.devices) q (arrive (dev_parts p) e) is (devices.arrival_keeps (Leads p.objects.devices) (leading p.objects.devices) (arriving p.objects.devices) (dev_parts p) e (no_moves p.objects.devices))) has.fit.tied;
    };
  };
  released = λ p t answer has. same_drivers p _ refl has;
  again = λ p what has. same_drivers p _ refl has;
  taken = λ p has. same_drivers p _ refl has;
  advanced = λ p has. same_drivers p _ refl has;
  flagged = λ p flags has. same_drivers p _ refl has;
  turned = λ p cur has. same_drivers p _ refl has;
  emptied = λ p has. same_drivers p _ refl has;
  written = λ p memory has. same_drivers p _ refl has;
}

pub start_drivers : (script : Script) → IsRunnable script → HasDrivers (parts_of (state_start script))
unfolding state_start
start_drivers script runnable = record { few = (start_slots script runnable).few; fit = record { linked = start_linked script; tied = tied_at_first script } }
