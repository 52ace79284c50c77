-- Messages to drivers that are taken change nothing that the kernel goes by: serving reads the same, nothing more can go to a
-- driver, and a state at rest stays at rest.
use Rattle.std.proofs.Common.{◌≡◌, ℕ, List, [], ◌∷◌, None, refl, ◌∙◌, ap, subst}
use Rattle.tk_types.specs.declared.run.Mode.{Mode}
use Rattle.tk_types.specs.declared.run.Mode.TheVariants as modes
use Rattle.kernel_model.specs.Tasks.Base.{Base, fifo_queue}
use Rattle.device_model.specs.Devices.Tables.{Devices, device_ids, first_queued}
use Rattle.device_model.specs.Devices.Handing.{emptied, hand_over, handed_all, handed_unless, link_emptied, messages, suspension_object}
use Rattle.machine_model.specs.States.Objects.{Parts, serve_object}
use Rattle.machine_model.specs.States.State.{State, parts_of, taken}
use Rattle.machine_model.specs.Events.Rest.{IsAtRest}
use Rattle.machine_model.specs.Events.Settle.{handed}
use Rattle.device_lemmas.proofs.Emptied.{emptied_any, emptied_at, emptied_driver, emptied_ids, emptied_none, emptied_out}
use Rattle.machine_lemmas.proofs.HandedTwice.{AllStay, Stays, absent, all_same, all_stay, busy, empty}
use Rattle.machine_lemmas.proofs.HandingServes.{AsReady, ready_unserved}

-- ---- what of the devices stays

-- all but the links
pub record IsTaken (dv now : Devices) : Type 0 where
  pub buffers : now.buffers ≡ dv.buffers
  pub off : now.off ≡ dv.off
  pub opened : now.opened ≡ dv.opened
  pub rows : now.rows ≡ dv.rows
  pub queued : now.queued ≡ dv.queued
  pub ended : now.ended ≡ dv.ended
  pub serial : now.serial ≡ dv.serial
  pub wishes : now.wishes ≡ dv.wishes

pub emptied_beside : (dv : Devices) → IsTaken dv (emptied dv)
unfolding emptied
emptied_beside dv = record { buffers = refl; off = refl; opened = refl; rows = refl; queued = refl; ended = refl; serial = refl; wishes = refl }

-- ---- serving

-- serving reads the same
pub emptied_ready : (dv : Devices) → AsReady dv (emptied dv)
unfolding emptied
emptied_ready dv = record {
  ids = emptied_ids dv;
  unfinished = λ d. refl;
  wishes = refl;
  opened = refl;
  ended = refl;
  has_ended = λ dd id. refl;
  has_ended_by = λ dd serial id. refl;
  descriptor = λ dd id. refl;
  given = λ d id is. emptied_driver dv d ∙ is;
  any_given = λ is. emptied_any dv ∙ is;
}

-- where nobody can be served, nobody can be once messages are taken
pub emptied_unserved : (p : Parts) → serve_object p ≡ None → serve_object (record p { objects = record p.objects { devices = emptied p.objects.devices } }) ≡ None
emptied_unserved p is = ready_unserved p (emptied p.objects.devices) (emptied_ready p.objects.devices) is

-- ---- requests that go to drivers

emptied_stays : (dv : Devices) (d : ℕ) → Stays dv d → Stays (emptied dv) d
unfolding emptied first_queued
emptied_stays dv d (absent none) = absent (emptied_at dv d ∙ ap link_emptied none)
emptied_stays dv d (busy link given at has) = busy (record link { out = [] }) given (emptied_at dv d ∙ ap link_emptied at) has
emptied_stays dv d (empty none) = empty none

all_emptied : (ids : List ℕ) (dv : Devices) → AllStay dv ids → AllStay (emptied dv) ids
unfolding AllStay
all_emptied [] dv all = tt
all_emptied (d ∷ ids) dv all = (emptied_stays dv d all.0, all_emptied ids dv all.1)

unless_emptied : (waiters : List ℕ) (dv : Devices) → handed_unless waiters dv ≡ dv → handed_unless waiters (emptied dv) ≡ emptied dv
unless_emptied [] dv same =
    let all : AllStay dv (device_ids dv) = subst (λ (now : Devices). AllStay now (device_ids dv)) same (all_stay (device_ids dv) dv) in
    ap (λ ids. handed_all ids (emptied dv)) (emptied_ids dv) ∙ all_same (device_ids dv) (emptied dv) (all_emptied (device_ids dv) dv all)
unless_emptied (t ∷ ts) dv same = refl

over_emptied : (b : Base) (dv : Devices) → hand_over b dv ≡ dv → hand_over b (emptied dv) ≡ emptied dv
unfolding hand_over
over_emptied b dv same = unless_emptied (fifo_queue b suspension_object) dv same

-- where no request can go to a driver, none can once messages are taken
pub emptied_handed : (mode : Mode) (p : Parts) → handed mode p ≡ p →
    handed mode (record p { objects = record p.objects { devices = emptied p.objects.devices } }) ≡ record p { objects = record p.objects { devices = emptied p.objects.devices } }
emptied_handed modes.Sync p is = refl
emptied_handed modes.Free p is =
    ap (λ (now : Devices). record p { objects = record p.objects { devices = now } }) (over_emptied p.base p.objects.devices (ap (λ (q : Parts). q.objects.devices) is))

-- ---- states

-- a state at rest stays so once the messages to drivers are taken
pub taken_rest : (mode : Mode) (st : State) → IsAtRest mode st → IsAtRest mode (taken st)
taken_rest mode st rest = record {
  unserved = emptied_unserved (parts_of st) rest.unserved;
  up_to_date = record { each = rest.up_to_date.each };
  given = emptied_handed mode (parts_of st) rest.given;
  followed = rest.followed;
  dispatched = rest.dispatched;
}

-- where no message waits to be taken the state is the same
pub taken_none : (st : State) → messages st.objects.devices ≡ [] → taken st ≡ st
taken_none st none = ap (λ (now : Devices). record st { objects = record st.objects { devices = now } }) (emptied_none st.objects.devices none)

-- so it is where they were taken just before
pub taken_twice : (st : State) → taken (taken st) ≡ taken st
taken_twice st = taken_none (taken st) (emptied_out st.objects.devices)
