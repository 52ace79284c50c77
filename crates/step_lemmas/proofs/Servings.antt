-- Settling, one serving after another.
use Rattle.std.proofs.Common.{◌≡◌, ℕ, zero, suc, ◌+◌, ◌-◌, ◌<◌, ◌≤◌, Bool, true, false, List, [], ◌∷◌, Option, Some, None, refl, sym, ◌∙◌, ap, subst, arith}
use Rattle.std.specs.Prelude.{unwrap_or}
use Rattle.std.specs.Option.{is_some, option_map}
use Rattle.tk_types.specs.declared.run.Mode.{Mode}
use Rattle.tk_types.specs.declared.run.Mode.TheVariants as modes
use Rattle.kernel_model.specs.Tasks.Base.{Base}
use Rattle.kernel_model.specs.Tasks.Waits.{HavePlaces}
use Rattle.kernel_model.specs.SemFlags.Tables.{SemFlagParts, SemFlags, serve_sem_flag}
use Rattle.object_model.specs.Mutexes.Tables.{MutexParts, Mutexes, serve_mutexes}
use Rattle.object_model.specs.Mails.Tables.{MailParts, Mails}
use Rattle.object_model.specs.Mails.Boxes.{serve_mailboxes}
use Rattle.object_model.specs.Mails.Buffers.{serve_buffers}
use Rattle.object_model.specs.Pools.Tables.{PoolParts, Pools}
use Rattle.object_model.specs.Pools.Fixed.{serve_fixed_pools}
use Rattle.object_model.specs.Pools.Variable.{serve_variable_pools}
use Rattle.device_model.specs.Devices.Tables.{Devices}
use Rattle.device_model.specs.Devices.Endings.{DevParts}
use Rattle.device_model.specs.Devices.Handing.{hand_over}
use Rattle.machine_model.specs.States.Objects.{Parts, first_serving, serve_object, with_devices, with_mails, with_mutexes, with_pools, with_sem_flags}
use Rattle.machine_model.specs.States.State.{State, parts_of, with_parts}
use Rattle.machine_model.specs.Events.Settle.{handed, refreshed, served_within}
use Rattle.machine_lemmas.proofs.Settling.{next_served, refreshed_keeps}
use Rattle.ask_lemmas.proofs.ReachedAsked.{HasAsked, asks_are_kept}
use Rattle.step_lemmas.specs.Known.{HasDevices}
use Rattle.step_lemmas.specs.Sound.{IsSound, IsWhole}
use Rattle.step_lemmas.specs.Handed.{handed_devices}
use Rattle.step_lemmas.specs.Kinds.{Serves, acceptances, at_devices, behind_boxes, behind_buffers, buffers, closes, endings, fixed_pools, mailboxes, mutexes, of_devices, sem_flags, served_by, suspension, variable_pools}
use Rattle.step_lemmas.proofs.Sound.{asked_of, sound_of}

-- ---- a family's serving is one of the state

mapped_is : {A B : Type 0} → (f : A → B) (x : Option A) → is_some (option_map f x) ≡ is_some x
mapped_is f None = refl
mapped_is f (Some y) = refl

mapped_left : {A B : Type 0} → (f : A → B) (x : Option A) (q now : A) → now ≡ unwrap_or x q → f now ≡ unwrap_or (option_map f x) (f q)
mapped_left f None q now left = ap f left
mapped_left f (Some y) q now left = ap f left

-- what a family serves of its parts is what the kind serves of all parts, where the parts of the code are those of the state
family_serves : {A : Type 0} → (kind : Parts → Option Parts) (view st : State) (f : A → Parts) (found : Option A) (q now : A) (some : Bool) → kind (parts_of view) ≡ option_map f found → f q ≡ parts_of view → view ≡ st →
    some ≡ is_some found → now ≡ unwrap_or found q → Serves kind st (with_parts view (f now)) some
family_serves kind view st f found q now some is whole same served left =
    subst (λ (s : State). Serves kind s (with_parts view (f now)) some) same (record {
      served = served ∙ sym (mapped_is f found) ∙ sym (ap is_some is);
      left = ap (with_parts view) (mapped_left f found q now left ∙ ap (unwrap_or (option_map f found)) whole ∙ sym (ap (λ (p : Option Parts). unwrap_or p (parts_of view)) is));
    })

abbrev sem_flag_parts : Base → SemFlags → SemFlagParts
sem_flag_parts b s = record { base = b; table = s }

abbrev mutex_parts : Base → Mutexes → MutexParts
mutex_parts b m = record { base = b; table = m }

abbrev mails_beside : Base → Mails → List ℕ → MailParts
mails_beside b m memory = record { base = b; table = m; memory = memory }

abbrev pools_beside : Base → Pools → PoolParts
pools_beside b m = record { base = b; table = m }

pub sem_flags_serve : (view st : State) (b : Base) (s : SemFlags) (some : Bool) → view ≡ st → some ≡ is_some (serve_sem_flag view.base view.objects.sem_flags) →
    sem_flag_parts b s ≡ unwrap_or (serve_sem_flag view.base view.objects.sem_flags) (sem_flag_parts view.base view.objects.sem_flags) →
    Serves sem_flags st (record view { base = b; objects = record view.objects { sem_flags = s } }) some
sem_flags_serve view st b s some same served left =
    family_serves sem_flags view st (with_sem_flags (parts_of view)) (serve_sem_flag view.base view.objects.sem_flags) (sem_flag_parts view.base view.objects.sem_flags) (sem_flag_parts b s) some refl refl same served left

pub mutexes_serve : (view st : State) (b : Base) (m : Mutexes) (some : Bool) → view ≡ st → some ≡ is_some (serve_mutexes view.base view.objects.mutexes) →
    mutex_parts b m ≡ unwrap_or (serve_mutexes view.base view.objects.mutexes) (mutex_parts view.base view.objects.mutexes) →
    Serves mutexes st (record view { base = b; objects = record view.objects { mutexes = m } }) some
mutexes_serve view st b m some same served left =
    family_serves mutexes view st (with_mutexes (parts_of view)) (serve_mutexes view.base view.objects.mutexes) (mutex_parts view.base view.objects.mutexes) (mutex_parts b m) some refl refl same served left

pub mailboxes_serve : (view st : State) (b : Base) (m : Mails) (some : Bool) → view ≡ st → some ≡ is_some (serve_mailboxes (mails_beside view.base view.objects.mails view.memory)) →
    mails_beside b m view.memory ≡ unwrap_or (serve_mailboxes (mails_beside view.base view.objects.mails view.memory)) (mails_beside view.base view.objects.mails view.memory) →
    Serves mailboxes st (record view { base = b; objects = record view.objects { mails = m } }) some
mailboxes_serve view st b m some same served left =
    let before : MailParts = mails_beside view.base view.objects.mails view.memory in
    family_serves mailboxes view st (with_mails (parts_of view)) (serve_mailboxes before) before (mails_beside b m view.memory) some refl refl same served left

pub buffers_serve : (view st : State) (b : Base) (m : Mails) (memory : List ℕ) (some : Bool) → view ≡ st → some ≡ is_some (serve_buffers (mails_beside view.base view.objects.mails view.memory)) →
    mails_beside b m memory ≡ unwrap_or (serve_buffers (mails_beside view.base view.objects.mails view.memory)) (mails_beside view.base view.objects.mails view.memory) →
    Serves buffers st (record view { base = b; objects = record view.objects { mails = m }; memory = memory }) some
buffers_serve view st b m memory some same served left =
    let before : MailParts = mails_beside view.base view.objects.mails view.memory in
    family_serves buffers view st (with_mails (parts_of view)) (serve_buffers before) before (mails_beside b m memory) some refl refl same served left

pub fixed_serve : (view st : State) (b : Base) (m : Pools) (some : Bool) → view ≡ st → some ≡ is_some (serve_fixed_pools (pools_beside view.base view.objects.pools)) →
    pools_beside b m ≡ unwrap_or (serve_fixed_pools (pools_beside view.base view.objects.pools)) (pools_beside view.base view.objects.pools) →
    Serves fixed_pools st (record view { base = b; objects = record view.objects { pools = m } }) some
fixed_serve view st b m some same served left =
    let before : PoolParts = pools_beside view.base view.objects.pools in
    family_serves fixed_pools view st (with_pools (parts_of view)) (serve_fixed_pools before) before (pools_beside b m) some refl refl same served left

pub variable_serve : (view st : State) (b : Base) (m : Pools) (some : Bool) → view ≡ st → some ≡ is_some (serve_variable_pools (pools_beside view.base view.objects.pools)) →
    pools_beside b m ≡ unwrap_or (serve_variable_pools (pools_beside view.base view.objects.pools)) (pools_beside view.base view.objects.pools) →
    Serves variable_pools st (record view { base = b; objects = record view.objects { pools = m } }) some
variable_serve view st b m some same served left =
    let before : PoolParts = pools_beside view.base view.objects.pools in
    family_serves variable_pools view st (with_pools (parts_of view)) (serve_variable_pools before) before (pools_beside b m) some refl refl same served left

abbrev devices_beside : Base → Devices → Mails → List ℕ → DevParts
devices_beside b dv m memory = record { base = b; table = dv; mails = m; memory = memory }

-- the same of a kind of waits at devices
pub devices_serve : (serve : DevParts → Option DevParts) (view st : State) (b : Base) (dv : Devices) (m : Mails) (memory : List ℕ) (some : Bool) → view ≡ st →
    some ≡ is_some (serve (devices_beside view.base view.objects.devices view.objects.mails view.memory)) →
    devices_beside b dv m memory ≡ unwrap_or (serve (devices_beside view.base view.objects.devices view.objects.mails view.memory)) (devices_beside view.base view.objects.devices view.objects.mails view.memory) →
    Serves (of_devices serve) st (record view { base = b; objects = record view.objects { mails = m; devices = dv }; memory = memory }) some
devices_serve serve view st b dv m memory some same served left =
    let before : DevParts = devices_beside view.base view.objects.devices view.objects.mails view.memory in
    family_serves (of_devices serve) view st (with_devices (parts_of view)) (serve before) before (devices_beside b dv m memory) some refl refl same served left

-- ---- the kinds one after another

left_none : (kind : Parts → Option Parts) (old : State) (found : Option Parts) → is_some found ≡ false → with_parts old (unwrap_or found (parts_of old)) ≡ old
left_none kind old None none = refl
left_none kind old (Some p) none = absurd (cc none)

-- a kind that serves nobody changes nothing
unchanged : (kind : Parts → Option Parts) (old now : State) → Serves kind old now false → now ≡ old
unchanged kind old now it = it.left ∙ left_none kind old (kind (parts_of old)) (sym it.served)

-- so what calls and servings ask still holds
pub still_sound : (kind : Parts → Option Parts) (old now : State) (some : Bool) → Serves kind old now some → some ≡ false → IsSound old.base old.objects → IsSound now.base now.objects
still_sound kind old now some it none sound = subst (λ (s : State). IsSound s.base s.objects) (sym (unchanged kind old now (subst (λ (r : Bool). Serves kind old now r) none it))) sound

first_here : (kind : Parts → Option Parts) (later : List (Parts → Option Parts)) (p : Parts) (found : Option Parts) → kind p ≡ found → is_some found ≡ true → first_serving (kind ∷ later) p ≡ found
unfolding first_serving
first_here kind later p None is some = absurd (cc some)
first_here kind later p (Some q) is some = rw is refl

first_later : (kind : Parts → Option Parts) (later : List (Parts → Option Parts)) (p : Parts) (found : Option Parts) → kind p ≡ found → is_some found ≡ false → first_serving (kind ∷ later) p ≡ first_serving later p
unfolding first_serving
first_later kind later p None is none = rw is refl
first_later kind later p (Some q) is none = absurd (cc none)

-- a kind serves one, and so does it with those behind it
pub serves_here : (kind : Parts → Option Parts) (later : List (Parts → Option Parts)) (old now : State) (some : Bool) → Serves kind old now some → some ≡ true → Serves (first_serving (kind ∷ later)) old now true
serves_here kind later old now some it one =
    let same = first_here kind later (parts_of old) (kind (parts_of old)) refl (sym it.served ∙ one) in
    record { served = sym one ∙ it.served ∙ sym (ap is_some same); left = it.left ∙ sym (ap (λ found. with_parts old (unwrap_or found (parts_of old))) same) }

-- it serves none, and what comes behind it decides
pub serves_later : (kind : Parts → Option Parts) (later : List (Parts → Option Parts)) (old mid now : State) (none some : Bool) → Serves kind old mid none → none ≡ false → Serves (first_serving later) mid now some → Serves (first_serving (kind ∷ later)) old now some
serves_later kind later old mid now none some it not rest =
    let same = first_later kind later (parts_of old) (kind (parts_of old)) refl (sym it.served ∙ not) in
    let first : Serves kind old mid false = subst (λ (r : Bool). Serves kind old mid r) not it in
    let here : Serves (first_serving later) old now some = subst (λ (st : State). Serves (first_serving later) st now some) (unchanged kind old mid first) rest in
    record { served = here.served ∙ sym (ap is_some same); left = here.left ∙ sym (ap (λ found. with_parts old (unwrap_or found (parts_of old))) same) }

only_last : (found : Option Parts) → (elim found as (λ _. Option Parts) [ Some served ↦ Some served | None ↦ None ]) ≡ found
only_last None = refl
only_last (Some q) = refl

last_kind : (kind : Parts → Option Parts) (p : Parts) → first_serving (kind ∷ []) p ≡ kind p
unfolding first_serving
last_kind kind p = only_last (kind p)

serves_as : (kind other : Parts → Option Parts) (old now : State) (some : Bool) → other (parts_of old) ≡ kind (parts_of old) → Serves kind old now some → Serves other old now some
serves_as kind other old now some same it = record { served = it.served ∙ sym (ap is_some same); left = it.left ∙ sym (ap (λ found. with_parts old (unwrap_or found (parts_of old))) same) }

-- an acceptance is served, or else an ending, or else a close, or else the suspension, in the form of the code
pub acceptance_first : (old now : State) (some : Bool) → Serves acceptances old now some → some ≡ true → Serves (first_serving at_devices) old now true
acceptance_first old now some it one = serves_here acceptances _ old now some it one

pub ending_then : (old mid now : State) (none some : Bool) → Serves acceptances old mid none → none ≡ false → Serves endings mid now some → some ≡ true → Serves (first_serving at_devices) old now true
ending_then old mid now none some first not it one =
    serves_later acceptances _ old mid now none true first not (serves_here endings (closes ∷ suspension ∷ []) mid now some it one)

pub close_then : (old mid next now : State) (none nor some : Bool) → Serves acceptances old mid none → none ≡ false → Serves endings mid next nor → nor ≡ false → Serves closes next now some → some ≡ true → Serves (first_serving at_devices) old now true
close_then old mid next now none nor some first not second neither it one =
    serves_later acceptances _ old mid now none true first not
    (serves_later endings (closes ∷ suspension ∷ []) mid next now nor true second neither (serves_here closes (suspension ∷ []) next now some it one))

pub suspension_last : (old mid next last now : State) (none nor neither_one some : Bool) → Serves acceptances old mid none → none ≡ false → Serves endings mid next nor → nor ≡ false → Serves closes next last neither_one → neither_one ≡ false →
    Serves suspension last now some → Serves (first_serving at_devices) old now some
suspension_last old mid next last now none nor neither_one some first not second neither third never it =
    serves_later acceptances _ old mid now none some first not
    (serves_later endings (closes ∷ suspension ∷ []) mid next now nor some second neither
    (serves_later closes (suspension ∷ []) next last now neither_one some third never (serves_as suspension (first_serving (suspension ∷ [])) last now some (last_kind suspension (parts_of last)) it)))

-- a fixed pool serves, or else a variable one, or else a kind of waits at devices
pub fixed_first : (old now : State) (some : Bool) → Serves fixed_pools old now some → some ≡ true → Serves (first_serving behind_buffers) old now true
fixed_first old now some it one = serves_here fixed_pools _ old now some it one

pub variable_then : (old mid now : State) (none some : Bool) → Serves fixed_pools old mid none → none ≡ false → Serves variable_pools mid now some → some ≡ true → Serves (first_serving behind_buffers) old now true
variable_then old mid now none some first not it one = serves_later fixed_pools _ old mid now none true first not (serves_here variable_pools at_devices mid now some it one)

pub device_last : (old mid next now : State) (none nor some : Bool) → Serves fixed_pools old mid none → none ≡ false → Serves variable_pools mid next nor → nor ≡ false → Serves (first_serving at_devices) next now some → Serves (first_serving behind_buffers) old now some
device_last old mid next now none nor some first not second neither it =
    serves_later fixed_pools _ old mid now none some first not (serves_later variable_pools at_devices mid next now nor some second neither it)

-- a mutex serves, or else a message buffer, or else what is behind them
pub mutex_first : (old now : State) (some : Bool) → Serves mutexes old now some → some ≡ true → Serves (first_serving behind_boxes) old now true
mutex_first old now some it one = serves_here mutexes _ old now some it one

pub buffer_then : (old mid now : State) (none some : Bool) → Serves mutexes old mid none → none ≡ false → Serves buffers mid now some → some ≡ true → Serves (first_serving behind_boxes) old now true
buffer_then old mid now none some first not it one = serves_later mutexes _ old mid now none true first not (serves_here buffers behind_buffers mid now some it one)

pub pool_last : (old mid next now : State) (none nor some : Bool) → Serves mutexes old mid none → none ≡ false → Serves buffers mid next nor → nor ≡ false → Serves (first_serving behind_buffers) next now some → Serves (first_serving behind_boxes) old now some
pool_last old mid next now none nor some first not second neither it =
    serves_later mutexes _ old mid now none some first not (serves_later buffers behind_buffers mid next now nor some second neither it)

-- a semaphore or an event flag serves, or else a mailbox, or else what is behind them
of_all : (old now : State) (some : Bool) → Serves (first_serving (sem_flags ∷ mailboxes ∷ behind_boxes)) old now some → Serves serve_object old now some
unfolding serve_object
of_all old now some it = record { served = it.served; left = it.left }

pub sem_flag_first : (old now : State) (some : Bool) → Serves sem_flags old now some → some ≡ true → Serves serve_object old now true
sem_flag_first old now some it one = of_all old now true (serves_here sem_flags _ old now some it one)

pub mailbox_then : (old mid now : State) (none some : Bool) → Serves sem_flags old mid none → none ≡ false → Serves mailboxes mid now some → some ≡ true → Serves serve_object old now true
mailbox_then old mid now none some first not it one = of_all old now true (serves_later sem_flags _ old mid now none true first not (serves_here mailboxes behind_boxes mid now some it one))

pub mutex_last : (old mid next now : State) (none nor some : Bool) → Serves sem_flags old mid none → none ≡ false → Serves mailboxes mid next nor → nor ≡ false → Serves (first_serving behind_boxes) next now some → Serves serve_object old now some
mutex_last old mid next now none nor some first not second neither it =
    of_all old now some (serves_later sem_flags _ old mid now none some first not (serves_later mailboxes behind_boxes mid next now nor some second neither it))

-- ---- the order of all queues through servings

asked_of_next : (p : Parts) (next : Option Parts) → serve_object p ≡ next → HasAsked p → HasAsked (unwrap_or next p)
asked_of_next p None is has = has
asked_of_next p (Some q) is has = asks_are_kept.served p q (has.orders.places.few) is has

-- each task that waits still stands in its order
pub served_sound : (st now : State) → HavePlaces st.base → IsWhole st → HasDevices st → IsSound st.base st.objects → now ≡ served_by serve_object st → IsSound now.base now.objects
served_sound st now places whole none all same =
    let has = asked_of_next (parts_of st) (serve_object (parts_of st)) refl (asked_of st places whole none all) in
    subst (λ (st : State). IsSound st.base st.objects) (sym same) (sound_of _ has)

pub refreshed_sound : (st now : State) → HavePlaces st.base → IsWhole st → HasDevices st → IsSound st.base st.objects → now ≡ with_parts st (refreshed (parts_of st)) → IsSound now.base now.objects
refreshed_sound st now places whole none all same =
    let has = refreshed_keeps HasAsked asks_are_kept.refreshed (parts_of st) (asked_of st places whole none all) in
    subst (λ (st : State). IsSound st.base st.objects) (sym same) (sound_of _ has)

-- ---- one after another

more_of : (left : ℕ) (p : Parts) (next : Option Parts) → serve_object p ≡ next → is_some next ≡ true → served_within (suc left) p ≡ served_within left (refreshed (unwrap_or next p))
unfolding served_within
more_of left p None is some = absurd (cc some)
more_of left p (Some served) is some = ap (next_served left p) is

-- one waiter more is served
pub served_more : (done : ℕ) (st now after : State) (all : Parts) → done < 512 → is_some (serve_object (parts_of st)) ≡ true → now ≡ served_by serve_object st → after ≡ with_parts now (refreshed (parts_of now)) →
    served_within (512 - done) (parts_of st) ≡ all → served_within (512 - (done + 1)) (parts_of after) ≡ all
served_more done st now after all below some same refresh left =
    let one : 512 - done ≡ suc (512 - (done + 1)) = omega arith in
    ap (λ (s : State). served_within (512 - (done + 1)) (parts_of s)) refresh
    ∙ ap (λ (s : State). served_within (512 - (done + 1)) (refreshed (parts_of s))) same
    ∙ sym (more_of (512 - (done + 1)) (parts_of st) (serve_object (parts_of st)) refl some)
    ∙ ap (λ n. served_within n (parts_of st)) (sym one)
    ∙ left

over_of : (left : ℕ) (p : Parts) (next : Option Parts) → serve_object p ≡ next → is_some next ≡ false → served_within left p ≡ unwrap_or next p
unfolding served_within
over_of zero p None is none = refl
over_of (suc left) p None is none = ap (next_served left p) is
over_of left p (Some served) is none = absurd (cc none)

-- none can be served any more
pub served_over : (left : ℕ) (st now : State) (all : Parts) → is_some (serve_object (parts_of st)) ≡ false → now ≡ served_by serve_object st → served_within left (parts_of st) ≡ all → now ≡ with_parts st all
served_over left st now all none same rest = same ∙ ap (with_parts st) (sym (over_of left (parts_of st) (serve_object (parts_of st)) refl none) ∙ rest)

-- so many were served
pub served_spent : (done : ℕ) (p all : Parts) → 512 ≤ done → served_within (512 - done) p ≡ all → p ≡ all
unfolding served_within
served_spent done p all spent rest = let none : 512 - done ≡ 0 = omega arith in sym (ap (λ n. served_within n p) none) ∙ rest

-- ---- requests go to drivers

pub handed_is : (mode : Mode) (view st : State) (dv : Devices) → view ≡ st → dv ≡ handed_devices mode view.base view.objects.devices →
    record view { objects = record view.objects { devices = dv } } ≡ with_parts st (handed mode (parts_of st))
handed_is modes.Sync view st dv same is = ap {A = Devices} (λ (d : Devices). record view { objects = record view.objects { devices = d } }) is ∙ same
handed_is modes.Free view st dv same is =
    ap {A = Devices} (λ (d : Devices). record view { objects = record view.objects { devices = d } }) is
    ∙ ap (λ (s : State). record s { objects = record s.objects { devices = hand_over s.base s.objects.devices } }) same

-- what changes the parts alone leaves the rest
pub same_parts : (first st now : State) (p : Parts) → st ≡ with_parts first (parts_of st) → now ≡ with_parts st p → now ≡ with_parts first (parts_of now)
same_parts first st now p same moved =
    moved ∙ ap (λ (s : State). with_parts s p) same ∙ ap (with_parts first) (sym (ap {A = State} (λ s. parts_of s) moved))

-- and so what it comes to is that of the first state
pub with_same : (first st now : State) (all : Parts) → st ≡ with_parts first (parts_of st) → now ≡ with_parts st all → now ≡ with_parts first all
with_same first st now all same comes = comes ∙ ap (λ (s : State). with_parts s all) same
