-- Nobody can be served who couldn't before, where only the current task and the record of the waits that ended have changed:
-- servings read neither.
use Rattle.std.proofs.Common.{◌≡◌, ℕ, zero, suc, Bool, true, false, cond, List, [], ◌∷◌, Option, Some, None, refl, ◌∙◌, ap}
use Rattle.std.specs.Prelude.{drop}
use Rattle.std.specs.Bool.{◌==◌}
use Rattle.std.specs.List.{find}
use Rattle.tk_types.specs.declared.task.Order.{Order}
use Rattle.tk_types.specs.declared.task.Order.TheVariants.{Fifo, Priority}
use Rattle.tk_types.specs.declared.task.Release.{Release}
use Rattle.kernel_model.specs.declared.objects.Semaphore.{Semaphore}
use Rattle.kernel_model.specs.declared.objects.EventFlag.{EventFlag}
use Rattle.kernel_model.specs.Words.Orders.{taken_from}
use Rattle.kernel_model.specs.Tasks.Base.{Base, fifo_queue, queue}
use Rattle.kernel_model.specs.SemFlags.Tables.{SemFlags, SemFlagParts, flag_object, is_fulfilled, is_there, sem_object, sem_pick, sem_at, flag_at, sem_served, flag_served, serve_sem, serve_sem_at, serve_sem_of, serve_flag, serve_flag_at, serve_flag_of, first_served, or_else, serve_sem_flag}
use Rattle.object_model.specs.declared.mails.Message.{Message}
use Rattle.object_model.specs.declared.mutexes.Mutex.{Mutex}
use Rattle.object_model.specs.Mutexes.Tables.{MutexParts, Mutexes, mutex_at, mutex_object, mutex_waiters, serve_mutex, serve_mutex_at, serve_mutex_of, serve_mutexes}
use Rattle.object_model.specs.Mails.Tables.{Mailbox, MessageBuffer, MailParts, box_at, box_object, buffer_at, senders_object, bytes_of}
use Rattle.object_model.specs.Mails.Boxes.{box_serves, box_waiters, serve_box, serve_box_at, serve_mailboxes}
use Rattle.object_model.specs.Mails.Buffers.{buffer_serves, first_of, has_space, receivers, senders, serve_buffer, serve_buffer_at, serve_buffers}
use Rattle.object_model.specs.Pools.Tables.{FixedPool, VariablePool, PoolParts, fixed_at, fixed_object, size_of, variable_at, variable_object}
use Rattle.object_model.specs.Pools.Fixed.{fixed_serves, fixed_waiters, free_block, serve_fixed, serve_fixed_at, serve_fixed_pools}
use Rattle.object_model.specs.Pools.Variable.{block_given, place_in, serve_variable, serve_variable_at, serve_variable_pools, variable_serves, variable_waiters}
use Rattle.device_model.specs.Devices.Tables.{device_ids, wish_of}
use Rattle.device_model.specs.Devices.Handing.{any_given, suspension_object}
use Rattle.device_model.specs.Devices.Endings.{DevParts, close_object}
use Rattle.device_model.specs.Devices.Requests.{acceptance_object, has_place, picked}
use Rattle.device_model.specs.Devices.Servings.{acceptance_by, close_by, closed_unless, ending_of_first, is_with_driver, serve_acceptance, serve_acceptances, serve_close, serve_closes, serve_ending, serve_endings, serve_suspension, suspended_unless, suspension_by}
use Rattle.machine_model.specs.States.Objects.{Parts, dev_parts, kinds, mail_parts, pool_parts, serve_object}
use Rattle.machine_lemmas.proofs.HandingServes.{AllKinds, claimed_none, each_kind, first_none_by, mapped_none, no_kind, place_none, unmapped}

-- a base with another current task, and with other waits that ended
abbrev pub turned_to : Base → Option ℕ → List Release → Base
turned_to b cur released = record b { cur = cur; released = released }

queue_same : (order : Order) (b : Base) (cur : Option ℕ) (r : List Release) (object : ℕ) → queue order (turned_to b cur r) object ≡ queue order b object
queue_same Fifo b cur r object = refl
queue_same Priority b cur r object = refl

-- ---- semaphores and event flags

sem_of : (b : Base) (cur : Option ℕ) (r : List Release) (s : SemFlags) (id : ℕ) (k : Semaphore) (found : Option ℕ) → serve_sem_of b s id k found ≡ None → serve_sem_of (turned_to b cur r) s id k found ≡ None
sem_of b cur r s id k None is = refl
sem_of b cur r s id k (Some t) is = absurd (cc is)

sem_in : (b : Base) (cur : Option ℕ) (r : List Release) (s : SemFlags) (id : ℕ) (slot : Option Semaphore) → serve_sem_at b s id slot ≡ None → serve_sem_at (turned_to b cur r) s id slot ≡ None
sem_in b cur r s id None is = refl
sem_in b cur r s id (Some k) is =
    ap (λ waiters. serve_sem_of (turned_to b cur r) s id k (sem_pick k.any_place (is_there s k) waiters)) (queue_same k.order b cur r (sem_object id))
    ∙ sem_of b cur r s id k (sem_served s k b id) is

flag_of : (b : Base) (cur : Option ℕ) (r : List Release) (s : SemFlags) (id : ℕ) (k : EventFlag) (found : Option ℕ) → serve_flag_of b s id k found ≡ None → serve_flag_of (turned_to b cur r) s id k found ≡ None
flag_of b cur r s id k None is = refl
flag_of b cur r s id k (Some t) is = absurd (cc is)

flag_in : (b : Base) (cur : Option ℕ) (r : List Release) (s : SemFlags) (id : ℕ) (slot : Option EventFlag) → serve_flag_at b s id slot ≡ None → serve_flag_at (turned_to b cur r) s id slot ≡ None
flag_in b cur r s id None is = refl
flag_in b cur r s id (Some k) is =
    ap (λ waiters. serve_flag_of (turned_to b cur r) s id k (find (is_fulfilled s k) waiters)) (queue_same k.order b cur r (flag_object id))
    ∙ flag_of b cur r s id k (flag_served s k b id) is

none_of_two : (here later : Option SemFlagParts) → or_else here later ≡ None → (here ≡ None) × (later ≡ None)
none_of_two None later is = (refl, is)
none_of_two (Some found) later is = absurd (cc is)

first_none : (serve other : ℕ → Option SemFlagParts) (ids : List ℕ) → ((id : ℕ) → serve id ≡ None → other id ≡ None) → first_served serve ids ≡ None → first_served other ids ≡ None
unfolding first_served
first_none serve other [] by is = refl
first_none serve other (id ∷ ids) by is =
    let both = none_of_two (serve id) (first_served serve ids) is in
    ap (λ here. or_else here (first_served other ids)) (by id both.0) ∙ first_none serve other ids by both.1

sem_flags_none : (b : Base) (cur : Option ℕ) (r : List Release) (s : SemFlags) → serve_sem_flag b s ≡ None → serve_sem_flag (turned_to b cur r) s ≡ None
unfolding serve_sem_flag serve_sem serve_flag
sem_flags_none b cur r s is =
    let both = none_of_two (first_served (serve_sem b s) (taken_from 1 (drop 1 s.sems))) (first_served (serve_flag b s) (taken_from 1 (drop 1 s.flags))) is in
    let sems : first_served (serve_sem (turned_to b cur r) s) (taken_from 1 (drop 1 s.sems)) ≡ None = first_none (serve_sem b s) (serve_sem (turned_to b cur r) s) (taken_from 1 (drop 1 s.sems)) (λ id none. sem_in b cur r s id (sem_at s id) none) both.0 in
    let flags : first_served (serve_flag (turned_to b cur r) s) (taken_from 1 (drop 1 s.flags)) ≡ None = first_none (serve_flag b s) (serve_flag (turned_to b cur r) s) (taken_from 1 (drop 1 s.flags)) (λ id none. flag_in b cur r s id (flag_at s id) none) both.1 in
    ap (λ here. or_else here (first_served (serve_flag (turned_to b cur r) s) (taken_from 1 (drop 1 s.flags)))) sems ∙ flags

-- ---- mutexes

mutex_of : (b : Base) (cur : Option ℕ) (r : List Release) (m : Mutexes) (id : ℕ) (k : Mutex) (waiters : List ℕ) → serve_mutex_of b m id k waiters ≡ None → serve_mutex_of (turned_to b cur r) m id k waiters ≡ None
mutex_of b cur r m id k [] is = refl
mutex_of b cur r m id k (t ∷ rest) is = absurd (cc is)

free_if : (free : Bool) (one other : Option MutexParts) → (one ≡ None → other ≡ None) → cond free one None ≡ None → cond free other None ≡ None
free_if true one other by is = by is
free_if false one other by is = refl

mutex_in : (b : Base) (cur : Option ℕ) (r : List Release) (m : Mutexes) (id : ℕ) (slot : Option Mutex) → serve_mutex_at b m id slot ≡ None → serve_mutex_at (turned_to b cur r) m id slot ≡ None
mutex_in b cur r m id None is = refl
mutex_in b cur r m id (Some k) is =
    ap (λ waiters. cond (k.owner == 0) (serve_mutex_of (turned_to b cur r) m id k waiters) None) (queue_same k.order b cur r (mutex_object id))
    ∙ free_if (k.owner == 0) (serve_mutex_of b m id k (mutex_waiters b k id)) (serve_mutex_of (turned_to b cur r) m id k (mutex_waiters b k id)) (mutex_of b cur r m id k (mutex_waiters b k id)) is

mutexes_none : (b : Base) (cur : Option ℕ) (r : List Release) (m : Mutexes) → serve_mutexes b m ≡ None → serve_mutexes (turned_to b cur r) m ≡ None
unfolding serve_mutexes serve_mutex
mutexes_none b cur r m is =
    first_none_by (serve_mutex b m) (serve_mutex (turned_to b cur r) m) (taken_from 1 (drop 1 m.table)) (taken_from 1 (drop 1 m.table)) refl (λ id none. mutex_in b cur r m id (mutex_at m id) none) is

-- ---- mailboxes and message buffers

abbrev mails_to : MailParts → Option ℕ → List Release → MailParts
mails_to p cur r = record p { base = turned_to p.base cur r }

box_by : (p : MailParts) (cur : Option ℕ) (r : List Release) (id : ℕ) (k : Mailbox) (waiters : List ℕ) (messages : List Message) → box_serves p id k waiters messages ≡ None → box_serves (mails_to p cur r) id k waiters messages ≡ None
box_by p cur r id k [] messages is = refl
box_by p cur r id k (t ∷ waiters) [] is = refl
box_by p cur r id k (t ∷ waiters) (first ∷ rest) is = absurd (cc is)

box_in : (p : MailParts) (cur : Option ℕ) (r : List Release) (id : ℕ) (slot : Option Mailbox) → serve_box_at p id slot ≡ None → serve_box_at (mails_to p cur r) id slot ≡ None
box_in p cur r id None is = refl
box_in p cur r id (Some k) is = ap (λ waiters. box_serves (mails_to p cur r) id k waiters k.messages) (queue_same k.order p.base cur r (box_object id)) ∙ box_by p cur r id k (box_waiters p.base k id) k.messages is

boxes_none : (p : MailParts) (cur : Option ℕ) (r : List Release) → serve_mailboxes p ≡ None → serve_mailboxes (mails_to p cur r) ≡ None
unfolding serve_mailboxes serve_box
boxes_none p cur r is = first_none_by (serve_box p) (serve_box (mails_to p cur r)) (taken_from 1 (drop 1 p.table.boxes)) (taken_from 1 (drop 1 p.table.boxes)) refl (λ id none. box_in p cur r id (box_at p.table id) none) is

space_if : (fits : Bool) (one other : MailParts) → cond fits (Some one) None ≡ None → cond fits (Some other) None ≡ None
space_if true one other is = absurd (cc is)
space_if false one other is = refl

buffer_by : (p : MailParts) (cur : Option ℕ) (r : List Release) (id : ℕ) (k : MessageBuffer) (receiver sender : Option ℕ) (messages : List (List ℕ)) → buffer_serves p id k receiver sender messages ≡ None → buffer_serves (mails_to p cur r) id k receiver sender messages ≡ None
buffer_by p cur r id k (Some receiver) sender (oldest ∷ later) is = absurd (cc is)
buffer_by p cur r id k (Some receiver) (Some sender) [] is = absurd (cc is)
buffer_by p cur r id k (Some receiver) None [] is = refl
buffer_by p cur r id k None (Some sender) messages is = space_if (has_space k (bytes_of p.table sender)) _ _ is
buffer_by p cur r id k None None messages is = refl

buffer_in : (p : MailParts) (cur : Option ℕ) (r : List Release) (id : ℕ) (slot : Option MessageBuffer) → serve_buffer_at p id slot ≡ None → serve_buffer_at (mails_to p cur r) id slot ≡ None
buffer_in p cur r id None is = refl
buffer_in p cur r id (Some k) is =
    ap (λ waiters. buffer_serves (mails_to p cur r) id k (first_of (receivers p.base id)) (first_of waiters) k.messages) (queue_same k.order p.base cur r (senders_object id))
    ∙ buffer_by p cur r id k (first_of (receivers p.base id)) (first_of (senders p.base k id)) k.messages is

buffers_none : (p : MailParts) (cur : Option ℕ) (r : List Release) → serve_buffers p ≡ None → serve_buffers (mails_to p cur r) ≡ None
unfolding serve_buffers serve_buffer
buffers_none p cur r is = first_none_by (serve_buffer p) (serve_buffer (mails_to p cur r)) (taken_from 1 (drop 1 p.table.buffers)) (taken_from 1 (drop 1 p.table.buffers)) refl (λ id none. buffer_in p cur r id (buffer_at p.table id) none) is

-- ---- pools

abbrev pools_to : PoolParts → Option ℕ → List Release → PoolParts
pools_to p cur r = record p { base = turned_to p.base cur r }

fixed_by : (p : PoolParts) (cur : Option ℕ) (r : List Release) (id : ℕ) (k : FixedPool) (waiters : List ℕ) (number : ℕ) → fixed_serves p id k waiters number ≡ None → fixed_serves (pools_to p cur r) id k waiters number ≡ None
fixed_by p cur r id k [] number is = refl
fixed_by p cur r id k (t ∷ waiters) zero is = refl
fixed_by p cur r id k (t ∷ waiters) (suc before) is = absurd (cc is)

fixed_in : (p : PoolParts) (cur : Option ℕ) (r : List Release) (id : ℕ) (slot : Option FixedPool) → serve_fixed_at p id slot ≡ None → serve_fixed_at (pools_to p cur r) id slot ≡ None
fixed_in p cur r id None is = refl
fixed_in p cur r id (Some k) is = ap (λ waiters. fixed_serves (pools_to p cur r) id k waiters (free_block k)) (queue_same k.order p.base cur r (fixed_object id)) ∙ fixed_by p cur r id k (fixed_waiters p.base k id) (free_block k) is

fixed_none : (p : PoolParts) (cur : Option ℕ) (r : List Release) → serve_fixed_pools p ≡ None → serve_fixed_pools (pools_to p cur r) ≡ None
unfolding serve_fixed_pools serve_fixed
fixed_none p cur r is = first_none_by (serve_fixed p) (serve_fixed (pools_to p cur r)) (taken_from 1 (drop 1 p.table.fixed)) (taken_from 1 (drop 1 p.table.fixed)) refl (λ id none. fixed_in p cur r id (fixed_at p.table id) none) is

given_by : (p : PoolParts) (cur : Option ℕ) (r : List Release) (id : ℕ) (k : VariablePool) (t : ℕ) (place : Option ℕ) → block_given p id k t place ≡ None → block_given (pools_to p cur r) id k t place ≡ None
given_by p cur r id k t None is = refl
given_by p cur r id k t (Some offset) is = absurd (cc is)

variable_by : (p : PoolParts) (cur : Option ℕ) (r : List Release) (id : ℕ) (k : VariablePool) (waiters : List ℕ) → variable_serves p id k waiters ≡ None → variable_serves (pools_to p cur r) id k waiters ≡ None
variable_by p cur r id k [] is = refl
variable_by p cur r id k (t ∷ waiters) is = given_by p cur r id k t (place_in k (size_of p.table t)) is

variable_in : (p : PoolParts) (cur : Option ℕ) (r : List Release) (id : ℕ) (slot : Option VariablePool) → serve_variable_at p id slot ≡ None → serve_variable_at (pools_to p cur r) id slot ≡ None
variable_in p cur r id None is = refl
variable_in p cur r id (Some k) is = ap (λ waiters. variable_serves (pools_to p cur r) id k waiters) (queue_same k.order p.base cur r (variable_object id)) ∙ variable_by p cur r id k (variable_waiters p.base k id) is

variable_none : (p : PoolParts) (cur : Option ℕ) (r : List Release) → serve_variable_pools p ≡ None → serve_variable_pools (pools_to p cur r) ≡ None
unfolding serve_variable_pools serve_variable
variable_none p cur r is =
    first_none_by (serve_variable p) (serve_variable (pools_to p cur r)) (taken_from 1 (drop 1 p.table.variable)) (taken_from 1 (drop 1 p.table.variable)) refl (λ id none. variable_in p cur r id (variable_at p.table id) none) is

-- ---- devices

abbrev devices_to : DevParts → Option ℕ → List Release → DevParts
devices_to p cur r = record p { base = turned_to p.base cur r }

acceptance_none : (p : DevParts) (cur : Option ℕ) (r : List Release) (d : ℕ) (waiters : List ℕ) → acceptance_by p d waiters ≡ None → acceptance_by (devices_to p cur r) d waiters ≡ None
acceptance_none p cur r d [] is = refl
acceptance_none p cur r d (t ∷ ts) is = place_none p (devices_to p cur r) (has_place p.table d) d t refl is

acceptances_none : (p : DevParts) (cur : Option ℕ) (r : List Release) → serve_acceptances p ≡ None → serve_acceptances (devices_to p cur r) ≡ None
unfolding serve_acceptances serve_acceptance
acceptances_none p cur r is =
    first_none_by (serve_acceptance p) (serve_acceptance (devices_to p cur r)) (device_ids p.table) (device_ids p.table) refl (λ d none. acceptance_none p cur r d (fifo_queue p.base (acceptance_object d)) none) is

ending_by : (p : DevParts) (cur : Option ℕ) (r : List Release) (dd : ℕ) (found : Option ℕ) → ending_of_first p dd found ≡ None → ending_of_first (devices_to p cur r) dd found ≡ None
ending_by p cur r dd None is = refl
ending_by p cur r dd (Some t) is = claimed_none p (devices_to p cur r) t (picked p.table dd (wish_of p.table t)) is

endings_none : (p : DevParts) (cur : Option ℕ) (r : List Release) → serve_endings p ≡ None → serve_endings (devices_to p cur r) ≡ None
unfolding serve_endings serve_ending
endings_none p cur r is =
    first_none_by (serve_ending p) (serve_ending (devices_to p cur r)) (taken_from 1 (drop 1 p.table.opened)) (taken_from 1 (drop 1 p.table.opened)) refl (λ dd none. ending_by p cur r dd _ none) is

closed_by : (busy : Bool) (p : DevParts) (cur : Option ℕ) (r : List Release) (dd t : ℕ) → closed_unless busy p dd t ≡ None → closed_unless busy (devices_to p cur r) dd t ≡ None
closed_by true p cur r dd t is = refl
closed_by false p cur r dd t is = absurd (cc is)

close_none : (p : DevParts) (cur : Option ℕ) (r : List Release) (dd : ℕ) (waiters : List ℕ) → close_by p dd waiters ≡ None → close_by (devices_to p cur r) dd waiters ≡ None
close_none p cur r dd [] is = refl
close_none p cur r dd (t ∷ ts) is = closed_by (is_with_driver p.table dd) p cur r dd t is

closes_none : (p : DevParts) (cur : Option ℕ) (r : List Release) → serve_closes p ≡ None → serve_closes (devices_to p cur r) ≡ None
unfolding serve_closes serve_close
closes_none p cur r is =
    first_none_by (serve_close p) (serve_close (devices_to p cur r)) (taken_from 1 (drop 1 p.table.opened)) (taken_from 1 (drop 1 p.table.opened)) refl (λ dd none. close_none p cur r dd (fifo_queue p.base (close_object dd)) none) is

suspended_by : (busy : Bool) (p : DevParts) (cur : Option ℕ) (r : List Release) (t : ℕ) → suspended_unless busy p t ≡ None → suspended_unless busy (devices_to p cur r) t ≡ None
suspended_by true p cur r t is = refl
suspended_by false p cur r t is = absurd (cc is)

suspension_by_none : (p : DevParts) (cur : Option ℕ) (r : List Release) (waiters : List ℕ) → suspension_by p waiters ≡ None → suspension_by (devices_to p cur r) waiters ≡ None
suspension_by_none p cur r [] is = refl
suspension_by_none p cur r (t ∷ ts) is = suspended_by (any_given p.table) p cur r t is

suspension_none : (p : DevParts) (cur : Option ℕ) (r : List Release) → serve_suspension p ≡ None → serve_suspension (devices_to p cur r) ≡ None
unfolding serve_suspension
suspension_none p cur r is = suspension_by_none p cur r (fifo_queue p.base suspension_object) is

-- ---- all kinds

pub turned_unserved : (p : Parts) (cur : Option ℕ) (r : List Release) → serve_object p ≡ None → serve_object (record p { base = turned_to p.base cur r }) ≡ None
unfolding serve_object AllKinds
turned_unserved p cur r is =
    let all = each_kind kinds p is in
    no_kind kinds (record p { base = turned_to p.base cur r }) (
      mapped_none _ _ (sem_flags_none p.base cur r p.objects.sem_flags (unmapped _ _ all.0)),
      (
        mapped_none _ _ (boxes_none (mail_parts p) cur r (unmapped _ _ all.1.0)),
        (
          mapped_none _ _ (mutexes_none p.base cur r p.objects.mutexes (unmapped _ _ all.1.1.0)),
          (
            mapped_none _ _ (buffers_none (mail_parts p) cur r (unmapped _ _ all.1.1.1.0)),
            (
              mapped_none _ _ (fixed_none (pool_parts p) cur r (unmapped _ _ all.1.1.1.1.0)),
              (
                mapped_none _ _ (variable_none (pool_parts p) cur r (unmapped _ _ all.1.1.1.1.1.0)),
                (
                  mapped_none _ _ (acceptances_none (dev_parts p) cur r (unmapped _ _ all.1.1.1.1.1.1.0)),
                  (
                    mapped_none _ _ (endings_none (dev_parts p) cur r (unmapped _ _ all.1.1.1.1.1.1.1.0)),
                    (
                      mapped_none _ _ (closes_none (dev_parts p) cur r (unmapped _ _ all.1.1.1.1.1.1.1.1.0)),
                      (
                        mapped_none _ _ (suspension_none (dev_parts p) cur r (unmapped _ _ all.1.1.1.1.1.1.1.1.1.0)),
                        tt,
                      ),
                    ),
                  ),
                ),
              ),
            ),
          ),
        ),
      ),
    )
