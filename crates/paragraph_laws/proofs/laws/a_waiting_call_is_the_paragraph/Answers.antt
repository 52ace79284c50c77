use Rattle.paragraph_laws.proofs.Boxes.{box_call_is_paragraph}
use Rattle.paragraph_laws.proofs.BufferCalls.{receive_call_is_paragraph, send_call_is_paragraph}
use Rattle.paragraph_laws.proofs.MutexCalls.{lock_call_is_paragraph}
use Rattle.paragraph_laws.proofs.Pools.{fixed_call_is_paragraph}
use Rattle.paragraph_laws.proofs.SemFlags.{flag_call_is_paragraph, sem_call_is_paragraph}
use Rattle.paragraph_laws.proofs.Settled.{rest_settled}
use Rattle.paragraph_laws.proofs.VariablePools.{variable_call_is_paragraph}
use Rattle.std.proofs.Common.{ℕ, ◌≤◌, subst, sym, arith}
use Rattle.machine_lemmas.proofs.ReachedRest.{reached_rest, reached_slots}
use Rattle.machine_lemmas.proofs.TickReached.{reached_places}
use Rattle.table_lemmas.proofs.ReachedShort.{reached_short}
use Rattle.paragraph_laws.proofs.Zeros.{reached_zeroless}
use Rattle.paragraph_laws.proofs.laws.a_waiting_call_is_the_paragraph.Goals as goal

pub returns-clause-rest : goal.returns-clause-rest
returns-clause-rest c = rest_settled

pub returns-clause-short : goal.returns-clause-short
returns-clause-short c = reached_short

pub returns-clause-reached : goal.returns-clause-reached
returns-clause-reached c = λ script mode budget moves runnable. rest_settled mode _ (reached_rest script mode budget moves runnable) (reached_short script mode budget moves runnable)

pub returns-clause-sound : goal.returns-clause-sound
returns-clause-sound c = λ script mode budget moves runnable.
    let reached = reached_slots script mode budget moves runnable in
    let zeroless = reached_zeroless script mode budget moves runnable in
    let rest = reached_rest script mode budget moves runnable in
    record {
      links = reached.few;
      slots = subst (λ (n : ℕ). n ≤ 256) (sym reached.base) (omega arith);
      no_task = zeroless.base.none;
      no_place = zeroless.base.place;
      no_mutex = zeroless.mutexes;
      places = reached_places script mode budget moves runnable;
      none_left = rest.followed;
    }

pub returns-clause-semaphore : goal.returns-clause-semaphore
returns-clause-semaphore c = sem_call_is_paragraph

pub returns-clause-flag : goal.returns-clause-flag
returns-clause-flag c = flag_call_is_paragraph

pub returns-clause-mailbox : goal.returns-clause-mailbox
returns-clause-mailbox c = box_call_is_paragraph

pub returns-clause-fixed : goal.returns-clause-fixed
returns-clause-fixed c = fixed_call_is_paragraph

pub returns-clause-variable : goal.returns-clause-variable
returns-clause-variable c = variable_call_is_paragraph

pub returns-clause-send : goal.returns-clause-send
returns-clause-send c = send_call_is_paragraph

pub returns-clause-receive : goal.returns-clause-receive
returns-clause-receive c = receive_call_is_paragraph

pub returns-clause-lock : goal.returns-clause-lock
returns-clause-lock c = lock_call_is_paragraph
