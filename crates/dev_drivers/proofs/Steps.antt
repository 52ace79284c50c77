-- What each step of a driver on its thread comes to.
use Rattle.std.proofs.Common.{◌≡◌, ℕ, Bool, true, List, [], ◌∷◌, ◌++◌, ◌⊎◌, length, Option, None, Some, refl, ap, subst, sym, ◌∙◌, inl, inr, rules}
use Rattle.std.specs.Prelude.{if◌then◌else◌}
use Rattle.std.proofs.lemmas.List.{append-nil}
use Rattle.rtrb.specs.Ring.{received, sent}
use Rattle.tk_types.specs.declared.script.Kind.{Kind}
use Rattle.device_model.specs.declared.messages.Ending.{Ending}
use Rattle.device_model.specs.declared.messages.Message.{Message}
use Rattle.driver_model.specs.Cores.{Core, core_start, after_block, after_ending, after_message, can_take, ending_out}
use Rattle.driver_model.specs.Drives.{Block, Driving, End, Event, Reaches, Take, driver_step, driving_start, listed, ran}
use Rattle.driver_laws.proofs.Folds.{counts, stopped_ends}
use Rattle.fleet_model.specs.Fleets.{most_counted}
use Rattle.fleet_model.specs.Records.{EndsWithStop}
use Rattle.dev_drivers.specs.declared.job.DriverJob.{DriverJob}
use Rattle.dev_drivers.specs.declared.log.DriverLog.{DriverLog}
use Rattle.dev_drivers.specs.Jobs.{IsLogOf}
use Rattle.dev_drivers.specs.Logs.{Drove, IsFresh, IsOver, driving}

-- an event that leads to what is known of the parts
leads : (d : Driving) (events : List Event) (core : Core) (taken : List Message) (sent : List Ending) → core ≡ (ran d events).core → taken ≡ (ran d events).taken → sent ≡ (ran d events).sent →
    Reaches d (record { core = core; taken = taken; sent = sent })
leads d events core taken sent one two three = record {
  events = events;
  gives = sym (ap (λ (c : Core). let r : Driving = record { core = c; taken = taken; sent = sent } in r) one
      ∙ (ap (λ (l : List Message). let r : Driving = record { core = (ran d events).core; taken = l; sent = sent } in r) two
      ∙ ap (λ (l : List Ending). let r : Driving = record { core = (ran d events).core; taken = (ran d events).taken; sent = l } in r) three));
}

-- no event
pub stays : (core : Core) (taken taken_now : List Message) (sent sent_now : List Ending) → taken_now ≡ taken → sent_now ≡ sent →
    Reaches (record { core = core; taken = taken; sent = sent }) (record { core = core; taken = taken_now; sent = sent_now })
unfolding ran
stays core taken taken_now sent sent_now one two = leads (record { core = core; taken = taken; sent = sent }) [] core taken_now sent_now refl one two

-- a message
pub takes : (core next : Core) (taken taken_now : List Message) (sent : List Ending) (m : Message) → can_take core m ≡ true → next ≡ after_message core m → taken_now ≡ taken ++ m ∷ [] →
    Reaches (record { core = core; taken = taken; sent = sent }) (record { core = next; taken = taken_now; sent = sent })
unfolding ran driver_step
takes core next taken taken_now sent m may one two =
    let d : Driving = record { core = core; taken = taken; sent = sent } in
    let after : Driving = record { core = after_message core m; taken = taken ++ m ∷ []; sent = sent } in
    let is : after ≡ driver_step d (Take m) = ap (λ (b : Bool). if b then after else d) (sym may) in
    leads d (Take m ∷ []) next taken_now sent (one ∙ ap (λ (o : Driving). o.core) is) (two ∙ ap (λ (o : Driving). o.taken) is) (ap (λ (o : Driving). o.sent) is)

-- a turn
pub blocks : (core next : Core) (taken : List Message) (sent : List Ending) → next ≡ after_block core →
    Reaches (record { core = core; taken = taken; sent = sent }) (record { core = next; taken = taken; sent = sent })
unfolding ran driver_step
blocks core next taken sent one = leads (record { core = core; taken = taken; sent = sent }) (Block ∷ []) next taken sent one refl refl

-- an ending that is asked for, and may have come
pub ends : (core next : Core) (taken : List Message) (sent sent_now : List Ending) → next ≡ after_ending core → sent_now ≡ sent ++ listed (ending_out core) →
    Reaches (record { core = core; taken = taken; sent = sent }) (record { core = next; taken = taken; sent = sent_now })
unfolding ran driver_step
ends core next taken sent sent_now one two = leads (record { core = core; taken = taken; sent = sent }) (End ∷ []) next taken sent_now one refl two

pub ends_so : (core next : Core) (taken : List Message) (sent looked sent_now : List Ending) (ending : Ending) → Some ending ≡ ending_out core → next ≡ after_ending core → looked ≡ sent → sent_now ≡ looked ++ ending ∷ [] →
    Reaches (record { core = core; taken = taken; sent = sent }) (record { core = next; taken = taken; sent = sent_now })
ends_so core next taken sent looked sent_now ending out one same two =
    ends core next taken sent sent_now one (two ∙ (ap (λ (l : List Ending). l ++ ending ∷ []) same ∙ ap (λ (o : Option Ending). sent ++ listed o) out))

pub ends_without : (core next : Core) (taken : List Message) (sent sent_now : List Ending) → None ≡ ending_out core → next ≡ after_ending core → sent_now ≡ sent →
    Reaches (record { core = core; taken = taken; sent = sent }) (record { core = next; taken = taken; sent = sent_now })
ends_without core next taken sent sent_now out one same = ends core next taken sent sent_now one (same ∙ (sym (append-nil sent) ∙ ap (λ (o : Option Ending). sent ++ listed o) out))

-- ---- one after another

follows : (one two : List Event) (d : Driving) → ran (ran d one) two ≡ ran d (one ++ two)
unfolding ran
follows [] two d = refl
follows (e ∷ one) two d = follows one two (driver_step d e)

pub reaches_on : (a b c : Driving) → Reaches a b → Reaches b c → Reaches a c
reaches_on a b c one two = record {
  events = one.events ++ two.events;
  gives = sym (follows one.events two.events a) ∙ (ap (λ (d : Driving). ran d two.events) one.gives ∙ two.gives);
}

pub drove_on : (a b c : DriverLog) → Drove a b → Drove b c → Drove a c
drove_on a b c one two = record {
  inbox = search rules;
  outbox = search rules;
  run = reaches_on (driving a) (driving b) (driving c) one.run two.run;
}

pub drove_none : (a : DriverLog) → Drove a a
unfolding ran
drove_none a = record { inbox = search rules; outbox = search rules; run = record { events = []; gives = refl } }

-- ---- a job that is over

fresh_is : (device : ℕ) (kind : Kind) (log : DriverLog) → IsFresh device kind log → driving log ≡ driving_start device kind
fresh_is device kind log fresh =
    ap (λ (c : Core). let d : Driving = record { core = c; taken = received log.inbox; sent = sent log.outbox } in d) fresh.0
    ∙ (ap (λ (l : List Message). let d : Driving = record { core = core_start device kind; taken = l; sent = sent log.outbox } in d) fresh.1
    ∙ ap (λ (l : List Ending). let d : Driving = record { core = core_start device kind; taken = []; sent = l } in d) fresh.2)

shows : (device : ℕ) (kind : Kind) (events : List Event) (d : Driving) → ran (driving_start device kind) events ≡ d → (d.core.stopped ≡ true) ⊎ (d.core.taken ≡ most_counted) →
    EndsWithStop d.taken ⊎ (length d.taken ≡ most_counted)
shows device kind events d is (inl stopped) = inl (ends (sym (ap (λ (o : Driving). o.core.stopped) (sym is)) ∙ stopped))
  where
    ends : (ran (driving_start device kind) events).core.stopped ≡ true → EndsWithStop d.taken
    ends stopped =
        let e = stopped_ends device kind events stopped in
        record { front = e.front; device = e.device; is = sym (ap (λ (o : Driving). o.taken) is) ∙ e.is }
shows device kind events d is (inr many) =
    inr (sym (ap (λ (o : Driving). length o.taken) is) ∙ (sym (counts device kind events) ∙ (ap (λ (o : Driving). o.core.taken) is ∙ many)))

pub log_of : (job : DriverJob) (log : DriverLog) → IsFresh job.device job.kind job.start → Drove job.start log → IsOver log → IsLogOf job log
log_of job log fresh drove over =
    let run : Reaches (driving_start job.device job.kind) (driving log) = subst (λ (d : Driving). Reaches d (driving log)) (fresh_is job.device job.kind job.start fresh) drove.run in
    record { inbox = drove.inbox; outbox = drove.outbox; run = run; over = shows job.device job.kind run.events (driving log) run.gives over }
