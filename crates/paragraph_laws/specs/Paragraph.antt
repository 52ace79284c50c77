-- The paragraph on waiting calls, for every object and with the whole of settling: the caller joins the waiters of the object,
-- and all settles. If that ended the caller's wait, the call returns, and the caller has its old stamp again. If not, with a
-- time-out of 0 everything is as before the call, and the answer is E_TMOUT; else the task waits.
-- The law `a_waiting_call_is_the_paragraph` says that the calls do this on every state at rest.
use Rattle.std.specs.Prelude.{ℕ, ◌≡◌, None, if◌then◌else◌, ℤ, pos}
use Rattle.std.specs.Option.{option_map_or}
use Rattle.std.specs.Ordering.{int_eq}
use Rattle.tk_types.specs.declared.answer.Answer.{Answer}
use Rattle.tk_types.specs.declared.answer.Outcome.{Outcome}
use Rattle.tk_types.specs.declared.answer.Outcome.TheVariants.{Returned, Blocked}
use Rattle.tk_types.specs.declared.error_code.Er.TheVariants as er
use Rattle.tk_types.specs.declared.run.Mode.{Mode}
use Rattle.tk_types.specs.declared.task.Order.{Order}
use Rattle.kernel_model.specs.SemFlags.Calls.{SemFlagDone}
use Rattle.kernel_model.specs.SemFlags.Trial.{back_in}
use Rattle.kernel_model.specs.Tasks.Base.{make_wait}
use Rattle.kernel_model.specs.Words.Checks.{failed}
use Rattle.object_model.specs.Mails.Calls.{MailDone}
use Rattle.object_model.specs.Pools.Calls.{PoolDone}
use Rattle.mail_laws.specs.Trial.{ended_in}
use Rattle.machine_model.specs.Events.Rest.{AreUpToDate}
use Rattle.machine_model.specs.Events.Settle.{handed, settle}
use Rattle.machine_model.specs.States.Objects.{Objects, Parts, serve_object}
use Rattle.table_lemmas.specs.Short.{AreShort}

-- what a waiting call left, and what became of it
pub record WaitDone : Type 0 where
  pub parts : Parts
  pub outcome : Outcome

-- ---- the paragraph

-- what tasks ask for is as before the call
abbrev pub asked_before : Objects → Objects → Objects
asked_before old new = record new {
  sem_flags = record new.sem_flags { counts = old.sem_flags.counts; wishes = old.sem_flags.wishes };
  mails = record new.mails { sending = old.mails.sending; into = old.mails.into };
  pools = record new.pools { sizes = old.pools.sizes };
}

-- settling ended the caller's wait: the call returns, and the caller has its old stamp again
abbrev pub returns_to : Parts → Parts → ℕ → Answer → WaitDone
returns_to old settled t answer = record {
  parts = record settled { base = back_in old.base settled.base t; objects = asked_before old.objects settled.objects };
  outcome = Returned answer;
}

-- settling didn't: with a time-out of 0 all is as before, and else the task waits
abbrev pub over_or_waits : Parts → Parts → ℤ → WaitDone
over_or_waits old settled timeout =
    if int_eq timeout (pos 0)
    then record { parts = old; outcome = failed er.TmOut }
    else record { parts = settled; outcome = Blocked }

abbrev pub after_settling : Parts → ℕ → ℤ → Parts → WaitDone
after_settling old t timeout settled = option_map_or (returns_to old settled t) (ended_in t settled.base) (over_or_waits old settled timeout)

-- the caller has joined the waiters of an object, and the tables keep what it asked for
abbrev pub joins : Parts → ℕ → ℕ → Order → ℤ → Objects → Parts
joins p t object order timeout asked = record p { base = make_wait p.base t object order timeout; objects = asked }

-- a task joins the waiters of an object, and all settles
unfoldable pub paragraph : Mode → Parts → ℕ → ℕ → Order → ℤ → Objects → WaitDone
paragraph mode p t object order timeout asked = after_settling p t timeout (settle mode (joins p t object order timeout asked))

-- ---- what the call of a family leaves, as one of all parts

abbrev pub sem_flag_waits : Parts → SemFlagDone → WaitDone
sem_flag_waits p done = record { parts = record p { base = done.base; objects = record p.objects { sem_flags = done.table } }; outcome = done.outcome }

abbrev pub mail_waits : Parts → MailDone → WaitDone
mail_waits p done = record { parts = record { base = done.base; objects = record p.objects { mails = done.table }; memory = done.memory }; outcome = done.outcome }

abbrev pub pool_waits : Parts → PoolDone → WaitDone
pool_waits p done = record { parts = record p { base = done.base; objects = record p.objects { pools = done.table } }; outcome = done.outcome }

-- ---- where the law holds

-- parts that have settled: nobody can be served, each priority is that of its definition, and no request can go to a driver
pub record IsSettled (mode : Mode) (p : Parts) : Type 0 where
  pub unserved : serve_object p ≡ None
  pub up_to_date : AreUpToDate p.base p.objects.mutexes
  pub given : handed mode p ≡ p
  pub short : AreShort p.objects
