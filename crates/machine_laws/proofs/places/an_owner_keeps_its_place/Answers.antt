use Rattle.machine_model.specs.States.State.{parts_of}
use Rattle.machine_lemmas.proofs.ReachedRest.{reached_rest}
use Rattle.place_lemmas.proofs.SinkEnds.{sinks_ended}
use Rattle.place_lemmas.proofs.SinkEvents.{sinks_holdings, sinks_tick, sinks_worked}
use Rattle.machine_laws.proofs.Owners.{arrived_owner, called_followed_owner, called_formed, called_owner, followed_owner, lags_of, reached_formed, settled_defined, settled_owner, task_followed_owner}
use Rattle.machine_laws.proofs.places.an_owner_keeps_its_place.Goals as goal

pub returns-clause-reached : goal.returns-clause-reached
returns-clause-reached c = λ script mode budget moves runnable. (reached_formed script mode budget moves runnable, (reached_rest script mode budget moves runnable).up_to_date)

pub returns-clause-formed : goal.returns-clause-formed
returns-clause-formed c = called_formed

pub returns-clause-at_once : goal.returns-clause-at_once
returns-clause-at_once c = settled_defined

pub returns-clause-settled : goal.returns-clause-settled
returns-clause-settled c = settled_owner

pub returns-clause-follows : goal.returns-clause-follows
returns-clause-follows c = followed_owner

pub returns-clause-arrives : goal.returns-clause-arrives
returns-clause-arrives c = arrived_owner

pub returns-clause-calls : goal.returns-clause-calls
returns-clause-calls c = called_owner

pub returns-clause-calls_follow : goal.returns-clause-calls_follow
returns-clause-calls_follow c = called_followed_owner

pub returns-clause-task_calls_follow : goal.returns-clause-task_calls_follow
returns-clause-task_calls_follow c = λ script mode n st caller call t one is place ready rotates changes nobody row same.
    task_followed_owner script mode n st caller call t one is place ready (record { rotates = rotates; changes = changes }) nobody row same

pub returns-clause-ends_follow : goal.returns-clause-ends_follow
returns-clause-ends_follow c = λ script mode n st caller call t one is place ready lag some apart same.
    (sinks_ended t script mode n st caller call some apart (lags_of t (parts_of st) one is ready lag)).place place same

pub returns-clause-tick : goal.returns-clause-tick
returns-clause-tick c = λ mode n st t one is place ready lag same. (sinks_tick t mode n st (lags_of t (parts_of st) one is ready lag)).place place same

pub returns-clause-freed : goal.returns-clause-freed
returns-clause-freed c = λ mode st t other one is place ready lag same. (sinks_holdings t mode st other (lags_of t (parts_of st) one is ready lag)).place place same

pub returns-clause-step : goal.returns-clause-step
returns-clause-step c = λ script mode n st t one is place ready lag handler task same. (sinks_worked t script mode n st (handler, task) (lags_of t (parts_of st) one is ready lag)).place place same

pub returns-clause-sinks : goal.returns-clause-sinks
returns-clause-sinks c = λ script mode n st t one is ready lag handler task. (sinks_worked t script mode n st (handler, task) (lags_of t (parts_of st) one is ready lag)).sinks
