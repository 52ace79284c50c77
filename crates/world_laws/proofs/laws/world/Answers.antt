use Rattle.device_laws.specs.Requests.{IsGone}
use Rattle.device_laws.proofs.Claims.{endings_serve, wait_hands_out}
use Rattle.device_laws.proofs.Lives.{stays_gone}
use Rattle.world_laws.proofs.Once.{dropped_gone}
use Rattle.world_laws.proofs.Owns.{read_hands_out, write_hands_out}
use Rattle.world_laws.proofs.Everywhere.{always_apart, always_fit, always_linked, ended_stays, sound_road}
use Rattle.world_laws.proofs.There.{always_there}
use Rattle.world_laws.proofs.Requests.{step_aborts, steps_keep}
use Rattle.world_laws.proofs.laws.world.Goals as goal

pub returns-clause-linked : goal.returns-clause-linked
returns-clause-linked c = always_linked

pub returns-clause-one_place : goal.returns-clause-one_place
returns-clause-one_place c script mode budget steps d link road linked there = (sound_road script mode budget steps d link road linked there).one_place

pub returns-clause-messages : goal.returns-clause-messages
returns-clause-messages c script mode budget steps d link road linked there = (sound_road script mode budget steps d link road linked there).right

pub returns-clause-aborts : goal.returns-clause-aborts
returns-clause-aborts c script mode budget steps d link road linked there = (sound_road script mode budget steps d link road linked there).aborts

pub returns-clause-few : goal.returns-clause-few
returns-clause-few c script mode budget steps d link road linked there =
    let is = sound_road script mode budget steps d link road linked there in
    record { aborts = is.few_aborts; serves = is.few_serves; stops = is.few_stops; all = is.few; fewer = is.fewer }

pub returns-clause-working : goal.returns-clause-working
returns-clause-working c script mode budget steps d link road linked there request has =
    let is = sound_road script mode budget steps d link road linked there in
    record { given = is.works_on request has; store = is.store_so_far request has }

pub returns-clause-ready : goal.returns-clause-ready
returns-clause-ready c script mode budget steps d link road linked there = (sound_road script mode budget steps d link road linked there).ready

pub returns-clause-sent : goal.returns-clause-sent
returns-clause-sent c script mode budget steps d link road linked there = (sound_road script mode budget steps d link road linked there).sent

pub returns-clause-store : goal.returns-clause-store
returns-clause-store c script mode budget steps d link road linked there = (sound_road script mode budget steps d link road linked there).same_store

pub returns-clause-stopped : goal.returns-clause-stopped
returns-clause-stopped c script mode budget steps d link road linked there = (sound_road script mode budget steps d link road linked there).stopped

pub returns-clause-there : goal.returns-clause-there
returns-clause-there c = always_there

pub returns-clause-fit : goal.returns-clause-fit
returns-clause-fit c = always_fit

pub returns-clause-apart : goal.returns-clause-apart
returns-clause-apart c = always_apart

pub returns-clause-ended : goal.returns-clause-ended
returns-clause-ended c = ended_stays

pub returns-clause-gone : goal.returns-clause-gone
returns-clause-gone c script mode budget steps later serial = steps_keep (IsGone serial) (stays_gone serial) later _

pub returns-clause-aborted : goal.returns-clause-aborted
returns-clause-aborted c script mode budget steps = step_aborts _

pub returns-clause-call : goal.returns-clause-call
returns-clause-call c = wait_hands_out

pub returns-clause-serving : goal.returns-clause-serving
returns-clause-serving c = endings_serve

pub returns-clause-own_read : goal.returns-clause-own_read
returns-clause-own_read c = read_hands_out

pub returns-clause-own_write : goal.returns-clause-own_write
returns-clause-own_write c = write_hands_out

pub returns-clause-once : goal.returns-clause-once
returns-clause-once c = dropped_gone
