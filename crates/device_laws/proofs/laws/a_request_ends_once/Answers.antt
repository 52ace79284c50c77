use Rattle.device_model.specs.Devices.Tables.{devices_start}
use Rattle.device_laws.proofs.Lives.{apart_at_first, stay_apart, stays_gone, stays_so}
use Rattle.device_laws.proofs.laws.a_request_ends_once.Goals as goal

pub returns-clause-start : goal.returns-clause-start
returns-clause-start c script moves = stay_apart moves (devices_start script) (apart_at_first script)

pub returns-clause-apart : goal.returns-clause-apart
returns-clause-apart c dv moves = stay_apart moves dv

pub returns-clause-ended : goal.returns-clause-ended
returns-clause-ended c dv moves = stays_so moves dv

pub returns-clause-gone : goal.returns-clause-gone
returns-clause-gone c dv moves serial = stays_gone serial moves dv
