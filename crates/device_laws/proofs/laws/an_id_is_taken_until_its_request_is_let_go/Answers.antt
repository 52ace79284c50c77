use Rattle.device_laws.proofs.Stays.{stays_there}
use Rattle.device_laws.proofs.laws.an_id_is_taken_until_its_request_is_let_go.Goals as goal

pub returns : goal.returns
returns c dv moves = stays_there moves dv
