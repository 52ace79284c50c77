use Rattle.device_model.specs.Devices.Tables.{devices_start}
use Rattle.device_laws.proofs.Fits.{arrived_was_expected, expected_arrives}
use Rattle.device_laws.proofs.Ties.{stay_tied, tied_at_first}
use Rattle.device_laws.proofs.laws.an_ending_arrives_where_it_is_expected.Goals as goal

pub returns-clause-arrived : goal.returns-clause-arrived
returns-clause-arrived c = arrived_was_expected

pub returns-clause-arrives : goal.returns-clause-arrives
returns-clause-arrives c p d how ending taken room tied is = expected_arrives p d how ending taken room tied is

pub returns-clause-tied : goal.returns-clause-tied
returns-clause-tied c dv moves = stay_tied moves dv

pub returns-clause-start : goal.returns-clause-start
returns-clause-start c script moves = stay_tied moves (devices_start script) (tied_at_first script)
