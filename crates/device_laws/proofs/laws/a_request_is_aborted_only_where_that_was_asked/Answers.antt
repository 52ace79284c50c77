use Rattle.device_laws.proofs.Aborts.{cut_was_asked, done_is_plain, none_aborted}
use Rattle.device_laws.proofs.Asked.{all_were_asked}
use Rattle.device_laws.proofs.laws.a_request_is_aborted_only_where_that_was_asked.Goals as goal

pub returns-clause-cut : goal.returns-clause-cut
returns-clause-cut c = cut_was_asked

pub returns-clause-done : goal.returns-clause-done
returns-clause-done c = done_is_plain

pub returns-clause-none : goal.returns-clause-none
returns-clause-none c dv moves = none_aborted moves dv

pub returns-clause-before : goal.returns-clause-before
returns-clause-before c = all_were_asked
