use Rattle.device_laws.specs.Moves.{Leads}
use Rattle.device_laws.proofs.Leading.{no_moves, leading, arriving, taking}
use Rattle.device_lemmas.proofs.Walk.{calls_keep, acceptances_keep, endings_keep, closes_keep, suspension_keeps, hand_over_keeps, hand_first_keeps, arrival_keeps}
use Rattle.device_laws.proofs.laws.all_is_made_of_moves.Goals as goal

pub returns-clause-calls : goal.returns-clause-calls
returns-clause-calls c p who call = calls_keep (Leads p.table) (leading p.table) p who call (no_moves p.table)

pub returns-clause-acceptances : goal.returns-clause-acceptances
returns-clause-acceptances c p = acceptances_keep (Leads p.table) (leading p.table) p (no_moves p.table)

pub returns-clause-endings : goal.returns-clause-endings
returns-clause-endings c p = endings_keep (Leads p.table) (leading p.table) p (no_moves p.table)

pub returns-clause-closes : goal.returns-clause-closes
returns-clause-closes c p = closes_keep (Leads p.table) (leading p.table) p (no_moves p.table)

pub returns-clause-suspension : goal.returns-clause-suspension
returns-clause-suspension c p = suspension_keeps (Leads p.table) p (no_moves p.table)

pub returns-clause-handing : goal.returns-clause-handing
returns-clause-handing c b dv = hand_over_keeps (Leads dv) (leading dv) b dv (no_moves dv)

pub returns-clause-first : goal.returns-clause-first
returns-clause-first c dv = hand_first_keeps (Leads dv) (leading dv) dv (no_moves dv)

pub returns-clause-arrivals : goal.returns-clause-arrivals
returns-clause-arrivals c p ending = arrival_keeps (Leads p.table) (leading p.table) (arriving p.table) p ending (no_moves p.table)

pub returns-clause-taking : goal.returns-clause-taking
returns-clause-taking c dv = taking dv
