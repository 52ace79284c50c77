use Rattle.context_laws.proofs.Definitions.{handler_defined, other_handlers, service_defined, other_services}
use Rattle.context_laws.proofs.laws.a_definition_stands_for_its_number_alone.Goals as goal

pub returns-clause-handler : goal.returns-clause-handler
returns-clause-handler c = handler_defined

pub returns-clause-other_handlers : goal.returns-clause-other_handlers
returns-clause-other_handlers c = other_handlers

pub returns-clause-service : goal.returns-clause-service
returns-clause-service c = service_defined

pub returns-clause-other_services : goal.returns-clause-other_services
returns-clause-other_services c = other_services
