use Rattle.mutex_laws.proofs.TableOrders.{call_in_order, few_held, freeing_in_order, serving_in_order, start_in_order}
use Rattle.mutex_laws.proofs.laws.the_table_of_mutexes_stays_in_order.Goals as goal

pub returns-clause-start : goal.returns-clause-start
returns-clause-start c = start_in_order

pub returns-clause-call : goal.returns-clause-call
returns-clause-call c = call_in_order

pub returns-clause-serving : goal.returns-clause-serving
returns-clause-serving c = serving_in_order

pub returns-clause-freeing : goal.returns-clause-freeing
returns-clause-freeing c = freeing_in_order

pub returns-clause-few : goal.returns-clause-few
returns-clause-few c = few_held
