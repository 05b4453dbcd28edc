use Rattle.c_node_facts.proofs.Known.{call_known, library_known}
use Rattle.c_node_facts.proofs.facts.call_fact.Goals as goal

pub returns-clause-called : goal.returns-clause-called
returns-clause-called c = call_known

pub returns-clause-library : goal.returns-clause-library
returns-clause-library c = library_known
