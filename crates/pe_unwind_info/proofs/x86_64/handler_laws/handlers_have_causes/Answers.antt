use Rattle.pe_unwind_info.proofs.HandlerLemmas.{some_by, none_by, fault_by}
use Rattle.pe_unwind_info.proofs.x86_64.handler_laws.handlers_have_causes.Goals as goal

pub returns-clause-some : goal.returns-clause-some
returns-clause-some c = λ memory function handler. some_by memory function handler

pub returns-clause-none : goal.returns-clause-none
returns-clause-none c = λ memory function. none_by memory function

pub returns-clause-fault : goal.returns-clause-fault
returns-clause-fault c = λ memory function fault. fault_by memory function fault
