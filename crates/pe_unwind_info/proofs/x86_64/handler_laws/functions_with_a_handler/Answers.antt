use Rattle.std.proofs.Common.{refl}
use Rattle.pe_unwind_info.specs.Handlers.{records_of}
use Rattle.pe_unwind_info.proofs.x86_64.handler_laws.functions_with_a_handler.Goals as goal

pub returns-clause-own : goal.returns-clause-own
unfolding records_of
returns-clause-own c = refl

pub returns-clause-chained : goal.returns-clause-chained
unfolding records_of
returns-clause-chained c = refl

pub returns-clause-cut : goal.returns-clause-cut
unfolding records_of
returns-clause-cut c = refl
