use Rattle.unwind_definitions.specs.HeaderSearchLaws.{boundary_in-finds, boundary_in-is}
use Rattle.unwind_laws.proofs.tables.header_search_halves.Goals as goal

pub returns-clause-finds : goal.returns-clause-finds
returns-clause-finds c t pc = boundary_in-finds t pc

pub returns-clause-halves : goal.returns-clause-halves
returns-clause-halves c t pc keys are = boundary_in-is t pc keys are
