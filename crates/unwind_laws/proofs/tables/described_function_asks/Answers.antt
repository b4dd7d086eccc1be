use Rattle.unwind_laws.proofs.Asked.{asks_as}
use Rattle.unwind_definitions.specs.Module.{bases_of}
use Rattle.unwind_laws.proofs.tables.described_function_asks.Goals as goal

pub returns : goal.returns
returns c image m frame f a is finds = asks_as image (bases_of m frame) f finds.fde is finds.read finds.describes
