-- Snapshots whose unwind tables describe a chain of calls.
use Rattle.std.specs.Prelude.{List, IsFalse, IsTrue}
use Rattle.unwind_definitions.specs.State.{State}
use Rattle.unwind_definitions.specs.Function.{Function}
use Rattle.unwind_definitions.specs.Chain.{Call}
use Rattle.stack_steps.specs.Stopped.{StartsStopped}
use Rattle.stack_walks.specs.Walking.{StartsChain}
use Rattle.stack_deliver.specs.Delivering.{StartsValidChain}
use Rattle.stack_snapshot.specs.Content.{Content, space_of}

-- The unwind data that the snapshot's modules name, of whatever format each is, ELF, Mach-O or PE, describe functions, and its start
-- shows the innermost state of a chain of calls over these that is shorter than its limit. Where a handler takes the exception, its
-- resume table says where each frame inside the handler's goes on after its cleanup.
abbrev pub DescribesChain : Content → List Function → State → List Call → Type 0
DescribesChain s functions start calls = StartsValidChain (space_of s) s.start s.resumes s.limit functions start calls

-- The start stands after a call and shows the innermost state of such a chain. Only the modules that the chain passes have
-- to describe functions, which may have language tables.
abbrev pub DescribesWalk : Content → List Function → State → List Call → Type 0
DescribesWalk s functions start calls = IsFalse s.interrupted × StartsChain (space_of s) s.start s.limit functions start calls

-- The start was stopped at an instruction, in the body of a described function, in its prologue where it is of an ELF or a PE
-- module, or in an epilog of a PE function; and its caller's state is the innermost of such a chain, for which the limit has room.
abbrev pub DescribesStop : Content → List Function → State → Call → List Call → Type 0
DescribesStop s functions start call calls = IsTrue s.interrupted × StartsStopped (space_of s) s.start s.limit functions start call calls
