-- The states of the callers that calls, and frames of which facts are known, have.
use Rattle.std.specs.Prelude.{List, map}
use Rattle.unwind_definitions.specs.State.{State}
use Rattle.unwind_definitions.specs.Chain.{Call}
use Rattle.frame_facts.specs.FactChains.{FactFrame}

abbrev pub callers_of : List Call → List State
callers_of calls = map (λ (c : Call). c.caller) calls

abbrev pub callers_in : List FactFrame → List State
callers_in frames = map (λ (f : FactFrame). f.caller) frames
