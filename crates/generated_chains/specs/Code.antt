-- The functions of a generated chain: 64 bytes each, one after another.
use Rattle.std.specs.Prelude.{ℕ, ◌+◌, ◌*◌, false, List, [], ◌∷◌, map, Option, Some, None}
use Rattle.unwind_definitions.specs.State.{RBX, RBP}
use Rattle.unwind_definitions.specs.Prologue.{Followed, Push, Allocate, SetFrame, PrologueStep}
use Rattle.unwind_definitions.specs.Function.{Function, Site, NoAction, Cleanup, Catch}
use Rattle.generated_chains.specs.declared.outline.Kind.{Kind}
use Rattle.generated_chains.specs.declared.outline.Kind.TheVariants.{Pushes, PushesAndAllocates, SetsFrame, SetsFrameAndPushes}
use Rattle.generated_chains.specs.declared.outline.Handling.{Handling}
use Rattle.generated_chains.specs.declared.outline.Handling.TheVariants.{PassesOn, CleansUp, Catches}
use Rattle.generated_chains.specs.declared.outline.Outline.{Outline}

-- where the first function starts
abbrev pub text : ℕ
text = 0x400000

abbrev pub start_of : ℕ → ℕ
start_of index = text + 64 * index

-- a push of RBX or RBP is an instruction of one byte, the others are of three or four
abbrev pub prologue_of : Kind → List PrologueStep
prologue_of Pushes = record { step = Push (Followed RBX); end = 1 } ∷ []
prologue_of PushesAndAllocates = record { step = Push (Followed RBX); end = 1 } ∷ record { step = Allocate 16; end = 5 } ∷ []
prologue_of SetsFrame = record { step = Push (Followed RBP); end = 1 } ∷ record { step = SetFrame 0; end = 4 } ∷ []
prologue_of SetsFrameAndPushes =
    record { step = Push (Followed RBP); end = 1 } ∷ record { step = SetFrame 0; end = 4 }
    ∷ record { step = Push (Followed RBX); end = 5 } ∷ record { step = Allocate 24; end = 9 } ∷ []

-- The call is in the first site. From a cleanup's landing pad on nothing is asked.
abbrev pub sites_of : Handling → ℕ → Option (List Site)
sites_of PassesOn start = None
sites_of CleansUp start = Some (
    record { range = record { from = start + 16; to = start + 40 }; action = Cleanup (start + 48) }
    ∷ record { range = record { from = start + 48; to = start + 64 }; action = NoAction } ∷ [])
sites_of Catches start = Some (
    record { range = record { from = start + 16; to = start + 40 }; action = Catch (start + 48) } ∷ [])

-- a function by its prologue, its language table and its start
abbrev pub code_at : Kind → Handling → ℕ → Function
code_at kind handling start = record {
  start = start;
  end = start + 64;
  prologue = prologue_of kind;
  bodies = record { from = start + 16; to = start + 64 } ∷ [];
  sites = sites_of handling start;
  outermost = false;
}

abbrev pub function_of : Outline → Function
function_of o = code_at o.kind o.handling (start_of o.index)

abbrev pub functions_of : List Outline → List Function
functions_of os = map function_of os
