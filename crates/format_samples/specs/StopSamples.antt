-- States that were stopped where they stand, in functions of PE modules.
use Rattle.std.specs.Prelude.{false, List, [], ◌∷◌, ◌++◌, replicate, None}
use Rattle.memory_image.specs.Image.{Span}
use Rattle.unwind_definitions.specs.State.{State, RBX}
use Rattle.unwind_definitions.specs.Prologue.{Followed, RSI, XMM, Push, Allocate, SetFrame, Store, PrologueStep}
use Rattle.unwind_definitions.specs.Function.{Function}
use Rattle.unwind_definitions.specs.Chain.{Call}
use Rattle.unwind_laws.specs.Windows as windows
use Rattle.pe_unwind_info.specs.declared.x86_64.function_table.RuntimeFunction.{RuntimeFunction}
use Rattle.format_laws.specs.PeSamples.{word, far, table_bytes, leaf_function, room_caller}

-- ---- in the prologue of a function whose first two steps a chained record tells of

abbrev pub chained_call : Call
chained_call = record { callee = windows.function; caller = windows.caller }

-- the steps that its own record tells of
abbrev pub allocation : List PrologueStep
allocation = record { step = Allocate 64; end = 4 } ∷ []

abbrev pub setting : List PrologueStep
setting = record { step = SetFrame 32; end = 9 } ∷ []

abbrev pub stores : List PrologueStep
stores = record { step = Store (Followed RBX) 16; end = 14 } ∷ record { step = Store RSI 24; end = 19 } ∷ record { step = Store (XMM 6) 40; end = 24 } ∷ []

-- after the step that allocates, and after the one that sets RBP
abbrev pub allocated_state : State
allocated_state = record windows.caller { ra = 0x140001004; sp = 0x7fa8 }

abbrev pub set_state : State
set_state = record windows.caller { ra = 0x140001009; sp = 0x7fa8; rbp = 0x7fc8 }

-- ---- a function that pushes RBX and allocates 40, and whose last three instructions are an epilog

-- push rbx; sub rsp, 40; nops; add rsp, 40; pop rbx; ret; and after the function int3
abbrev pub returning_image : List Span
returning_image = record { start = 0x6fd0; bytes = replicate 40 0 ++ (word 9 ++ far 0x60 0x10 0x40 0 0) } ∷
    record { start = 0x140001000; bytes = 0x53 ∷ 0x48 ∷ 0x83 ∷ 0xec ∷ 0x28 ∷ (replicate 53 0x90 ++ (0x48 ∷ 0x83 ∷ 0xc4 ∷ 0x28 ∷ 0x5b ∷ 0xc3 ∷ replicate 16 0xcc)) } ∷
    record { start = 0x140002000; bytes = table_bytes 0x40 0x10 } ∷
    record { start = 0x140002010; bytes = 0x01 ∷ 0x05 ∷ 0x02 ∷ 0x00 ∷ 0x05 ∷ 0x42 ∷ 0x01 ∷ 0x30 ∷ [] } ∷ []

abbrev pub returning_record : RuntimeFunction
returning_record = record { begin_address = 0x1000; end_address = 0x1040; unwind_info_address = 0x2010 }

abbrev pub returning_function : Function
returning_function = record {
  start = 0x140001000;
  end = 0x140001040;
  prologue = record { step = Push (Followed RBX); end = 1 } ∷ record { step = Allocate 40; end = 5 } ∷ [];
  bodies = record { from = 0x140001005; to = 0x14000103a } ∷ [];
  sites = None;
  outermost = false;
}

abbrev pub returning_caller : State
returning_caller = record { ra = 0x401060; sp = 0x7008; rbx = 9; rbp = 2; r12 = 3; r13 = 4; r14 = 5; r15 = 6 }

abbrev pub returning_call : Call
returning_call = record { callee = returning_function; caller = returning_caller }

-- before the add, before the pop, where RBX still holds another value, and before the return
abbrev pub at_add : State
at_add = record returning_caller { ra = 0x14000103a; sp = 0x6fd0; rbx = 7 }

abbrev pub at_pop : State
at_pop = record returning_caller { ra = 0x14000103e; sp = 0x6ff8; rbx = 7 }

abbrev pub at_return : State
at_return = record returning_caller { ra = 0x14000103f; sp = 0x7000 }

-- ---- a leaf whose body begins after its first instructions

abbrev pub waiting_leaf : Function
waiting_leaf = record leaf_function { bodies = record { from = 0x140001108; to = 0x140001110 } ∷ [] }

abbrev pub leaf_call : Call
leaf_call = record { callee = waiting_leaf; caller = room_caller }
