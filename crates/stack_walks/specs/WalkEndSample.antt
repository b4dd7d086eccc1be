-- Small stacks at which walks end for each reason.
use Rattle.std.specs.Prelude.{ℕ, List, [], ◌∷◌, ◌++◌, replicate, None}
use Rattle.unwind_arch.specs.declared.x86_64.Context.{Context}
use Rattle.fde_finders.specs.declared.custom.FrameInfoKind.TheVariants.{EhFrame}
use Rattle.stack_steps.specs.declared.space.Module.{Module}
use Rattle.stack_steps.specs.declared.space.ModuleTables.TheVariants.{Elf}
use Rattle.stack_steps.specs.Modules.{SpaceValue, without_index}

-- stopped after a call that returns to an address
abbrev pub after_call : ℕ → Context
after_call ra = record { registers = replicate 16 0; ra = ra; mcxsr = 0; fcw = 0 }

abbrev pub nowhere : SpaceValue
nowhere = record { image = []; modules = []; added = [] }

abbrev pub module_there : Module
module_there = record { start = 0x1000; end = 0x1010; tables = Elf (record { text_base = None; kind = EhFrame 0x2000 }) }

-- a module at 0x1000, whose frame table has these bytes
abbrev pub held_by : List ℕ → SpaceValue
held_by table = record {
  image = record { start = 0x2000; bytes = table } ∷ [];
  modules = module_there ∷ [];
  added = without_index module_there ∷ [];
}

-- the list's end
abbrev pub no_entry : List ℕ
no_entry = 0 ∷ 0 ∷ 0 ∷ 0 ∷ []

-- an entry that is longer than what is left
abbrev pub cut_entry : List ℕ
cut_entry = 9 ∷ 0 ∷ 0 ∷ 0 ∷ 1 ∷ []

-- A common information entry whose program is an instruction that there is not, and a description of the function at 0x1000, of 16
-- bytes.
abbrev pub bad_row : List ℕ
bad_row = (10 ∷ 0 ∷ 0 ∷ 0 ∷ 0 ∷ 0 ∷ 0 ∷ 0 ∷ 1 ∷ 0 ∷ 1 ∷ 0x78 ∷ 16 ∷ 0x3f ∷ [])
    ++ (20 ∷ 0 ∷ 0 ∷ 0 ∷ 18 ∷ 0 ∷ 0 ∷ 0 ∷ 0 ∷ 0x10 ∷ 0 ∷ 0 ∷ 0 ∷ 0 ∷ 0 ∷ 0 ∷ 16 ∷ 0 ∷ 0 ∷ 0 ∷ 0 ∷ 0 ∷ 0 ∷ 0 ∷ [])
