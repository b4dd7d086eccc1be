-- The snapshot of a generated chain.
use Rattle.std.specs.Prelude.{ℕ, ◌+◌, ◌*◌, [], ◌∷◌, None, false}
use Rattle.unwind_definitions.specs.State.{State}
use Rattle.unwind_arch.specs.declared.x86_64.Context.{Context}
use Rattle.fde_finders.specs.declared.custom.FrameInfo.{FrameInfo}
use Rattle.fde_finders.specs.declared.custom.FrameInfoKind.TheVariants.{EhFrameHdr}
use Rattle.stack_steps.specs.declared.space.Module.{Module}
use Rattle.stack_steps.specs.declared.space.ModuleTables.TheVariants.{Elf}
use Rattle.stack_deliver.specs.Resumes.{resume_table}
use Rattle.generated_chains.specs.declared.stack.Registers.{Registers}
use Rattle.generated_chains.specs.declared.chain.Chain.{Chain}
use Rattle.generated_chains.specs.Outlines.{outlines}
use Rattle.generated_chains.specs.Code.{text}
use Rattle.generated_chains.specs.Calls.{state_of, resumes_of}
use Rattle.generated_chains.specs.Tables.{header_place}
use Rattle.generated_chains.specs.Memory.{image_of}
use Rattle.generated_chains.specs.Made.{spans_of}
use Rattle.stack_snapshot.specs.Content.{Content}

-- the context of these four registers, which has 0 in each other one
abbrev pub context_by : (ra sp rbx rbp : ℕ) → Context
context_by ra sp rbx rbp = record { registers = 0 ∷ 0 ∷ 0 ∷ rbx ∷ 0 ∷ 0 ∷ rbp ∷ sp ∷ 0 ∷ 0 ∷ 0 ∷ 0 ∷ 0 ∷ 0 ∷ 0 ∷ 0 ∷ []; ra = ra; mcxsr = 0; fcw = 0 }

abbrev pub context_in : Registers → Context
context_in r = context_by r.ra r.sp r.rbx r.rbp

abbrev pub context_at : State → Context
context_at s = context_by s.ra s.sp s.rbx s.rbp

-- the module of so many functions, which names its header
abbrev pub tables_there : FrameInfo
tables_there = record { text_base = None; kind = EhFrameHdr header_place }

abbrev pub module_over : ℕ → Module
module_over count = record { start = text; end = text + 64 * count; tables = Elf tables_there }

-- the exception that is raised
abbrev pub exception : ℕ
exception = 0x900000

-- the snapshot of the chain of so many calls that a seed gives
abbrev pub case_of : ℕ → ℕ → Content
case_of count seed = record {
  regions = image_of seed (outlines seed count);
  modules = module_over count ∷ [];
  start = context_at (state_of seed (outlines seed count));
  exception = exception;
  class = 0;
  resumes = resumes_of (outlines seed count);
  limit = count + 1;
  interrupted = false;
}

-- the snapshot of a chain of so many calls that was made
abbrev pub content_with : Chain → ℕ → Content
content_with c count = record {
  regions = spans_of c;
  modules = module_over count ∷ [];
  start = context_in c.innermost;
  exception = exception;
  class = 0;
  resumes = resume_table c.resumes.items;
  limit = count + 1;
  interrupted = false;
}
