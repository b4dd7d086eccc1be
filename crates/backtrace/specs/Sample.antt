-- A thread that was interrupted at the address 0, with the return address of the call that led there on its stack.
use Rattle.std.specs.Prelude.{ℕ, true, false, List, [], ◌∷◌, ◌++◌, Some, None, codes}
use Rattle.unwind_definitions.specs.State.{State}
use Rattle.unwind_definitions.specs.Function.{Function}
use Rattle.unwind_arch.specs.declared.x86_64.Context.{Context}
use Rattle.stack_walks.specs.declared.walk_end.EndReason.TheVariants.{NoModule}
use Rattle.stack_snapshot.specs.Content.{Content}
use Rattle.stack_snapshot.specs.Sampled.{SampledContent}
use Rattle.stack_report.specs.Report.{line}
use Rattle.backtrace.specs.Code.{PlacesValue}
use Rattle.backtrace.specs.Tracing.{TraceValue}

-- a return address, a stack pointer, and no other register
abbrev pub context : ℕ → ℕ → Context
context ra sp = record { registers = 0 ∷ 0 ∷ 0 ∷ 0 ∷ 0 ∷ 0 ∷ 0 ∷ sp ∷ 0 ∷ 0 ∷ 0 ∷ 0 ∷ 0 ∷ 0 ∷ 0 ∷ 0 ∷ []; ra = ra; mcxsr = 0; fcw = 0 }

abbrev pub state : ℕ → ℕ → State
state ra sp = record { ra = ra; sp = sp; rbx = 0; rbp = 0; r12 = 0; r13 = 0; r14 = 0; r15 = 0 }

abbrev pub snapshot : Content
snapshot = record {
  regions = record { start = 0x7000; bytes = 0x05 ∷ 0x10 ∷ 0 ∷ 0 ∷ 0 ∷ 0 ∷ 0 ∷ 0 ∷ [] } ∷ [];
  modules = [];
  start = context 0 0x7000;
  exception = 0;
  class = 0;
  resumes = [];
  limit = 2;
  interrupted = true;
}

-- its caller is in no module either
abbrev pub trace : TraceValue
trace = record { first = Some (context 0 0x7000); states = context 0x1005 0x7008 ∷ []; why = NoModule 0x1004; popped = false }

abbrev pub text : List ℕ
text = line (codes "#0  0x0000000000000000")
    ++ line (codes "#1  0x0000000000001005 (return address on the stack)")
    ++ line (codes "end: no module holds 0x0000000000001004")

-- the snapshot's text
abbrev pub json : List ℕ
json = codes "{\"regions\":[{\"address\":\"0x7000\",\"bytes\":\"0510000000000000\"}],\"modules\":[],\"start\":{\"rip\":\"0x0\",\"rsp\":\"0x7000\"},\"limit\":2,\"interrupted\":true}"

-- ---- the same as a call of a function without a prologue

abbrev pub callee : State
callee = state 0 0x7000

abbrev pub caller : State
caller = state 0x1005 0x7008

abbrev pub entry : Function
entry = record { start = 0; end = 0x10; prologue = []; bodies = record { from = 4; to = 0x10 } ∷ []; sites = None; outermost = false }

-- ---- two threads: that one, and one that stands after a call in no module

abbrev pub samples : SampledContent
samples = record {
  regions = snapshot.regions;
  modules = [];
  samples = record { start = context 0 0x7000; interrupted = true } ∷ record { start = context 0x1005 0x7000; interrupted = false } ∷ [];
  limit = 2;
}

abbrev pub other_trace : TraceValue
other_trace = record { first = None; states = context 0x1005 0x7000 ∷ []; why = NoModule 0x1004; popped = false }

abbrev pub other_text : List ℕ
other_text = line (codes "#0  0x0000000000001005")
    ++ line (codes "end: no module holds 0x0000000000001004")

abbrev pub threads : List ℕ
threads = (line (codes "thread 0") ++ text) ++ ((line (codes "thread 1") ++ other_text) ++ [])

abbrev pub samples_json : List ℕ
samples_json = codes "{\"regions\":[{\"address\":\"0x7000\",\"bytes\":\"0510000000000000\"}],\"modules\":[],\"samples\":[{\"start\":{\"rip\":\"0x0\",\"rsp\":\"0x7000\"},\"interrupted\":true},{\"start\":{\"rip\":\"0x1005\",\"rsp\":\"0x7000\"}}],\"limit\":2}"

-- ---- a thread that was interrupted in code without a table, with the same word at its stack pointer

abbrev pub in_code : Content
in_code = record {
  regions = snapshot.regions;
  modules = [];
  start = context 0x5000 0x7000;
  exception = 0;
  class = 0;
  resumes = [];
  limit = 2;
  interrupted = true;
}

abbrev pub code_places : PlacesValue
code_places = record { origins = []; code = record { start = 0x5000; end = 0x6000; path = codes "/lib/bare" } ∷ [] }

abbrev pub code_trace : TraceValue
code_trace = record { first = None; states = context 0x5000 0x7000 ∷ []; why = NoModule 0x5000; popped = false }

abbrev pub in_code_text : List ℕ
in_code_text = line (codes "#0  0x0000000000005000")
    ++ line (codes "end: code without a table at 0x0000000000005000 in bare")

abbrev pub code_json : List ℕ
code_json = codes "{\"regions\":[{\"address\":\"0x7000\",\"bytes\":\"0510000000000000\"}],\"modules\":[],\"start\":{\"rip\":\"0x5000\",\"rsp\":\"0x7000\"},\"limit\":2,\"interrupted\":true,\"code\":[{\"start\":\"0x5000\",\"end\":\"0x6000\",\"path\":\"/lib/bare\"}]}"
