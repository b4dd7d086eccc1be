-- A thread that was interrupted in code without a table that keeps RBP as its frame pointer. The code was called by the second of three
-- functions that call one another, whose module has tables.
use Rattle.std.specs.Prelude.{ℕ, List, [], ◌∷◌, ◌++◌, codes, None, true, false}
use Rattle.unwind_definitions.specs.State.{State}
use Rattle.unwind_laws.specs.Three as three
use Rattle.unwind_arch.specs.declared.x86_64.Context.{Context}
use Rattle.stack_walks.specs.declared.walk_end.EndReason.TheVariants.{NoModule, Outermost}
use Rattle.stack_walks.specs.WalkEnds.{contexts_to_end}
use Rattle.stack_snapshot.specs.Content.{Content, space_of}
use Rattle.stack_report.specs.Report.{line}
use Rattle.backtrace.specs.Code.{PlacesValue}
use Rattle.backtrace.specs.Tracing.{TraceValue}
use Rattle.backtrace.specs.ChainSample.{calling, calling_places}

abbrev pub start : Context
start = record { registers = 0 ∷ 0 ∷ 0 ∷ 0x11 ∷ 0 ∷ 0 ∷ 0x70c0 ∷ 0x70b0 ∷ 0 ∷ 0 ∷ 0 ∷ 0 ∷ 0 ∷ 0 ∷ 0x2e ∷ 0 ∷ []; ra = 0x5010; mcxsr = 0; fcw = 0 }

-- its caller by the two words at RBP
abbrev pub caller : Context
caller = record { registers = 0 ∷ 0 ∷ 0 ∷ 0x11 ∷ 0 ∷ 0 ∷ 0xc ∷ 0x70d0 ∷ 0 ∷ 0 ∷ 0 ∷ 0 ∷ 0 ∷ 0 ∷ 0x2e ∷ 0 ∷ []; ra = 0x401030; mcxsr = 0; fcw = 0 }

-- the start as a state of a function that has pushed RBP and set it, and has a room of 16 bytes
abbrev pub callee : State
callee = three.state 0x5010 0x70b0 0x11 0x70c0 0x2e

abbrev pub snapshot : Content
snapshot = record {
  regions = calling.regions;
  modules = calling.modules;
  start = start;
  exception = 0;
  class = 0;
  resumes = [];
  limit = 8;
  interrupted = true;
}

abbrev pub places : PlacesValue
places = record { origins = calling_places.origins; code = record { start = 0x5000; end = 0x6000; path = codes "/lib/bare" } ∷ [] }

-- by tables there is the start alone
abbrev pub trace : TraceValue
trace = record { first = None; states = start ∷ []; why = NoModule 0x5010; popped = false }

-- and from its caller on the rest of the stack
abbrev pub walk : TraceValue
walk = record { first = None; states = contexts_to_end (space_of snapshot) 7 caller false; why = Outermost; popped = false }

abbrev pub json : List ℕ
json = codes "{\"regions\":[{\"address\":\"0x500000\",\"bytes\":\"1400000000000000017a5200017810011b0c070890010000180000001c000000e00ff0ff2000000000410e108602430d064583031c00000000000000017a504c5200017810079bb92f00001b1b0c0708900100001800000024000000c40ff0ff30000000049b1f0000410e10830200002000000040000000d80ff0ff30000000048b1f0000420e10410e18440e2083038e02000000000000\"},{\"address\":\"0x502000\",\"bytes\":\"ffff01080810200020100000ff9b0c010408102001010000000000\"},{\"address\":\"0x503000\",\"bytes\":\"0040400000000000\"},{\"address\":\"0x70b0\",\"bytes\":\"000000000000000011000000000000000c0000000000000030104000000000002200000000000000601040000000000000000000000000000b000000000000000e000000000000000000000000000000\"}],\"modules\":[{\"kind\":\"elf\",\"start\":\"0x401000\",\"end\":\"0x401080\",\"eh_frame\":\"0x500000\",\"path\":\"/lib/three\",\"bias\":\"0x400000\"}],\"start\":{\"rip\":\"0x5010\",\"rsp\":\"0x70b0\",\"rbx\":\"0x11\",\"rbp\":\"0x70c0\",\"r14\":\"0x2e\"},\"limit\":8,\"interrupted\":true,\"code\":[{\"start\":\"0x5000\",\"end\":\"0x6000\",\"path\":\"/lib/bare\"}]}"

-- the frame to which RBP led is marked, and those after it are by tables
abbrev pub text : List ℕ
text = line (codes "#0  0x0000000000005010")
    ++ line (codes "#1  0x0000000000401030 in three+0x1030 (a guess, by the frame pointer)")
    ++ line (codes "#2  0x0000000000401060 in three+0x1060")
    ++ line (codes "end: the outermost frame, which returns to 0")
