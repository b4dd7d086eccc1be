-- The snapshot of a thread that was stopped at the return of a function that pushes RBX, after the pop, with its stack from its stack
-- pointer on.
use Rattle.std.specs.Prelude.{ℕ, List, [], ◌∷◌, ◌++◌, codes, true, None}
use Rattle.stack_steps.specs.StopSample.{pushing_module}
use Rattle.stack_walks.specs.declared.walk_end.EndReason.TheVariants.{Outermost}
use Rattle.popped_registers.specs.PoppedSample as popped
use Rattle.stack_snapshot.specs.Content.{Content}
use Rattle.stack_snapshot.specs.Sampled.{SampledContent}
use Rattle.stack_report.specs.Report.{line}
use Rattle.backtrace.specs.Code.{PlacesValue, without_code}
use Rattle.backtrace.specs.Tracing.{TraceValue}

abbrev pub snapshot : Content
snapshot = record {
  regions = popped.tables ∷ record { start = 0x7008; bytes = popped.stack } ∷ [];
  modules = pushing_module ∷ [];
  start = popped.start;
  exception = 0;
  class = 0;
  resumes = [];
  limit = 3;
  interrupted = true;
}

abbrev pub places : PlacesValue
places = without_code (record { start = 0x401000; end = 0x401010; path = codes "pushed_rbx"; bias = 0x400000 } ∷ [])

abbrev pub trace : TraceValue
trace = record { first = None; states = popped.start ∷ popped.caller ∷ popped.outside ∷ []; why = Outermost; popped = true }

abbrev pub json : List ℕ
json = codes "{\"regions\":[{\"address\":\"0x500000\",\"bytes\":\"1400000000000000017a5200017810011b0c070890010000180000001c000000e00ff0ff1000000000410e1083024e0e0800000000000000\"},{\"address\":\"0x7008\",\"bytes\":\"061040000000000001000000000000000000000000000000\"}],\"modules\":[{\"kind\":\"elf\",\"start\":\"0x401000\",\"end\":\"0x401010\",\"eh_frame\":\"0x500000\",\"path\":\"pushed_rbx\",\"bias\":\"0x400000\"}],\"start\":{\"rip\":\"0x40100f\",\"rsp\":\"0x7008\",\"rbx\":\"0x9\"},\"limit\":3,\"interrupted\":true}"

abbrev pub text : List ℕ
text = line (codes "#0  0x000000000040100f in pushed_rbx+0x100f (popped registers kept)")
    ++ line (codes "#1  0x0000000000401006 in pushed_rbx+0x1006")
    ++ line (codes "end: the outermost frame, which returns to 0")

-- ---- the thread as a sample

abbrev pub samples : SampledContent
samples = record {
  regions = snapshot.regions;
  modules = pushing_module ∷ [];
  samples = record { start = popped.start; interrupted = true } ∷ [];
  limit = 3;
}

abbrev pub samples_json : List ℕ
samples_json = codes "{\"regions\":[{\"address\":\"0x500000\",\"bytes\":\"1400000000000000017a5200017810011b0c070890010000180000001c000000e00ff0ff1000000000410e1083024e0e0800000000000000\"},{\"address\":\"0x7008\",\"bytes\":\"061040000000000001000000000000000000000000000000\"}],\"modules\":[{\"kind\":\"elf\",\"start\":\"0x401000\",\"end\":\"0x401010\",\"eh_frame\":\"0x500000\",\"path\":\"pushed_rbx\",\"bias\":\"0x400000\"}],\"samples\":[{\"start\":{\"rip\":\"0x40100f\",\"rsp\":\"0x7008\",\"rbx\":\"0x9\"},\"interrupted\":true}],\"limit\":3}"

abbrev pub threads : List ℕ
threads = (line (codes "thread 0") ++ text) ++ []
