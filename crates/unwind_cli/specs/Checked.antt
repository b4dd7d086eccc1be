-- What is read of a function that pushes RBX and is claimed so. Its table is that of the stored run.
use Rattle.std.specs.Prelude.{ℕ, List, [], ◌∷◌, codes, None}
use Rattle.unwind_laws.specs.Pushing.{frames, stack, function}
use Rattle.fde_finders.specs.declared.custom.FrameInfoKind.TheVariants.{EhFrame}
use Rattle.stack_steps.specs.StopSample.{pushing_module}
use Rattle.claim_checks.specs.declared.claimed.ClaimedModule.{ClaimedModule}

abbrev pub claimed : ClaimedModule
claimed = record {
  memory = record {
    regions = record { start = 0x500000; bytes = frames } ∷ record { start = 0x7000; bytes = stack } ∷ [];
    modules = pushing_module ∷ [];
  };
  elf = record { start = 0x401000; end = 0x401010; frame = record { text_base = None; kind = EhFrame 0x500000 } };
  claims = function ∷ [];
}

abbrev pub claimed_json : List ℕ
claimed_json = codes "{\"regions\":[{\"address\":\"0x500000\",\"bytes\":\"1400000000000000017a5200017810011b0c070890010000140000001c000000e00ff0ff1000000000410e108302000000000000\"},{\"address\":\"0x7000\",\"bytes\":\"05000000000000000000000000000000\"}],\"modules\":[{\"kind\":\"elf\",\"start\":\"0x401000\",\"end\":\"0x401010\",\"eh_frame\":\"0x500000\"}],\"functions\":[{\"start\":\"0x401000\",\"end\":\"0x401010\",\"steps\":[{\"push\":\"rbx\",\"end\":\"0x1\"}],\"body\":[[\"0x401001\",\"0x401010\"]]}]}"
