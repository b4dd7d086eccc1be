use Rattle.std.proofs.Common.{◌≡◌, ℕ, ◌+◌, ◌-◌, ◌*◌, ◌<◌, ◌^◌, List, ◌++◌, length, drop}
use Rattle.std.specs.Fmt.{HasWritten, IsPlainFormatter}
use Rattle.macho_unwind_info.specs.Arm64.{pairs_text}
use Rattle.macho_unwind_info.proofs.opcodes.arm64.write_pairs.Given as goal

abbrev pub invariant-loop-pair : goal.invariant-loop-pair
invariant-loop-pair g l =
    (l.below + 16 * (length l.pairs - l.pair-index) < 2 ^ 31) × (done : List ℕ)
    × (done ++ pairs_text l.below (drop l.pair-index l.pairs) ≡ pairs_text l.initial.below l.pairs)
    × (IsPlainFormatter l.initial.f → HasWritten g.W.Write.write_str_gives l.initial.f done l.f)
