use Rattle.std.proofs.Common.{◌≡◌, ◌+◌, ◌-◌, ◌++◌, false, length, get_or, arith, rules}
use Rattle.std.proofs.Output.{has_written_append}
use Rattle.macho_unwind_info.specs.Arm64.{pair_text}
use Rattle.macho_unwind_info.specs.declared.opcodes.arm64.Pair.{Pair}
use Rattle.macho_unwind_info.proofs.PairLemmas.{pairs_step}
use Rattle.macho_unwind_info.proofs.opcodes.arm64.write_pairs.Goals as goal

pub loop-pair-preserved : goal.loop-pair-preserved
loop-pair-preserved g c =
    let (room, done, text, wrote) = c.loop-pair.invariant in
    let i = c.loop-pair.pair-index in
    let pair : Pair = get_or c.args.pairs.now i (record { saved = false; register = 0 }) in
    let left : length c.args.pairs.now - i ≡ (length c.args.pairs.now - (i + 1)) + 1 = omega arith in (
      omega arith,
      done ++ pair_text pair.register c.loop-pair.below,
      pairs_step c.loop-pair.below i c.args.pairs.now (record { saved = false; register = 0 }) done _ c.loop-pair-test.true c.if-not-pair.false text,
      λ plain. has_written_append _ _ _ _ _ _ (wrote plain) (search rules),
    )
