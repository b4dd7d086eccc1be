use Rattle.std.proofs.Common.{◌≡◌, length}
use Rattle.table_check.proofs.Deciding.{decides_yes}
use Rattle.table_check.proofs.GoneThrough.{all_done}
use Rattle.table_check.proofs.Nops.{zeros_are}
use Rattle.table_check.proofs.cies.are_nops.Goals as goal

pub returns : goal.returns
returns c = decides_yes (length c.args.program.now, zeros_are c.args.program.now (all_done (λ b. b) (λ b. b ≡ 0) c.args.program.now c.loop-byte.byte-index c.loop-byte-test.false c.loop-byte.invariant))
