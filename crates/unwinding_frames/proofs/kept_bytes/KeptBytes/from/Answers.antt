use Rattle.std.proofs.Common.{refl, arith}
use Rattle.unwinding_frames.proofs.Windows.{kept_read}
use Rattle.unwinding_frames.proofs.kept_bytes.KeptBytes.from.Goals as goal

pub returns-then-offset-self : goal.returns-then-offset-self
returns-then-offset-self c = λ image laid place. kept_read image c.args.self.now.start c.args.self.now.bytes.now laid place c.args.address _ (omega arith) refl c.if-offset-self.true _ refl
