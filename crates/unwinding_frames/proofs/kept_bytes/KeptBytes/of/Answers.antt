use Rattle.unwinding_frames.proofs.Windows.{kept_from}
use Rattle.unwinding_frames.proofs.kept_bytes.KeptBytes.of.Goals as goal

pub returns-clause-bytes : goal.returns-clause-bytes
returns-clause-bytes c = kept_from c.args.image.now c.args.address c.bytes_from.result.now c.bytes_from.ensures.laid_out c.bytes_from.ensures.held
