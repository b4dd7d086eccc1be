use Rattle.std.proofs.Common.{sym, ◌∙◌}
use Rattle.memory_image.specs.Image.{IsTaken}
use Rattle.memory_image.proofs.OverLemmas.{is_taken, over}
use Rattle.memory_image.proofs.image.MemoryImage.over.Goals as goal

is_free : (c : goal.After-laid_out) → IsTaken c.args.below.now c.args.address c.args.bytes.now
is_free c = is_taken c.args.below.now c.args.address c.args.bytes.now (sym c.refusal.ensures ∙ c.in_default.is)

pub invariant_of-result : goal.invariant_of-result
invariant_of-result c = ((over c.args.below.now c.args.address c.args.bytes.now c.laid_out.ensures (is_free c)).laid_out, (is_free c, c.laid_out.ensures))

pub returns-clause-added : goal.returns-clause-added
returns-clause-added c = (over c.args.below.now c.args.address c.args.bytes.now c.laid_out.ensures (is_free c)).adds

pub returns-clause-laid_out : goal.returns-clause-laid_out
returns-clause-laid_out c = (over c.args.below.now c.args.address c.args.bytes.now c.laid_out.ensures (is_free c)).laid_out
