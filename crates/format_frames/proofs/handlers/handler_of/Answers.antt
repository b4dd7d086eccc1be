use Rattle.std.proofs.Common.{sym, ◌∙◌}
use Rattle.format_definitions.specs.PeImage.{memory_of}
use Rattle.format_frames.proofs.handlers.handler_of.Goals as goal

pub returns : goal.returns
returns c = c.handler_of_function.ensures.by_memory (memory_of c.args.image.now c.args.base) (λ rva given g. sym g.3 ∙ g.2)
