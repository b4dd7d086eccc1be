use Rattle.format_laws.proofs.MachoSteps.{macho_undone}
use Rattle.format_laws.proofs.macho.macho_body_is_undone.Goals as goal

pub returns : goal.returns
returns c = λ image m functions f t s columns a d has is words shows entered ends inside. macho_undone image f is s t columns entered words shows ends a inside m functions d has
