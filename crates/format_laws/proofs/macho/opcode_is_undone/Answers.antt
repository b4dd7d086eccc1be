use Rattle.format_laws.proofs.MachoSteps.{opcode_undone}
use Rattle.format_laws.proofs.macho.opcode_is_undone.Goals as goal

pub returns : goal.returns
returns c = λ image frames f word t s columns a d is words shows entered ends inside. opcode_undone image f is s t columns entered words shows ends a inside frames word d
